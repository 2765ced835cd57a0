use Rattle.std.proofs.Common.{length, ◌<◌}
use Rattle.text.specs.Split.{words, WordAt}
use Rattle.text.proofs.Naming.{Seen}
use Rattle.text.proofs.content.Content.read_names.Given as goal

abbrev pub invariant-loop-j : goal.invariant-loop-j
invariant-loop-j l = Seen l.table (words l.self.bytes.now) l.j l.places × (l.j < length (words l.self.bytes.now) → WordAt l.self.bytes.now l.j l.start)
