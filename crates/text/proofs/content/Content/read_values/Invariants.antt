use Rattle.std.proofs.Common.{length, ℕ, ◌<◌, [], get_or, unwrap_or}
use Rattle.text.specs.Split.{words, WordAt}
use Rattle.text.specs.Values.{Spells}
use Rattle.text.proofs.content.Content.read_values.Given as goal

abbrev pub invariant-loop-j : goal.invariant-loop-j
invariant-loop-j l =
    ((i : ℕ) → i < l.j → Spells (unwrap_or l.state_at 4) i (get_or (words l.self.bytes.now) i []) (get_or l.values.numbers i 0) l.values.state)
    × (l.j < length (words l.self.bytes.now) → WordAt l.self.bytes.now l.j l.start)
