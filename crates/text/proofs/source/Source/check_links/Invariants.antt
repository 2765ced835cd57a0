use Rattle.text.specs.Opening.{AllSound}
use Rattle.text.proofs.source.Source.check_links.Given as goal

abbrev pub invariant-loop-k : goal.invariant-loop-k
invariant-loop-k l = AllSound l.stations l.links l.k
