use Rattle.network.specs.Network.{Small}
use Rattle.network.specs.Schemes.{network_of}
use Rattle.making.specs.Joins.{Grown}
use Rattle.making.specs.Numbers.{StationsFirst, Numbered}
use Rattle.making.proofs.growth.Growth.grow_levels.Given as goal

abbrev pub invariant-loop-done : goal.invariant-loop-done
invariant-loop-done l = record {
  grown : Grown (network_of l.scheme) (Small (network_of l.scheme) l.done) l.self.groups;
  numbered : Numbered (network_of l.scheme) l.done 0 l.self.nodes;
  first : StationsFirst l.scheme.stations l.initial.self.nodes → StationsFirst l.scheme.stations l.self.nodes;
}
