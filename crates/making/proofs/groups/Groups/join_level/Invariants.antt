use Rattle.std.proofs.Common.{◌≡◌, ℕ}
use Rattle.network.specs.Schemes.{network_of}
use Rattle.tree.proofs.Ranks.{Past}
use Rattle.making.specs.Joins.{Grown}
use Rattle.making.specs.Members.{before_of}
use Rattle.making.proofs.groups.Groups.join_level.Given as goal

abbrev pub invariant-loop-entry : goal.invariant-loop-entry
invariant-loop-entry l = record {
  grown : Grown (network_of l.scheme) (Past (network_of l.scheme) l.done l.entry-index) l.self;
  before : (u : ℕ) → before_of l.self u ≡ before_of l.initial.self u;
}
