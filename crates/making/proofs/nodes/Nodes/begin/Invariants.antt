use Rattle.std.proofs.Common.{◌≡◌, ◌≤◌, vec_len, vec_capacity}
use Rattle.making.specs.Numbers.{StationsFirst}
use Rattle.making.proofs.nodes.Nodes.begin.Given as goal

abbrev pub invariant-loop-station : goal.invariant-loop-station
invariant-loop-station l = record {
  so_many : vec_len l.self-inside.list ≡ l.station;
  room : 1024 ≤ vec_capacity l.self-inside.list;
  first : StationsFirst l.station l.self-inside.list.items;
}
