use Rattle.std.proofs.Common.{◌≤◌, length, vec_capacity}
use Rattle.network.specs.Schemes.{network_of}
use Rattle.making.specs.Numbers.{StationsFirst, Numbered}
use Rattle.making.proofs.nodes.Nodes.number_level.Given as goal

abbrev pub invariant-loop-s : goal.invariant-loop-s
invariant-loop-s l = record {
  few : length l.self-inside.list.items ≤ 1024;
  room : 1024 ≤ vec_capacity l.self-inside.list;
  numbered : Numbered (network_of l.scheme) l.done l.s l.self-inside.list.items;
  first : StationsFirst l.scheme.stations l.initial.self-inside.list.items → StationsFirst l.scheme.stations l.self-inside.list.items;
}
