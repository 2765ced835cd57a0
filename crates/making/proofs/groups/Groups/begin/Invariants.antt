use Rattle.std.proofs.Common.{◌≡◌, ℕ, ◌≤◌, vec_len, vec_capacity, get_or}
use Rattle.making.specs.Members.{alone}
use Rattle.making.proofs.groups.Groups.begin.Given as goal

abbrev pub invariant-loop-station : goal.invariant-loop-station
invariant-loop-station l = record {
  so_many : vec_len l.self-inside.members ≡ l.station;
  room : 512 ≤ vec_capacity l.self-inside.members;
  each_alone : (u : ℕ) → get_or l.self-inside.members.items u (alone u) ≡ alone u;
}
