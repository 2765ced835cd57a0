use Rattle.std.proofs.Common.{◌≡◌, take}
use Rattle.std.specs.Prelude.{count_by, ◌==◌}
use Rattle.text.specs.Split.{stop_byte}
use Rattle.text.proofs.split.count_stops.Given as goal

abbrev pub invariant-loop-byte : goal.invariant-loop-byte
invariant-loop-byte l = l.count ≡ count_by (λ b. b == stop_byte l.stop) (take l.byte-index l.bytes)
