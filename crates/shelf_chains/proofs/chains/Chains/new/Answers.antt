use Rattle.std.proofs.Common.{◌+◌, ap, length, rules}
use Rattle.std.proofs.lemmas.List.FromFn.{length-map-range_with_len}
use Rattle.shelf_chains.specs.Rings.{lone}
use Rattle.shelf_chains.proofs.Held.{all_alone}
use Rattle.shelf_chains.proofs.chains.Chains.new.Goals as goal

pub invariant_of-result : goal.invariant_of-result
invariant_of-result c = record {
  nodes = let l = ap length c.in_ok-ring.ensures in let n = length-map-range_with_len lone 0 (c.args.items + c.args.buckets) in search rules;
  ringed = ∣ all_alone c.in_ok-marks.marks c.in_ok-ring.ring.items c.args.items c.args.buckets c.in_ok-marks.ensures c.in_ok-ring.ensures ∣₁;
}
