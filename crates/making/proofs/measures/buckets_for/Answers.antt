use Rattle.std.proofs.Common.{◌≡◌, ℕ, ◌+◌, ◌-◌, ◌^◌, ◌<◌, add-mul, sym, ap, ◌∙◌, arith}
use Rattle.std.specs.Int.{div_ceil}
use Rattle.std.proofs.lemmas.Grind.{div_ceil_times}
use Rattle.std.proofs.lemmas.Nat.{one_shl, pow_pos}
use Rattle.std.proofs.Math.Nat.{div-eq_of_lt-le}
use Rattle.tree.specs.Components.{rounded_up}
use Rattle.making.proofs.measures.buckets_for.Goals as goal

rounded : (a b : ℕ) → 0 < b → div_ceil a b ≡ rounded_up a b
rounded a b h =
    let t = div_ceil_times a b h in
    let k = div_ceil a b in
    sym (div-eq_of_lt-le {k = k} b (omega (arith, t.1)) (rw (add-mul k 1 b) (omega (arith, t.0))))

pub returns : goal.returns
returns c =
    let width = one_shl (c.args.level - 1) 64 (omega (arith, c.requires.1)) in
    let e = c.div_ceil.ensures ∙ ap (div_ceil c.args.spread) width ∙ rounded c.args.spread (2 ^ (c.args.level - 1)) (pow_pos (c.args.level - 1)) in
    ap (λ n. n + 1) e
