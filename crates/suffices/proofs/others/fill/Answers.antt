use Rattle.std.proofs.Common.{◌≡◌, ℕ, ◌+◌, ◌<◌, List, get_or, length, drop, arith, rules, ap, sym, ◌∙◌, length-drop, subst}
use Rattle.std.proofs.lemmas.List.{drop_more}
use Rattle.suffices.proofs.Leaving.{Filling, begin_filling, fill_more}
use Rattle.suffices.proofs.others.fill.Goals as goal

pub loop-place-init : goal.loop-place-init
loop-place-init g c =
    let h = g.K.Keeper.meaning c.args.keeper.now in
    let k = g.K.Keeper.meaning c.clear.new.self in
    record {
      end = search rules;
      left = search rules;
      low = search rules;
      listed = search rules;
      filling = begin_filling h k c.args.delays.now _ (search rules) c.clear.ensures;
    }

pub loop-place-preserved : goal.loop-place-preserved
loop-place-preserved g c =
    let s = c.in-Some.ensures.steps in
    let i = c.loop-place.invariant in
    let p = c.loop-place.place-iterator.a.start in
    let l = c.args.delays.now in
    let d = c.in-Some.d.now in
    let h = g.K.Keeper.meaning c.args.keeper.now in
    let k = g.K.Keeper.meaning c.loop-place.keeper in
    let k' = g.K.Keeper.meaning c.lower.new.self in
    let left = sym i.left ∙ s.1 in
    let low : p < k.places = omega (arith, s.0.1.0, i.end) in
    let long : p < length l = (let e = ap (λ (x : List ℕ). length x) left in omega (arith, length-drop p l)) in
    let split = drop_more l p 0 long in
    let is : d ≡ get_or l p 0 = cc in
    let more : c.next.new.self.b.rest.now ≡ drop (p + 1) l = cc in
    let filling = fill_more h k k' l p c.in-Some.place d c.lower.result (g.met.K.Keeper.sized c.loop-place.keeper) s.0.1.1 low is i.filling c.lower.ensures.done c.lower.ensures.refused in
    record {
      end = cc (i.filling.kept, filling.kept);
      left = more ∙ ap (λ (n : ℕ). drop n l) (sym s.0.1.2);
      low = omega (arith, s.0.1.2, i.filling.kept, filling.kept);
      listed = omega (arith, s.0.1.2);
      filling = subst (Filling h k' l) (sym s.0.1.2) filling;
    }
