use Rattle.std.proofs.Common.{◌≡◌, ◌≤◌, length, drop}
use Rattle.suffices.proofs.Leaving.{Filling}
use Rattle.suffices.proofs.others.fill.Given as goal

abbrev pub invariant-loop-place : goal.invariant-loop-place
invariant-loop-place g l =
    let k = g.K.Keeper.meaning l.keeper in
    let p = l.place-iterator.a.start in
    record {
      end : l.place-iterator.a.end ≡ k.places;
      left : l.place-iterator.b.rest.now ≡ drop p l.delays;
      low : p ≤ k.places;
      listed : p ≤ length l.delays;
      filling : Filling (g.K.Keeper.meaning l.fn.keeper) k l.delays p;
    }
