use Rattle.std.proofs.Common.{◌≡◌, ℕ, ◌<◌, length, get_or, Some, sym, subst, arith}
use Rattle.walk.specs.State.{Core, shelved}
use Rattle.walk.specs.Rules.{done}
use Rattle.walk.specs.Able.{Ready}
use Rattle.map.specs.Means.{tree_of}
use Rattle.settling.specs.Means.{core_at, tree_at}
use Rattle.settling.specs.Asks.{Brought, Walkable}
use Rattle.settling.proofs.Kids.{among_at, still_few, next_child}
use Rattle.settling.proofs.Walkers.{shelved_is, only_same, only_then, kept_on, kept_back}
use Rattle.settling.proofs.walker.Walker.put_children.Given as given
use Rattle.settling.proofs.walker.Walker.put_children.Goals as goal
use Rattle.settling.proofs.walker.Walker.put_children.Goals.{After-child_of-c}

less : (g : given.Over) (c : After-child_of-c g) → c.loop-i.i < length ((tree_at c.args.self.now).children c.args.node)
less g c = omega (arith, c.many_of-i-end.ensures)

child : (g : given.Over) (c : After-child_of-c g) → c.child_of-c.result ≡ get_or ((tree_at c.args.self.now).children c.args.node) c.loop-i.i 0
child g c =
    kept_back c.loop-i.invariant.1.kept (λ z m. c.child_of-c.result ≡ get_or ((tree_of m).children c.args.node) c.loop-i.i 0) c.child_of-c.ensures

same : (g : given.Over) (c : After-child_of-c g) → core_at c.loop-i.self ≡ shelved (core_at c.args.self.now) (core_at c.loop-i.self).shelf
same g c = shelved_is c.args.self.now c.loop-i.self c.loop-i.invariant.1

pub loop-i-init : goal.loop-i-init
loop-i-init g c = (done, only_same c.args.self.now)

pub bring-requires : goal.bring-requires
bring-requires g c =
    let at = (goal.at.bring-requires g c).After-child_of-c in
    let t = tree_at c.args.self.now in
    let s = core_at c.args.self.now in
    let s₁ = core_at c.loop-i.self in
    let x = c.child_of-c.result in
    let kept = c.loop-i.invariant.1.kept in
    let up : t.parent x ≡ Some c.args.node =
    subst (λ (x : ℕ). t.parent x ≡ Some c.args.node) (sym (child g at)) (c.requires.kids.child _ (among_at (t.children c.args.node) c.loop-i.i (less g at))) in
    record {
      listed = kept_on kept (λ z m. x < (tree_of m).nodes) (omega (arith, c.requires.tree.later _ _ up, c.requires.tree.listed _ _ up));
      tree = kept_on kept (λ z m. Walkable (tree_of m)) c.requires.tree;
      few = still_few t s (t.children c.args.node) c.loop-i.i s₁.shelf (less g at) c.loop-i.invariant.0 c.requires.kids.few;
      ready = kept_on kept (λ z m. Ready (tree_of m) s₁.so_far s₁.base x)
          (subst (λ (z : Core). Ready t z.so_far z.base x) (sym (same g at)) (c.requires.ready x up));
    }

pub loop-i-preserved : goal.loop-i-preserved
loop-i-preserved g c =
    let at = (goal.at.loop-i-preserved g c).After-child_of-c in
    let t = tree_at c.args.self.now in
    let s = core_at c.args.self.now in
    let s₁ = core_at c.loop-i.self in
    let xs = t.children c.args.node in
    let i = c.loop-i.i in
    let h' = (core_at c.bring.new.self).shelf in
    let kept = c.loop-i.invariant.1.kept in
    let br = kept_back kept (λ z m. Brought (tree_of m) s₁ c.child_of-c.result h') c.bring.ensures.brought in (
      next_child t s xs i s₁.shelf (less g at) c.loop-i.invariant.0 h' c.requires.kids.once
          (c.requires.kids.free _ (c.requires.kids.child _ (among_at xs i (less g at))))
          (subst (λ (z : Core). Brought t z (get_or xs i 0) h') (same g at) (subst (λ (x : ℕ). Brought t s₁ x h') (child g at) br)),
      only_then c.loop-i.invariant.1 c.bring.ensures.only_shelf,
    )
