use Rattle.std.proofs.Common.{refl, ◌∙◌, add-one}
use Rattle.network.specs.Schemes.{network_of}
use Rattle.walk.specs.Rules.{Link, begun, next}
use Rattle.map.specs.Means.{tree_of}
use Rattle.settling.specs.Means.{core_at}
use Rattle.settling.proofs.Walkers.{kept_same, kept_then, kept_back}
use Rattle.settling.proofs.walker.Walker.follow_links.Goals as goal

pub loop-k-init : goal.loop-k-init
loop-k-init g c = (begun, refl, kept_same c.args.self.now)

pub loop-k-preserved : goal.loop-k-preserved
loop-k-preserved g c =
    let kept = c.loop-k.invariant.2 in
    let link =
    kept_back kept (λ z m. Link (network_of z) (tree_of m) c.args.v c.args.d c.loop-k.k (core_at c.loop-k.self) (core_at c.lower_along.new.self))
    c.lower_along.ensures.link in (
      rw add-one (next c.loop-k.invariant.0 link),
      c.lower_along.ensures.trail ∙ c.loop-k.invariant.1,
      kept_then kept c.lower_along.ensures.kept,
    )
