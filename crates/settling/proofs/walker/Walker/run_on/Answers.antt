use Rattle.std.proofs.Common.{ℕ, ◌+◌, ◌-◌, ◌^◌, ◌<◌, List, ◌∷◌, refl, ◌∙◌, subst, arith}
use Rattle.network.specs.Schemes.{network_of}
use Rattle.stack.specs.Stacked.{downward}
use Rattle.walk.specs.declared.frame.Frame.{Frame}
use Rattle.walk.specs.Steps.{Walk, Open, Going, Taken, Step}
use Rattle.walk.specs.Laws.{Given, most_moves}
use Rattle.walk.proofs.Handover.{able, depth, small_enough}
use Rattle.walk.proofs.Ledger.{ends}
use Rattle.map.specs.Means.{tree_of}
use Rattle.settling.specs.Means.{core_at, tree_at, net_at}
use Rattle.settling.specs.Turns.{after}
use Rattle.settling.proofs.Schemes.{few_links}
use Rattle.settling.proofs.Stacks.{downward_length}
use Rattle.settling.proofs.Theory.{callable, short, walked_on}
use Rattle.settling.proofs.Walkers.{kept_then, kept_on, kept_back}
use Rattle.settling.specs.Asks.{Charted, Callable}
use Rattle.walk.specs.Able.{Able}
use Rattle.walk.specs.State.{Shelf, shelved}
use Rattle.settling.proofs.walker.Walker.run_on.Given as given
use Rattle.settling.proofs.walker.Walker.run_on.Goals as goal
use Rattle.settling.proofs.walker.Walker.run_on.Goals.{Start}

fitting : (g : given.Over) (c : Start g) → Given (net_at c.args.self.now) (tree_at c.args.self.now) c.args.source
fitting g c = record { fits = c.requires.charted.fits; sized = c.requires.charted.sized; station = c.requires.source }

limit : (g : given.Over) (c : Start g) → most_moves (net_at c.args.self.now) (tree_at c.args.self.now) < 65535
limit g c = small_enough (net_at c.args.self.now) (tree_at c.args.self.now) c.args.self.now.map.now.few (few_links c.args.self.now.scheme.now)

pub step-turn-requires : goal.step-turn-requires
step-turn-requires g c =
    let m = c.args.self.now.map.now in
    let t = tree_of m in
    let net = net_at c.args.self.now in
    let start = (goal.at.step-turn-requires g c).Start in
    let s = core_at c.loop-step.self in
    let f = c.in-Some.f in
    let fs = downward c.loop-step.frames.room.now (c.loop-step.frames.len - 1) in
    let walk =
    subst (λ (z : List Frame). Walk net t c.args.source c.loop-step._step (record { core = s; frames = z })) c.in-Some.ensures.top
    c.loop-step.invariant.0 in
    let kept = c.loop-step.invariant.2 in
    record {
      charted = kept_on kept Charted c.requires.charted;
      able = kept_on kept (λ z m. Able (tree_of m) s f) (able (fitting g start) (limit g start) walk refl);
      short = kept_on kept (λ z m. Open (tree_of m) s.final f.node → s.count f.node + 1 < 2 ^ 64)
          (short net t c.args.source c.loop-step._step s f fs (fitting g start) (limit g start) walk (λ x i. m.spreads x));
      callable = kept_on kept
          (λ z m. (v : ℕ) (h : Shelf) → Going (tree_of m) s f → Taken (tree_of m) s f.node v h → v < (tree_of m).stations
          → Callable (network_of z) (tree_of m) (shelved s h) v)
          (callable net t c.args.source c.loop-step._step s f fs (fitting g start) (limit g start) walk (λ x i. m.spreads x));
    }

pub turn_to-requires : goal.turn_to-requires
turn_to-requires g c =
    let m = c.args.self.now.map.now in
    let t = tree_of m in
    let net = net_at c.args.self.now in
    let start = (goal.at.turn_to-requires g c).Start in
    let deep = depth (fitting g start) (limit g start) c.loop-step.invariant.0 32 (λ x. m.levels x) in
    omega (arith, deep, downward_length c.loop-step.frames.room.now c.loop-step.frames.len c.loop-step.frames.within, c.requires.space, c.loop-step.invariant.1)

pub loop-step-preserved : goal.loop-step-preserved
loop-step-preserved g c =
    let t = tree_at c.args.self.now in
    let f = c.in-Some.f in
    let fs = downward c.loop-step.frames.room.now (c.loop-step.frames.len - 1) in
    let kept = c.loop-step.invariant.2 in
    let s = core_at c.loop-step.self in
    let s' = core_at c.step-turn.new.self in
    let step =
    kept_back kept (λ z m. Step (network_of z) (tree_of m) (record { core = s; frames = f ∷ fs }) (record { core = s'; frames = after c.step-turn.result f fs }))
    (c.step-turn.ensures.step fs) in
    let is = c.in-Some.ensures.top in (
      walked_on (net_at c.args.self.now) t c.args.source c.loop-step._step s s'
          (downward c.loop-step.frames.room.now c.loop-step.frames.len) _ (f ∷ fs) (after c.step-turn.result f fs) c.loop-step.invariant.0 is
          step (c.turn_to.ensures.is f fs is),
      c.turn_to.ensures.size ∙ c.loop-step.invariant.1,
      kept_then kept c.step-turn.ensures.kept,
    )

pub returns : goal.returns
returns g c =
    let m = c.args.self.now.map.now in
    let t = tree_of m in
    let net = net_at c.args.self.now in
    let start = (goal.at.returns g c).Start in
    absurd (omega (arith, ends net t c.args.source c.loop-step._step _ (fitting g start) c.loop-step.invariant.0, limit g start, m.few))
