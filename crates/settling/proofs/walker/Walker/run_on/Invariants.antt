use Rattle.std.proofs.Common.{◌≡◌, length}
use Rattle.stack.specs.Stacked.{downward}
use Rattle.walk.specs.Steps.{Walk}
use Rattle.settling.specs.Means.{core_at, net_at, tree_at, Kept}
use Rattle.settling.proofs.walker.Walker.run_on.Given as goal

abbrev pub invariant-loop-step : goal.invariant-loop-step
invariant-loop-step g l =
    Walk (net_at l.initial.self) (tree_at l.initial.self) l.source l._step
    (record { core = core_at l.self; frames = downward l.frames.room.now l.frames.len })
    × (length l.frames.room.now ≡ length l.initial.frames.room.now)
    × Kept l.initial.self l.self
