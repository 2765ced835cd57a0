use Rattle.std.proofs.Common.{◌≡◌, ◌∷◌, None, sym, subst, rules}
use Rattle.walk.specs.State.{Core}
use Rattle.walk.specs.Steps.{Step}
use Rattle.settling.specs.Means.{core_at, tree_at}
use Rattle.settling.proofs.Looks.{step_leave, step_end, some_where}
use Rattle.settling.proofs.Walkers.{shelved_is}
use Rattle.settling.proofs.walker.Walker.leave.Goals as goal

pub returns-then-is_some-clause-step : goal.returns-then-is_some-clause-step
returns-then-is_some-clause-step g c =
    let t = tree_at c.args.self.now in
    let s = core_at c.args.self.now in
    let up = some_where (t.parent c.args.f.node) (search rules) in
    let same = shelved_is c.args.self.now c.bring.new.self c.bring.ensures.only_shelf in
    λ n fs. subst (λ (z : Core). Step n t (record { core = s; frames = c.args.f ∷ fs }) (record { core = z; frames = fs })) (sym same)
    (step_leave n t s c.args.f fs c.requires.ended (core_at c.bring.new.self).shelf up.0 up.1 c.requires.free c.bring.ensures.brought)

pub returns-else-is_some-clause-step : goal.returns-else-is_some-clause-step
returns-else-is_some-clause-step g c =
    let t = tree_at c.args.self.now in
    let top : t.parent c.args.f.node ≡ None = search rules in
    λ n fs. step_end n t (core_at c.args.self.now) c.args.f fs c.requires.ended top
