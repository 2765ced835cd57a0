use Rattle.std.proofs.Common.{sym, refl, rules, ℕ}
use Rattle.std.proofs.lemmas.Option.{MatchOption-at_some}
use Rattle.settling.proofs.Looks.{some_where, going_root, decided}
use Rattle.settling.specs.Means.{tree_at, core_at}
use Rattle.settling.proofs.walker.Walker.goes_on.Given as given
use Rattle.settling.proofs.walker.Walker.goes_on.Goals as goal
use Rattle.walk.specs.Rules.{Lowest, Nothing}
use Rattle.settling.proofs.walker.Walker.goes_on.Goals.{Else-is_none}

least : (g : given.Over) (c : Else-is_none g) → (d : ℕ) × Lowest (tree_at c.args.self.now) (core_at c.args.self.now).so_far c.args.f.node d
least g c =
    let s = core_at c.args.self.now in
    let at = some_where c.least_of.result (search rules) in
    (at.0, MatchOption-at_some (Nothing (tree_at c.args.self.now) s.so_far c.args.f.node) (Lowest (tree_at c.args.self.now) s.so_far c.args.f.node) at.0 at.1 c.least_of.ensures)

pub returns-in_default : goal.returns-in_default
returns-in_default g c =
    let l = least g (goal.at.returns-in_default g c).Else-is_none in going_root _ _ _ l.0 l.1 c.requires.watch (sym c.in_default.ensures)

pub returns : goal.returns
returns g c =
    let l = least g (goal.at.returns g c).Else-is_none in
    decided _ _ _ l.0 l.1 c.requires.watch c.in-Some.p _ c.in-Some.ensures
    (let e = c.count_of.ensures in let f = c.coarser-by.ensures.is in cc) _ refl
