use Rattle.std.proofs.Common.{◌≡◌, ℕ, ◌+◌, ◌-◌, ap, ◌∙◌}
use Rattle.settling.specs.Means.{count_of, tree_at}
use Rattle.settling.proofs.Looks.{looked}
use Rattle.settling.proofs.walker.Walker.take_next.Goals as goal

pub returns-clause-looked : goal.returns-clause-looked
returns-clause-looked g c =
    let t = tree_at c.args.self.now in
    let w = c.args.self.now.trail in
    let at : c.in_ok-b.b ≡ t.first c.args.node + (count_of w c.args.node - c.in_ok-start.start) =
    c.in_ok-b.ensures.1 ∙ ap (λ (z : ℕ). t.first c.args.node + (z - c.in_ok-start.start)) c.count_of.ensures in
    looked t w (g.S.Shelf.meaning c.args.self.now.shelf) _ (g.K.Keeper.meaning c.args.self.now.keeper) c.args.node c.in_ok-start.start
    c.in_ok-b.b c.requires c.in_ok-start.ensures at c.take.result c.take.ensures
