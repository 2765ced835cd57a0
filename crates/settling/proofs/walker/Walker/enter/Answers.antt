use Rattle.std.proofs.Common.{◌≡◌, None, refl, rules}
use Rattle.map.specs.Means.{tree_of}
use Rattle.settling.specs.Means.{base_of, core_at, tree_at}
use Rattle.settling.specs.Turns.{again, first, beginning}
use Rattle.settling.proofs.Looks.{some_where}
use Rattle.settling.proofs.walker.Walker.enter.Goals as goal
use Rattle.settling.proofs.Walkers.{kept_back}
use Rattle.settling.proofs.walker.Walker.enter.Goals.{then-is_none, else-is_none}

pub returns-clause-entered : goal.returns-clause-entered
returns-clause-entered g c =
    let t = tree_at c.args.self.now in
    let before = c.args.self.now in
    elim c.if-is_none.branch [
      | then-is_none w ↦
          let shut : base_of before.trail c.args.node ≡ None = search rules in
          let after = w.expand.new.self in
          let frame : c.frame_of.result ≡ beginning (tree_at after) c.args.node c.args.p (core_at after) = rw w.self-is at c.frame_of.ensures in
          let kept = w.expand.ensures.kept in
          rw w.self-is (first shut w.expand.ensures.grown (kept_back kept (λ z m. c.frame_of.result ≡ beginning (tree_of m) c.args.node c.args.p (core_at after)) frame))
      | else-is_none w ↦
          let at = some_where (base_of before.trail c.args.node) (search rules) in
          let frame : c.frame_of.result ≡ beginning t c.args.node c.args.p (core_at before) = rw w.self-is at c.frame_of.ensures in
          rw w.self-is (again at.0 at.1 refl frame)
    ]
