use Rattle.settling.specs.Means.{core_at, tree_at}
use Rattle.settling.proofs.Places.{start_below, belongs_at}
use Rattle.settling.proofs.walker.Walker.belongs.Goals as goal

pub overflow_sub-k : goal.overflow_sub-k
overflow_sub-k g c =
    let s = core_at c.args.self.now in
    start_below (tree_at c.args.self.now) s.so_far s.base c.args.node c.in_ok-x.x c.in_ok-start.start c.in_ok-d.d _ c.requires.ready
    c.in_ok-x.ensures c.in_ok-start.ensures c.in_ok-d.ensures c.shift_of.ensures.is

pub returns : goal.returns
returns g c =
    let s = core_at c.args.self.now in
    belongs_at (tree_at c.args.self.now) s.so_far s.base c.args.node c.in_ok-x.x c.in_ok-start.start c.in_ok-d.d _ c.requires.ready
    c.in_ok-x.ensures c.in_ok-start.ensures c.in_ok-d.ensures c.shift_of.ensures.is c.bucket_at.result c.bucket_at.ensures
