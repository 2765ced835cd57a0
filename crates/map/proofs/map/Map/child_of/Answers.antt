use Rattle.std.proofs.Common.{◌≡◌, ◌+◌, get_or, vec_items, ap, sym, ◌∙◌, arith, rules}
use Rattle.map.specs.declared.node.Node.{Node}
use Rattle.map.specs.Nodes.{nth}
use Rattle.map.proofs.Parts.{part_at, part_past}
use Rattle.map.proofs.map.Map.child_of.Goals as goal

pub returns-then-i-many : goal.returns-then-i-many
returns-then-i-many c =
    let xs = vec_items c.args.self.now.children in
    let n : Node = nth (vec_items c.args.self.now.nodes) c.args.node in
    let from : c.node-from.result.from ≡ n.from = ap (λ (m : Node). m.from) c.node-from.ensures in
    let many : c.node-from.result.many ≡ n.many = ap (λ (m : Node). m.many) c.node-from.ensures in
    let r : c.unwrap_or.result ≡ get_or xs (c.node-from.result.from + c.args.i) 0 = search rules in
    r ∙ ap (λ a. get_or xs (a + c.args.i) 0) from ∙ sym (part_at xs n.from n.many c.args.i (omega arith))

pub returns-else-i-many : goal.returns-else-i-many
returns-else-i-many c =
    let n : Node = nth (vec_items c.args.self.now.nodes) c.args.node in
    let many : c.node-from.result.many ≡ n.many = ap (λ (m : Node). m.many) c.node-from.ensures in
    sym (part_past (vec_items c.args.self.now.children) n.from n.many c.args.i (omega arith))
