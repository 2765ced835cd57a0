use Rattle.std.proofs.Common.{◌≡◌, ◌+◌, List, suc, sym, refl, subst, arith, ◌<◌, length}
use Rattle.network.specs.Schemes.{network_of}
use Rattle.making.specs.declared.nodes.Node.{Node}
use Rattle.making.specs.Numbers.{StationsFirst, Numbered}
use Rattle.making.proofs.Numbering.{none_here, one_more, first_more}
use Rattle.making.proofs.nodes.Nodes.number_level.Goals as goal
use Rattle.making.proofs.nodes.Nodes.number_level.Goals.{then-forms, else-forms}

pub loop-s-preserved : goal.loop-s-preserved
loop-s-preserved c =
    let p = c.requires in
    let l = c.loop-s in
    let i = l.invariant in
    let told = c.forms.ensures (network_of c.args.scheme.now) c.args.done p.before p.labels p.all in
    elim c.if-forms.branch [
      | then-forms w ↦
          let e = w.push_reserved.ensures in
          let room : length l.self-inside.list.items < 1024 = p.few c.args.done l.s l.self-inside.list.items i.numbered (told.0 w.if-forms.true) in
          let level : c.args.done + 1 ≡ suc c.args.done = omega arith in
          rw w.self-inside-is (record {
            few = omega (arith, e.len, l.self-inside.list.ok.0, w.push_reserved.new.self.ok.0);
            room = omega (arith, e.capacity);
            numbered = subst (λ (nodes : List Node). Numbered (network_of c.args.scheme.now) c.args.done (l.s + 1) nodes) (sym e.items)
                (one_more i.numbered (told.0 w.if-forms.true) _ level refl);
            first = λ h. subst (StationsFirst c.args.scheme.now.stations) (sym e.items) (first_more _ _ i.numbered.stations (i.first h));
          })
      | else-forms w ↦
          rw w.self-inside-is (record { few = i.few; room = i.room; numbered = none_here i.numbered (λ f. let yes = told.1 f in let no = w.if-forms.false in cc); first = i.first })
    ]
