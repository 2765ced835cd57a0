use Rattle.std.proofs.Common.{◌≡◌, ◌↔◌, List, IsTrue, get_or, sym, ◌∙◌, subst, rules}
use Rattle.std.proofs.iter.runs.Made.{chains}
use Rattle.tree.proofs.Making.{forms_label}
use Rattle.making.specs.declared.groups.Member.{Member}
use Rattle.making.proofs.Forming.{label_at, Taken, taken_forms, forms_taken}
use Rattle.making.proofs.groups.Groups.forms.Goals as goal

pub returns-then-index-s : goal.returns-then-index-s
returns-then-index-s c = λ g i was now all.
    let is = subst (λ (ms : List Member). c.index.result.now ≡ get_or ms c.args.s c.index.result.now) c.self.view_is c.index.ensures in
    let still = sym (label_at c.args.self.now c.args.s c.index.result.now c.requires is) ∙ c.if-index-s.true in
    let told : IsTrue c.any.result ↔ Taken c.args.self.now c.args.s = search (rules, chains) in
    (λ yes. taken_forms c.args.self.now was now all c.requires still (told.0 yes), λ f. told.1 (forms_taken c.args.self.now was now all c.requires f))

pub returns-else-index-s : goal.returns-else-index-s
returns-else-index-s c = λ g i was now all.
    let is = subst (λ (ms : List Member). c.index.result.now ≡ get_or ms c.args.s c.index.result.now) c.self.view_is c.index.ensures in
    let at = label_at c.args.self.now c.args.s c.index.result.now c.requires is in
    (λ yes. absurd (search rules), λ f. absurd (c.if-index-s.false (at ∙ forms_label was now f)))
