-- Whether a group forms, by a look at all labels.
use Rattle.std.proofs.Common.{◌≡◌, ℕ, suc, ◌<◌, ◌≢◌, List, length, get_or, ap, ◌∙◌, arith}
use native.Mathlib.Decide.{dec_lt}
use Rattle.std.proofs.lemmas.List.{get_or_past, get_or_default}
use Rattle.network.specs.Network.{Network}
use Rattle.tree.specs.Components.{Forms}
use Rattle.tree.proofs.Making.{Labels, made_forms, forms_made}
use Rattle.making.specs.declared.groups.Member.{Member}
use Rattle.making.specs.Members.{alone, label_of, before_of}

-- what is read at the place of a station
pub label_at : (members : List Member) (s : ℕ) (m : Member) → s < length members → m ≡ get_or members s m → m.label ≡ label_of members s
label_at members s m h is = ap (λ (m : Member). m.label) (is ∙ get_or_default members s m (alone s) h)

-- another station of the list was a label, and s became its label
abbrev pub Taken : List Member → ℕ → Type 0
Taken members s = (r : ℕ) × (r < length members) × (r ≢ s) × (before_of members r ≡ r) × (label_of members r ≡ s)

-- that is so of a label s exactly if a group forms with s as its lowest station
module _ {g : Network} {i s : ℕ} (members : List Member) (was : Labels g i (before_of members)) (now : Labels g (suc i) (label_of members)) (all : length members ≡ g.stations) where
  pub taken_forms : s < length members → label_of members s ≡ s → Taken members s → Forms g (suc i) s
  taken_forms h still t = made_forms was now (omega arith) still (record { was = t.3; other = t.2; now = t.4 })

  pub forms_taken : s < length members → Forms g (suc i) s → Taken members s
  forms_taken h f =
      let r = before_of members f.other in
      let j = forms_made was now f in
      let within : r < length members = elim (dec_lt r (length members)) [
        | yes l ↦ l
        | no n ↦ absurd (omega (arith, ap (λ (m : Member). m.label) (get_or_past members r (alone r) (omega arith)), j.now, h))
      ] in
      (r, within, j.other, j.was, j.now)
