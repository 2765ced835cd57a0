-- What changes where the progress at a node is written.
use Rattle.std.proofs.Common.{◌≡◌, ℕ, ◌+◌, ◌<◌, List, length, get_or, set, Some, vec_items, sym, ap, ◌∙◌, subst, inl, inr}
use Rattle.std.proofs.lemmas.Bool.{cases_eq}
use Rattle.walk.specs.State.{Changed}
use Rattle.walk.proofs.Runs.{changed_set}
use Rattle.settling.specs.declared.progress.Progress.{Progress}
use Rattle.settling.specs.declared.trail.Trail.{Trail}
use Rattle.settling.specs.Means.{base_of, count_of, progress, no_progress, Risen, Opened}

-- a part of what is written changes with it
changed_part : {A B : Type 0} {f f' : ℕ → A} {v : ℕ} {x : A} (part : A → B) → Changed f v x f' → Changed (λ u. part (f u)) v (part x) (λ u. part (f' u))
changed_part part c = record { at = ap part c.at; off = λ u n. ap part (c.off u n) }

module _ (w w' : Trail) (x : ℕ) (lt : x < length (vec_items w.nodes)) where
  written : (p : Progress) → vec_items w'.nodes ≡ set (vec_items w.nodes) x p → Changed (progress w) x p (progress w')
  written p e = subst (λ (l : List Progress). Changed (progress w) x p (λ u. get_or l u no_progress)) (sym e) (changed_set (vec_items w.nodes) x p no_progress lt)

  pub opened_base : (b : ℕ) → Opened w w' x b → Changed (base_of w) x (Some b) (base_of w')
  opened_base b o = changed_part (λ (p : Progress). p.base) (written _ o.nodes)

  pub opened_count : (b : ℕ) → Opened w w' x b → Changed (count_of w) x b (count_of w')
  opened_count b o = changed_part (λ (p : Progress). p.count) (written _ o.nodes)

  pub risen_count : Risen w w' x → Changed (count_of w) x (count_of w x + 1) (count_of w')
  risen_count r = changed_part (λ (p : Progress). p.count) (written _ r.nodes)

  -- a rise leaves each base alone
  pub risen_base : Risen w w' x → (y : ℕ) → base_of w' y ≡ base_of w y
  risen_base r y =
      let c = changed_part (λ (p : Progress). p.base) (written _ r.nodes) in
      elim (cases_eq y x) [ inl e ↦ ap (base_of w') e ∙ c.at ∙ ap (base_of w) (sym e) | inr n ↦ c.off y n ]
