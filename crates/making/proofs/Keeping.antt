-- The labels are kept before a level.
use Rattle.std.proofs.Common.{◌≡◌, ℕ, ◌≤◌, List, map, sym, ap, ◌∙◌, subst}
use mathlib.Core.Path.{fun_ext}
use Rattle.std.proofs.lemmas.List.{length-map}
use Rattle.std.proofs.Math.ListN.{get_or-map}
use Rattle.network.specs.Network.{Network}
use Rattle.tree.proofs.Growing.{Grouped}
use Rattle.tree.proofs.Making.{Part}
use Rattle.making.specs.declared.groups.Member.{Member}
use Rattle.making.specs.Joins.{Grown}
use Rattle.making.specs.Members.{alone, label_of, before_of, sum_of, kept}

module _ (members : List Member) where
  same_label : label_of (map kept members) ≡ label_of members
  same_label = fun_ext (λ u. ap (λ (m : Member). m.label) (get_or-map kept members u (alone u)))

  same_sum : sum_of (map kept members) ≡ sum_of members
  same_sum = fun_ext (λ u. ap (λ (m : Member). m.sum) (get_or-map kept members u (alone u)))

  pub kept_label : before_of (map kept members) ≡ label_of members
  kept_label = fun_ext (λ u. ap (λ (m : Member). m.before) (get_or-map kept members u (alone u)))

  pub kept_grown : {g : Network} {seen : ℕ → Type 0} → Grown g seen members → Grown g seen (map kept members)
  kept_grown {g} {seen} w =
      let back : label_of members ≡ label_of (map kept members) = sym same_label in
      record {
        all = length-map members kept ∙ w.all;
        joins = w.joins;
        grouped = subst (λ (f : ℕ → ℕ). Grouped g seen f w.joins) back w.grouped;
        low = subst (λ (f : ℕ → ℕ). (u : ℕ) → f u ≤ u) back w.low;
        self = subst (λ (f : ℕ → ℕ). (u : ℕ) → f (f u) ≡ f u) back w.self;
        part =
            subst (λ (f : ℕ → ℕ). (s : ℕ) → f s ≡ s → Part g f w.joins s (sum_of (map kept members) s)) back
            (subst (λ (f : ℕ → ℕ). (s : ℕ) → label_of members s ≡ s → Part g (label_of members) w.joins s (f s)) (sym same_sum) w.part);
      }
