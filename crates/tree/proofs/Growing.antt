-- Groups and joining links while the links are looked at in the order of their ranks: what is known in the midst of it, and the three steps (a link
-- skipped, a link inside a group, a link that joins two). The code that makes the tree goes these steps.
use Rattle.std.proofs.Common.{◌≡◌, ℕ, ◌≢◌, ◌⊎◌, List, ◌∷◌, sym, refl, ◌∙◌, inl, inr}
use native.Mathlib.Decide.{ℕ_discrete}
use Rattle.network.specs.Lists.{Among, Distinct}
use Rattle.network.specs.Network.{Network, Hop, Route, here, step, Each, and, Joined, row}
use Rattle.network.proofs.Routes.{same_ends}
use Rattle.network.proofs.Levels.{joined_link, joined_symmetric, joined_transitive, joined_map}
use Rattle.tree.specs.Joining.{Before, Joining}
use Rattle.tree.proofs.Marks.{Merged}
use Rattle.tree.proofs.Ranks.{hop_of}

-- once the links `seen` have been looked at, stations that they join have one label, and `joins` are the joining links among them
pub record Grouped (g : Network) (seen : ℕ → Type 0) (label : ℕ → ℕ) (joins : List ℕ) : Type 0 where
  pub joined : (u v : ℕ) → label u ≡ label v → Joined g (λ j. Among j joins) u v
  pub closed : (j a b : ℕ) → seen j → Hop g j a b → label a ≡ label b
  pub sound : (j : ℕ) → Among j joins → seen j × Joining g j
  pub every : (j : ℕ) → seen j → Joining g j → Among j joins
  pub once : Distinct joins

module _ {g : Network} {seen : ℕ → Type 0} {label : ℕ → ℕ} {joins : List ℕ} (now : Grouped g seen label joins) where
  pub one_label : {u v : ℕ} → Joined g seen u v → label u ≡ label v
  one_label h = go h.route h.each
    where
      go : {u v : ℕ} {ks : List ℕ} → Route g u ks v → Each seen ks → label u ≡ label v
      go here e = refl
      go (step {a = a} {b = b} {k = k} h p) (and s e) = now.closed k a b s h ∙ go p e

  -- what the links looked at join, the joining ones among them join
  pub by_joining : {u v : ℕ} → Joined g seen u v → Joined g (λ j. Among j joins) u v
  by_joining {u} {v} h = now.joined u v (one_label h)

  -- a link that is out of service, or was looked at before, is skipped
  pub skipped : {seen' : ℕ → Type 0} → ((j : ℕ) → seen j → seen' j) → ((j a b : ℕ) → Hop g j a b → seen' j → seen j) → Grouped g seen' label joins
  skipped more only =
      record {
        joined = now.joined;
        closed = λ j a b s h. now.closed j a b (only j a b h s) h;
        sound = λ j a. (more j (now.sound j a).0, (now.sound j a).1);
        every = λ j s l. now.every j (only j _ _ (hop_of l) s) l;
        once = now.once;
      }

  -- the link k, from a to b, is looked at next: those looked at are just those that are ranked before it
  module _ {seen' : ℕ → Type 0} {k a b : ℕ} (more : (j : ℕ) → seen j → seen' j) (only : (j : ℕ) → seen' j → seen j ⊎ (j ≡ k))
      (past : (j : ℕ) → Joining g j → seen j → Before g j k) (before : (j : ℕ) → Before g j k → seen j) (over : Hop g k a b) where
    -- a link inside a group is not joining
    pub inside : label a ≡ label b → Grouped g seen' label joins
    inside e =
        record {
          joined = now.joined;
          closed = λ j c d s h. elim (only j s) [ inl p ↦ now.closed j c d p h | inr m ↦ one (rw m at h) ];
          sound = λ j h. (more j (now.sound j h).0, (now.sound j h).1);
          every = λ j s l. elim (only j s) [ inl p ↦ now.every j p l | inr m ↦ absurd (no_join (rw m at l)) ];
          once = now.once;
        }
      where
        one : {c d : ℕ} → Hop g k c d → label c ≡ label d
        one h = elim (same_ends over h) [ inl p ↦ cc | inr p ↦ cc ]

        no_join : Joining g k → ⊥
        no_join l = l.alone (joined_map (λ j m. past j (now.sound j m).1 (now.sound j m).0) (now.joined _ _ (one (hop_of l))))

    -- a link between two groups is joining, and makes one of them
    pub joins_two : {label' : ℕ → ℕ} → seen' k → label a ≢ label b → Merged label (label b) (label a) label' → Grouped g seen' label' (k ∷ joins)
    joins_two {label'} new n m =
        record {
          joined = λ u v e. both u v (ℕ_discrete (label u) (label b)) (ℕ_discrete (label v) (label b)) e;
          closed = λ j c d s h. elim (only j s) [ inl p ↦ keep c d (now.closed j c d p h) (ℕ_discrete (label c) (label b)) | inr e ↦ one (rw e at h) ];
          sound = λ j. elim [ inl e ↦ rw e (new, joining) | inr h ↦ (more j (now.sound j h).0, (now.sound j h).1) ];
          every = λ j s l. elim (only j s) [ inl p ↦ inr (now.every j p l) | inr e ↦ inl e ];
          once = (λ h. n (now.closed k a b (now.sound k h).0 over), now.once);
        }
      where
        old : {u v : ℕ} → label u ≡ label v → Joined g (λ j. Among j (k ∷ joins)) u v
        old {u} {v} h = joined_map (λ j i. inr i) (now.joined u v h)

        link : Joined g (λ j. Among j (k ∷ joins)) a b
        link = joined_link over (inl refl)

        both : (u v : ℕ) → Dec (label u ≡ label b) → Dec (label v ≡ label b) → label' u ≡ label' v → Joined g (λ j. Among j (k ∷ joins)) u v
        both u v (yes p) (yes q) e = old cc
        both u v (yes p) (no q) e =
            let f = m.at u p in
            let h = m.off v q in
            joined_transitive (old p) (joined_transitive (joined_symmetric link) (old cc))
        both u v (no p) (yes q) e =
            let f = m.off u p in
            let h = m.at v q in
            joined_transitive (old cc) (joined_transitive link (old (sym q)))
        both u v (no p) (no q) e =
            let f = m.off u p in
            let h = m.off v q in
            old cc

        keep : (c d : ℕ) → label c ≡ label d → Dec (label c ≡ label b) → label' c ≡ label' d
        keep c d e (yes p) = m.at c p ∙ sym (m.at d (sym e ∙ p))
        keep c d e (no p) = m.off c p ∙ e ∙ sym (m.off d (λ q. p (e ∙ q)))

        one : {c d : ℕ} → Hop g k c d → label' c ≡ label' d
        one h =
            let z : label' a ≡ label' b = m.off a n ∙ sym (m.at b refl) in
            elim (same_ends over h) [ inl p ↦ cc | inr p ↦ cc ]

        from_to : Hop g k (row g k).from (row g k).to
        from_to = record { listed = over.listed; up = over.up; ends = inl (refl, refl) }

        joining : Joining g k
        joining =
            record {
              listed = over.listed;
              up = over.up;
              alone = λ h.
                  let e = one_label (joined_map before h) in
                  elim (same_ends over from_to) [ inl p ↦ n cc | inr p ↦ n cc ];
            }
