-- Following a link keeps what holds between links.
use Rattle.std.proofs.Common.{◌≡◌, ℕ, suc, ◌+◌, ◌<◌, ◌⊎◌, List, Some, None, Option, sym, refl, ap, ◌∙◌, inl, inr, arith}
use native.Mathlib.Decide.{ℕ_discrete}
use Rattle.network.specs.Network.{Network, Hop, delay}
use Rattle.tree.specs.Tree.{Tree, In, Fits}
use Rattle.network.proofs.Leasts.{attained_link}
use Rattle.network.proofs.Routes.{other_end}
use Rattle.tree.proofs.Routes.{ends}
use Rattle.tree.proofs.Words.{same_some}
use Rattle.walk.specs.declared.frame.Frame.{Frame}
use Rattle.walk.specs.State.{Shelf, Core, Changed, lowered}
use Rattle.walk.specs.Rules.{Front, Belongs, Moved, Link, skip, keep, lower, Links, begun, next}
use Rattle.walk.proofs.Invariant.{Found, Known, Early, Standing, loose, fresh, visiting, through, waiting, Facts, LookedTo}
use Rattle.walk.proofs.Keep.{slot_at, belongs_at, belongs_keep, moved_set, front_one}

module _ {g : Network} {t : Tree} (fits : Fits g t) {src : ℕ} {s : Core} {fs : List Frame} {lim : ℕ → ℕ} (facts : Facts g t src s fs lim)
    {v d k : ℕ} (seen : s.final v ≡ Some d) where
  -- what a lowering writes is the sum of a route
  pub found' : {u : ℕ} {so_far' : ℕ → Option ℕ} → Hop g k v u → s.final u ≡ None → Changed s.so_far u (Some (d + delay g k)) so_far'
      → (w y : ℕ) → so_far' w ≡ Some y → Dec (w ≡ u) → Found g t src s.final w y
  found' j n low w y e (no z) = facts.delays.found w y (sym (low.off w z) ∙ e)
  found' {u} {so_far'} j n low w y e (yes z) =
      let q : y ≡ d + delay g k = same_some (ap so_far' (sym z) ∙ e) low.at in
      rw (z, q) (record { station = ends fits j; unvisited = n; attained = attained_link (facts.delays.exact v d seen).attained j })

  -- the station u is lowered, and its front c moved to where it belongs
  module _ {u c : ℕ} {b : Option ℕ} {so_far' : ℕ → Option ℕ} {h' : Shelf} (j : Hop g k v u) (n : s.final u ≡ None)
      (nearer : (y : ℕ) → s.so_far u ≡ Some y → d + delay g k < y) (low : Changed s.so_far u (Some (d + delay g k)) so_far')
      (front : Front t s.base u c) (bel : Belongs t so_far' s.base c b) (move : Moved t c b s.shelf h') where
    start' : s.so_far src ≡ Some 0 → Dec (src ≡ u) → so_far' src ≡ Some 0
    start' e (yes z) = absurd (omega (arith, nearer 0 (ap s.so_far (sym z) ∙ e)))
    start' e (no z) = low.off src z ∙ e

    early' : {x β : ℕ} (r : Early t s.final s.so_far x β) → (s.final r.at ≡ Some r.d) ⊎ (s.so_far r.at ≡ Some r.d) → Dec (r.at ≡ u)
        → Early t s.final so_far' x β
    early' r (inl h) q = record { at = r.at; inside = r.inside; d = r.d; seen = inl h; early = r.early }
    early' r (inr h) (no z) = record { at = r.at; inside = r.inside; d = r.d; seen = inr (low.off r.at z ∙ h); early = r.early }
    early' r (inr h) (yes z) =
        record {
          at = r.at;
          inside = r.inside;
          d = d + delay g k;
          seen = inr (ap so_far' z ∙ low.at);
          early = omega (arith, r.early, nearer r.d (ap s.so_far (sym z) ∙ h));
        }

    stands' : (y : ℕ) → Dec (y ≡ c) → Standing t s fs lim y (s.shelf.bucket y) → Standing t (lowered s so_far' h') fs lim y (h'.bucket y)
    stands' y (yes z) st = rw z (fresh front.x front.start front.parent front.based front.shut (belongs_at (moved_set move).at bel))
    stands' y (no z) st = go st
      where
        same : h'.bucket y ≡ s.shelf.bucket y
        same = (moved_set move).off y z

        go : Standing t s fs lim y (s.shelf.bucket y) → Standing t (lowered s so_far' h') fs lim y (h'.bucket y)
        go (loose h e) = loose h (same ∙ e)
        go (visiting o e) = visiting o (same ∙ e)
        go (through e a q) = through e a (same ∙ q)
        go (waiting p β γ i h q e n o l m w sl) = waiting p β γ i h q e n o l m w (slot_at same sl)
        go (fresh p β h q m bel) = fresh p β h q m (belongs_at same (belongs_keep kept (λ x γ e. e) bel))
          where
            kept : (w : ℕ) → In t w y → so_far' w ≡ s.so_far w
            kept w i =
                low.off w (λ r. z (front_one fits facts (rw r at i.below) front.holds h (record { start = β; based = q }) m front.parent
                (record { start = front.start; based = front.based }) front.shut))

    pub lower_facts : Facts g t src (lowered s so_far' h') fs lim
    lower_facts =
        record {
          delays = record {
            exact = facts.delays.exact;
            found = λ w y e. found' j n low w y e (ℕ_discrete w u);
            start = elim facts.delays.start [ inl a ↦ inl a | inr e ↦ inr (start' e (ℕ_discrete src u)) ];
          };
          grown = facts.grown;
          early = λ x β e. let r = facts.early x β e in early' r r.seen (ℕ_discrete r.at u);
          limits = facts.limits;
          stands = λ y. stands' y (ℕ_discrete y c) (facts.stands y);
          stack = facts.stack;
          top = facts.top;
        }

  pub link_facts : {s₁ : Core} → Link g t v d k s s₁ → Facts g t src s₁ fs lim
  link_facts (skip h) = facts
  link_facts (keep u y j n e l) = facts
  link_facts (lower u c b so_far' h' j n nearer low front bel move) = lower_facts j n nearer low front bel move

  pub link_looked : {s₁ : Core} → LookedTo g s.final s.so_far v k → Link g t v d k s s₁ → LookedTo g s₁.final s₁.so_far v (suc k)
  link_looked old (skip h) w e u i a b j m = go (ℕ_discrete w v) (ℕ_discrete i k)
    where
      go : Dec (w ≡ v) → Dec (i ≡ k) → Known s.so_far u (e + delay g i)
      go (yes z) (yes y) = absurd (h u (rw (z, y) at j) b)
      go (yes z) (no y) = old w e u i a b j (λ q. omega (arith, m z))
      go (no z) y = old w e u i a b j (λ q. absurd (z q))
  link_looked old (keep u' y' j' n known l) w e u i a b j m = go (ℕ_discrete w v) (ℕ_discrete i k)
    where
      go : Dec (w ≡ v) → Dec (i ≡ k) → Known s.so_far u (e + delay g i)
      go (yes z) (yes y) =
          let q : u' ≡ u = other_end j' (rw (z, y) at j) in
          let r : e ≡ d = same_some (ap s.final (sym z) ∙ a) seen in
          rw (y, r, ← q) (record { y = y'; known = known; near = l })
      go (yes z) (no y) = old w e u i a b j (λ q. omega (arith, m z))
      go (no z) y = old w e u i a b j (λ q. absurd (z q))
  link_looked old (lower u' c x so_far' h' j' n nearer low front bel move) w e u i a b j m = go (ℕ_discrete w v) (ℕ_discrete i k)
    where
      better : Known s.so_far u (e + delay g i) → Dec (u ≡ u') → Known so_far' u (e + delay g i)
      better r (yes z) = record { y = d + delay g k; known = ap so_far' z ∙ low.at; near = omega (arith, r.near, nearer r.y (ap s.so_far (sym z) ∙ r.known)) }
      better r (no z) = record { y = r.y; known = low.off u z ∙ r.known; near = r.near }

      go : Dec (w ≡ v) → Dec (i ≡ k) → Known so_far' u (e + delay g i)
      go (yes z) (yes y) =
          let q : u' ≡ u = other_end j' (rw (z, y) at j) in
          let r : e ≡ d = same_some (ap s.final (sym z) ∙ a) seen in
          rw (y, r, ← q) (record { y = d + delay g k; known = low.at; near = omega arith })
      go (yes z) (no y) = better (old w e u i a b j (λ q. omega (arith, m z))) (ℕ_discrete u u')
      go (no z) y = better (old w e u i a b j (λ q. absurd (z q))) (ℕ_discrete u u')

-- in the midst of the links
pub record Looking (g : Network) (t : Tree) (src v k : ℕ) (s s₁ : Core) (fs : List Frame) (lim : ℕ → ℕ) : Type 0 where
  pub facts : Facts g t src s₁ fs lim
  pub looked : LookedTo g s₁.final s₁.so_far v k
  pub final : s₁.final ≡ s.final

-- following links changes the keeper and the shelf alone
pub record Alike (s s₁ : Core) : Type 0 where
  pub final : s₁.final ≡ s.final
  pub base : s₁.base ≡ s.base
  pub count : s₁.count ≡ s.count

link_alike : {g : Network} {t : Tree} {v d k : ℕ} {s s₁ : Core} → Link g t v d k s s₁ → Alike s s₁
link_alike (skip h) = record { final = refl; base = refl; count = refl }
link_alike (keep u y j n e l) = record { final = refl; base = refl; count = refl }
link_alike (lower u c b so_far' h' j n nearer low front bel move) = record { final = refl; base = refl; count = refl }

pub links_alike : {g : Network} {t : Tree} {v d : ℕ} {s : Core} {k : ℕ} {s₁ : Core} → Links g t v d s k s₁ → Alike s s₁
links_alike begun = record { final = refl; base = refl; count = refl }
links_alike (next r l) =
    let p = links_alike r in let q = link_alike l in record { final = q.final ∙ p.final; base = q.base ∙ p.base; count = q.count ∙ p.count }

module _ {g : Network} {t : Tree} (fits : Fits g t) {src v d : ℕ} {fs : List Frame} {lim : ℕ → ℕ} {s : Core} (facts : Facts g t src s fs lim)
    (seen : s.final v ≡ Some d) (old : LookedTo g s.final s.so_far v 0) where
  pub links_looking : {k : ℕ} {s₁ : Core} → Links g t v d s k s₁ → Looking g t src v k s s₁ fs lim
  links_looking begun = record { facts = facts; looked = old; final = refl }
  links_looking (next r l) =
      let z = links_looking r in
      let e = ap (λ (f : ℕ → Option ℕ). f v) z.final ∙ seen in
      record { facts = link_facts fits z.facts e l; looked = link_looked fits z.facts e z.looked l; final = (links_alike (next r l)).final }
