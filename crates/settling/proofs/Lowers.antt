-- Following a link.
use Rattle.std.proofs.Common.{◌≡◌, ℕ, ◌+◌, ◌<◌, ◌≤◌, length, IfSome, Some, None, Option, sym, refl, ap, ◌∙◌, subst, inl, inr, arith}
use Rattle.std.proofs.lemmas.Bool.{cases_lt}
use Rattle.network.specs.Network.{Network, Hop, delay}
use Rattle.tree.specs.Tree.{Tree, Runs, Fits}
use Rattle.tree.proofs.Words.{some_none}
use Rattle.walk.specs.State.{Shelf, Core, Changed, shelved}
use Rattle.walk.specs.Rules.{Front, Link, skip, keep, lower}
use Rattle.shelf.specs.Holds.{Holds}
use Rattle.keeper.specs.Keeps.{Keeps, MayLower, delay_at, noted}
use Rattle.settling.specs.declared.trail.Trail.{Trail}
use Rattle.settling.specs.Means.{final_of, base_of, sofar_of, core_of}
use Rattle.settling.specs.Asks.{Brought}
use Rattle.settling.proofs.Keepers.{sofar_in, changed_noted}

-- links lead to stations
pub hop_end : {g : Network} {t : Tree} {k a b : ℕ} → Fits g t → Hop g k a b → b < t.stations
hop_end {g} {t} {k} fits j =
    let s = (fits.proper k j.listed).0 in
    elim j.ends [ inl e ↦ omega (arith, s.1, e.1, fits.stations) | inr e ↦ omega (arith, s.0, e.0, fits.stations) ]

below_some : (o : Option ℕ) (d y : ℕ) → IfSome o (λ z. d < z) → o ≡ Some y → d < y
below_some None d y h e = absurd (some_none e refl)
below_some (Some z) d y h e = let s : z ≡ y = cc in omega arith

pub record Known (o : Option ℕ) (d : ℕ) : Type 0 where
  pub y : ℕ
  pub is : o ≡ Some y
  pub low : y ≤ d

known_some : (o : Option ℕ) (d : ℕ) → (IfSome o (λ z. d < z) → ⊥) → Known o d
known_some None d h = absurd (h tt)
known_some (Some y) d h = elim (cases_lt d y) [ inl l ↦ absurd (h l) | inr l ↦ record { y = y; is = refl; low = l } ]

pub link_skip : (g : Network) (t : Tree) (v d k u y : ℕ) (s : Core) → ((z : ℕ) → Hop g k v z → z ≡ u) → s.final u ≡ Some y → Link g t v d k s s
link_skip g t v d k u y s only is = skip (λ z j n. some_none (ap s.final (only z j) ∙ is) n)

-- the link e leads from v to the unvisited u, whose place is p, and s is the delay of u by it
pub record Asked (g : Network) (t : Tree) (w : Trail) (k : Keeps) (v d e u p s : ℕ) : Type 0 where
  pub hop : Hop g e v u
  pub station : u < t.stations
  pub is_place : p ≡ t.place u
  pub place : p < k.places
  pub new : final_of w u ≡ None
  pub is_sum : s ≡ d + delay g e

-- the keeper was asked to lower p to s
module _ {g : Network} {t : Tree} {w : Trail} {k : Keeps} {v d e u p s : ℕ} (a : Asked g t w k v d e u p s) (h : Holds) (k' : Keeps) where
  pub link_keep : (MayLower k p s → ⊥) → k' ≡ k → Link g t v d e (core_of t w h k) (core_of t w h k')
  link_keep hold e' =
      let y = known_some (delay_at k p) s (λ c. hold (a.place, c)) in
      subst (λ (x : Keeps). Link g t v d e (core_of t w h k) (core_of t w h x)) (sym e')
      (keep u y.y a.hop a.new (sofar_in t k u a.station ∙ ap (delay_at k) (sym a.is_place) ∙ y.is) (subst (λ (z : ℕ). y.y ≤ z) a.is_sum y.low))

  pub lowered_at : Runs t → length k.delays ≡ k.places → k' ≡ noted k p (Some s)
      → Changed (sofar_of t k) u (Some (d + delay g e)) (sofar_of t k')
  lowered_at runs len e' =
      subst (λ (z : ℕ). Changed (sofar_of t k) u (Some z) (sofar_of t k')) a.is_sum (changed_noted t k k' u p (Some s) runs len a.station a.is_place a.place e')

  pub link_lower : Runs t → length k.delays ≡ k.places → (h' : Shelf) (c : ℕ) → MayLower k p s → k' ≡ noted k p (Some s) → Front t (base_of w) u c
      → Brought t (core_of t w h k') c h' → Link g t v d e (core_of t w h k) (shelved (core_of t w h k') h')
  link_lower runs len h' c lo e' fr br =
      lower u c br.to (sofar_of t k') h' a.hop a.new
      (λ y z. subst (λ (x : ℕ). x < y) a.is_sum (below_some (delay_at k p) s y lo.1 (ap (delay_at k) a.is_place ∙ sym (sofar_in t k u a.station) ∙ z)))
      (lowered_at runs len e') fr br.belongs br.moved
