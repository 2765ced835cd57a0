-- Which node holds which.
use Rattle.std.proofs.Common.{◌≡◌, ℕ, zero, suc, ◌+◌, ◌<◌, ◌≤◌, ◌≢◌, ◌⊎◌, Some, None, Option, sym, refl, ap, ◌∙◌, inl, inr, arith}
use native.Mathlib.Decide.{ℕ_discrete, dec_lt}
use Rattle.network.specs.Network.{Network}
use Rattle.tree.specs.Tree.{Tree, Below, self, up, In, Inner, Fits, buckets_in_all}
use Rattle.tree.proofs.Totals.{total_longer}
use Rattle.tree.proofs.Words.{some_none, same_some}

pub below_trans : {t : Tree} {x y z : ℕ} → Below t x y → Below t y z → Below t x z
below_trans self q = q
below_trans (up e p) q = up e (below_trans p q)

pub in_parent : {t : Tree} {u x p : ℕ} → t.parent x ≡ Some p → In t u x → In t u p
in_parent h i = record { station = i.station; below = below_trans i.below (up h self) }

-- of two nodes that hold the same, one holds the other
pub nest : {t : Tree} {u a b : ℕ} → Below t u a → Below t u b → Below t a b ⊎ Below t b a
nest self q = inl q
nest (up e p) self = inr (up e p)
nest {t} (up {p = m} e p) (up {p = m'} e' q) = let same : m' ≡ m = cc in nest p (rw same at q)

-- nothing but itself holds a root
pub root_top : {t : Tree} {r y : ℕ} → t.parent r ≡ None → Below t r y → r ≡ y
root_top n self = refl
root_top n (up e p) = absurd (some_none e n)

pub root_same : {t : Tree} {u r r' : ℕ} → t.parent r ≡ None → t.parent r' ≡ None → Below t u r → Below t u r' → r ≡ r'
root_same n n' p q = elim (nest p q) [ inl h ↦ root_top n h | inr h ↦ sym (root_top n' h) ]

-- the child through which x holds u
pub record Through (t : Tree) (u x : ℕ) : Type 0 where
  pub child : ℕ
  pub parent : t.parent child ≡ Some x
  pub below : Below t u child

pub through : {t : Tree} {u x : ℕ} → Below t u x → (u ≡ x) ⊎ Through t u x
through self = inl refl
through {t} {u} {x} (up {p = m} e p) = go (through p)
  where
    go : (m ≡ x) ⊎ Through t m x → (u ≡ x) ⊎ Through t u x
    go (inl h) = inr (record { child = u; parent = e ∙ ap Some h; below = self })
    go (inr h) = inr (record { child = h.child; parent = h.parent; below = up e h.below })

-- the root that holds x
pub record Rooted (t : Tree) (x : ℕ) : Type 0 where
  pub root : ℕ
  pub below : Below t x root
  pub top : t.parent root ≡ None

module _ {g : Network} {t : Tree} (fits : Fits g t) where
  pub node_of : {x p : ℕ} → t.parent x ≡ Some p → x < t.nodes
  node_of {x} {p} h = omega (arith, fits.later x p h, (fits.inner x p h).below)

  pub below_inner : {x y : ℕ} → t.stations ≤ x → Below t x y → t.stations ≤ y
  below_inner h self = h
  below_inner h (up {x = x} {p = m} e p) = below_inner (fits.inner x m e).above p

  pub below_level : {x y : ℕ} → Below t x y → t.level x ≤ t.level y
  below_level self = omega arith
  below_level (up {x = x} {p = m} e p) = omega (arith, fits.rising x m e, below_level p)

  -- nothing holds its own parent
  pub above_other : {x p y : ℕ} → t.parent x ≡ Some p → Below t p y → x ≢ y
  above_other {x} {p} {y} e b h = omega (arith, fits.rising x p e, below_level b, ap t.level h)

  -- a station holds itself alone
  pub station_only : {w u : ℕ} → u < t.stations → Below t w u → w ≡ u
  station_only h self = refl
  station_only h (up {x = x} {p = m} e p) = absurd (omega (arith, below_inner (fits.inner x m e).above p))

  pub in_inner : {u x : ℕ} → t.stations ≤ x → In t u x → Through t u x
  in_inner {u} {x} h i = elim (through i.below) [ inl e ↦ absurd (omega (arith, i.station)) | inr k ↦ k ]

  -- what holds a station and is not one is an inner node
  pub holder : {u x : ℕ} → u < t.stations → t.stations ≤ x → Below t u x → Inner t x
  holder {u} {x} n h b = elim (through b) [ inl z ↦ absurd (omega arith) | inr z ↦ fits.inner z.child x z.parent ]

  -- parents come later, so the way up ends
  climb_root : (fuel x : ℕ) → t.nodes ≤ x + fuel → Rooted t x
  climb_root zero x h = go (t.parent x) refl
    where
      go : (o : Option ℕ) → t.parent x ≡ o → Rooted t x
      go None e = record { root = x; below = self; top = e }
      go (Some p) e = absurd (omega (arith, node_of e))
  climb_root (suc fuel) x h = go (t.parent x) refl (λ p l. climb_root fuel p (omega arith))
    where
      go : (o : Option ℕ) → t.parent x ≡ o → ((p : ℕ) → x < p → Rooted t p) → Rooted t x
      go None e later = record { root = x; below = self; top = e }
      go (Some p) e later = let r = later p (fits.later x p e) in record { root = r.root; below = up e r.below; top = r.top }

  pub rooted : (x : ℕ) → Rooted t x
  rooted x = climb_root t.nodes x (omega arith)

  -- and so it can be told whether y holds x
  above_or_not : {x y p : ℕ} → t.parent x ≡ Some p → x ≢ y → Dec (Below t p y) → Dec (Below t x y)
  above_or_not e n (yes b) = yes (up e b)
  above_or_not {x} {y} {p} e n (no b) = no (λ q. go q n e b)
    where
      go : {x p : ℕ} → Below t x y → x ≢ y → t.parent x ≡ Some p → ¬ Below t p y → ⊥
      go self n e b = n refl
      go {p = p} (up {p = m} h q) n e b = let z : m ≡ p = same_some h e in b (rw z at q)

  look_up : (fuel x y : ℕ) → t.nodes ≤ x + fuel → Dec (Below t x y)
  look_up zero x y h = go (ℕ_discrete x y) (t.parent x) refl
    where
      go : Dec (x ≡ y) → (o : Option ℕ) → t.parent x ≡ o → Dec (Below t x y)
      go (yes z) o e = yes (rw z self)
      go (no z) None e = no (λ b. z (root_top e b))
      go (no z) (Some p) e = absurd (omega (arith, node_of e))
  look_up (suc fuel) x y h = go (ℕ_discrete x y) (t.parent x) refl (λ p l. look_up fuel p y (omega arith))
    where
      go : Dec (x ≡ y) → (o : Option ℕ) → t.parent x ≡ o → ((p : ℕ) → x < p → Dec (Below t p y)) → Dec (Below t x y)
      go (yes z) o e later = yes (rw z self)
      go (no z) None e later = no (λ b. z (root_top e b))
      go (no z) (Some p) e later = above_or_not e z (later p (fits.later x p e))

  pub tell : (x y : ℕ) → Dec (Below t x y)
  tell x y = look_up t.nodes x y (omega arith)

  -- a bucket of an inner node exists, and is no bucket of another
  pub exists : {x : ℕ} (k : ℕ) → Inner t x → k < t.buckets x → t.first x + k < buckets_in_all t
  exists {x} k i h = omega (arith, fits.numbered x i, total_longer t.buckets (suc x) t.nodes i.below)

  before : {x y : ℕ} (k l : ℕ) → Inner t x → Inner t y → k < t.buckets x → t.first x + k ≡ t.first y + l → ¬ (x < y)
  before {x} {y} k l i j h e b = omega (arith, fits.numbered x i, fits.numbered y j, total_longer t.buckets (suc x) y b)

  pub separate : {x y : ℕ} (k l : ℕ) → Inner t x → Inner t y → k < t.buckets x → l < t.buckets y → t.first x + k ≡ t.first y + l → x ≡ y
  separate {x} {y} k l i j h h' e = go (dec_lt x y) (dec_lt y x)
    where
      go : Dec (x < y) → Dec (y < x) → x ≡ y
      go (yes b) q = absurd (before k l i j h e b)
      go (no b) (yes q) = absurd (before l k j i h' (sym e) q)
      go (no b) (no q) = omega arith
