-- What it takes a route to leave a node.
use Rattle.std.proofs.Common.{◌≡◌, ℕ, ◌-◌, ◌^◌, ◌<◌, ◌≤◌, ◌⊎◌, List, ◌∷◌, Some, None, Option, refl, inl, inr, arith, pow_mono}
use Rattle.network.specs.Network.{Network, Route, here, step, Hop, Small, sum, row}
use Rattle.network.specs.Rows.{Within}
use Rattle.tree.specs.Tree.{Tree, Below, self, up, Fits, width}
use Rattle.tree.proofs.Nodes.{below_trans, rooted, tell}

module _ {g : Network} {t : Tree} (fits : Fits g t) where
  -- links lead to stations
  pub ends : {k a b : ℕ} → Hop g k a b → b < t.stations
  ends {k} {a} {b} h = go (fits.proper k h.listed).0 h.ends
    where
      go : Within g.stations (row g k) → (((row g k).from ≡ a) × ((row g k).to ≡ b)) ⊎ (((row g k).from ≡ b) × ((row g k).to ≡ a)) → b < t.stations
      go w (inl e) = omega (arith, e.1, w.1, fits.stations)
      go w (inr e) = omega (arith, e.0, w.0, fits.stations)

  pub route_ends : {a b : ℕ} {ks : List ℕ} → a < t.stations → Route g a ks b → b < t.stations
  route_ends n here = n
  route_ends n (step h p) = route_ends (ends h) p

  -- a route stays in its root
  pub stay : {r a b : ℕ} {ks : List ℕ} → t.parent r ≡ None → Below t a r → Route g a ks b → Below t b r
  stay n i here = i
  stay {r} n i (step {a = a} {b = m} {k = k} h p) = stay n (fits.whole r k a m n i h) p

  -- a route out of a child of y is as long as a bucket of y is wide
  pub out : {c y a b : ℕ} {ks : List ℕ} → t.parent c ≡ Some y → Below t a c → ¬ Below t b c → Route g a ks b → width t y ≤ sum g ks
  out e i n here = absurd (n i)
  out {c} {y} {a} {b} e i n (step {b = m} {k = k} {ks = ks} h p) = go (tell fits m c) (λ j. out e j n p)
    where
      go : Dec (Below t m c) → (Below t m c → width t y ≤ sum g ks) → width t y ≤ sum g (k ∷ ks)
      go (yes j) later = omega (arith, later j)
      go (no j) later = omega (arith, fits.cut c y k a m e i h j)

  -- a route from a node a to w, that is not in it: y is the smallest node with both, and the route as long as its buckets are wide
  pub record Meet (a w : ℕ) (ks : List ℕ) : Type 0 where
    pub p : ℕ
    pub parent : t.parent a ≡ Some p
    pub y : ℕ
    pub up : Below t p y
    pub holds : Below t w y
    pub long : width t y ≤ sum g ks

  climb : {u w a r : ℕ} {ks : List ℕ} → Below t a r → Below t w r → Below t u a → ¬ Below t w a → Route g u ks w → Meet a w ks
  climb self q i n p = absurd (n q)
  climb {u} {w} {a} {r} {ks} (up {p = m} e b) q i n p = go (tell fits w m) (λ h. climb b q (below_trans i (up e self)) h p)
    where
      go : Dec (Below t w m) → (¬ Below t w m → Meet m w ks) → Meet a w ks
      go (yes h) later = record { p = m; parent = e; y = m; up = self; holds = h; long = out e i n p }
      go (no h) later = let l = later h in record { p = m; parent = e; y = l.y; up = up l.parent l.up; holds = l.holds; long = l.long }

  pub meet : {u w a : ℕ} {ks : List ℕ} → Below t u a → ¬ Below t w a → Route g u ks w → Meet a w ks
  meet {a = a} i n p = let r = rooted fits a in climb r.below (stay r.top (below_trans i r.below) p) i n p

  one_less : (i j : ℕ) → i < j → i ≤ j - 1
  one_less i j h = omega arith

  -- a node's bucket is no wider than 2 ^ its level, and that no wider than its parent's
  pub wider : {x p : ℕ} → t.parent x ≡ Some p → 2 ^ t.level x ≤ width t p
  wider {x} {p} h = pow_mono (one_less (t.level x) (t.level p) (fits.rising x p h))

  -- a link of the level of x or less stays in x
  pub inside : {x a b k : ℕ} → Below t a x → Hop g k a b → Small g (t.level x) k → Below t b x
  inside {x} {a} {b} {k} i h s = go (tell fits b x) (t.parent x) refl
    where
      go : Dec (Below t b x) → (o : Option ℕ) → t.parent x ≡ o → Below t b x
      go (yes j) o e = j
      go (no n) None e = fits.whole x k a b e i h
      go (no n) (Some p) e = absurd (omega (arith, fits.cut x p k a b e i h n, wider e))
