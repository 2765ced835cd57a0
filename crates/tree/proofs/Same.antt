-- Two component trees of a network have the same nodes: the same pairs of level and lowest station under the same numbers.
use Rattle.std.proofs.Common.{◌≡◌, ℕ, zero, suc, ◌<◌, ◌≤◌, ◌⊎◌, sym, ap, ◌∙◌, subst, inl, inr, arith}
use native.Mathlib.Decide.{ℕ_discrete, dec_lt, dec_le}
use Rattle.network.specs.Network.{Network, Under, row}
use Rattle.network.proofs.Lists.{once}
use Rattle.tree.specs.Components.{Components, Listed, Above, Holds, Inside}
use Rattle.tree.specs.Tree.{Tree, Inner}

-- the node x is the same pair of level and lowest station in both
pub record Same (t t' : Tree) (x : ℕ) : Type 0 where
  pub level : t'.level x ≡ t.level x
  pub lowest : t'.lowest x ≡ t.lowest x

swap : {t t' : Tree} {x : ℕ} → Same t t' x → Same t' t x
swap s = record { level = sym s.level; lowest = sym s.lowest }

module _ {g : Network} {t t' : Tree} (c : Components g t) (c' : Components g t') where
  pub stations_same : t'.stations ≡ t.stations
  stations_same = c'.stations ∙ sym c.stations

  -- the node of t' that is x
  other : (x : ℕ) → Inner t x → Listed t' (t.level x) (t.lowest x)
  other x i = c'.every (t.level x) (t.lowest x) (c.forms x i)

  -- where all before x agree, it is not before x
  not_before : (x : ℕ) (i : Inner t x) → ((y : ℕ) → y < x → t.stations ≤ y → Same t t' y) → x ≤ (other x i).node
  not_before x i f = go (dec_lt (other x i).node x)
    where
      y : ℕ
      y = (other x i).node

      go : Dec (y < x) → x ≤ y
      go (no n) = omega arith
      go (yes l) =
          let s = f y l (omega (arith, (other x i).inner.above, stations_same)) in
          elim (c.order y x (record { above = omega (arith, (other x i).inner.above, stations_same); below = omega (arith, i.below) }) i l) [
            | inl h ↦ absurd (omega (arith, s.level, (other x i).level))
            | inr h ↦ absurd (omega (arith, h.1, s.lowest, (other x i).lowest))
          ]

  -- so x in t' stands no later in the order than x in t
  no_later :
      (x : ℕ) (i : Inner t x) → x < t'.nodes → ((y : ℕ) → y < x → t.stations ≤ y → Same t t' y)
      → (t'.level x < t.level x) ⊎ ((t'.level x ≡ t.level x) × (t'.lowest x ≤ t.lowest x))
  no_later x i n f = go (ℕ_discrete x (other x i).node)
    where
      y : ℕ
      y = (other x i).node

      go : Dec (x ≡ y) → (t'.level x < t.level x) ⊎ ((t'.level x ≡ t.level x) × (t'.lowest x ≤ t.lowest x))
      go (yes h) = inr (ap t'.level h ∙ (other x i).level, omega (arith, ap t'.lowest h, (other x i).lowest))
      go (no h) =
          elim (c'.order x y (record { above = omega (arith, i.above, stations_same); below = n }) (other x i).inner (omega (arith, not_before x i f))) [
            | inl k ↦ inl (omega (arith, (other x i).level))
            | inr k ↦ inr (k.0 ∙ (other x i).level, omega (arith, k.1, (other x i).lowest))
          ]

module _ {g : Network} {t t' : Tree} (c : Components g t) (c' : Components g t') where
  same_below : (n : ℕ) → n ≤ t.nodes → n ≤ t'.nodes → (x : ℕ) → x < n → Same t t' x
  same_below zero h h' x l = absurd (omega arith)
  same_below (suc n) h h' x l = go (ℕ_discrete x n) (dec_lt x t.stations) (λ y k. same_below n (omega arith) (omega arith) y k)
    where
      e : t'.stations ≡ t.stations
      e = stations_same c c'

      both :
          (t'.level x < t.level x) ⊎ ((t'.level x ≡ t.level x) × (t'.lowest x ≤ t.lowest x))
          → (t.level x < t'.level x) ⊎ ((t.level x ≡ t'.level x) × (t.lowest x ≤ t'.lowest x)) → Same t t' x
      both (inl p) (inl q) = absurd (omega arith)
      both (inl p) (inr q) = absurd (omega (arith, q.0))
      both (inr p) (inl q) = absurd (omega (arith, p.0))
      both (inr p) (inr q) = record { level = p.0; lowest = omega (arith, p.1, q.1) }

      go : Dec (x ≡ n) → Dec (x < t.stations) → ((y : ℕ) → y < n → Same t t' y) → Same t t' x
      go (no d) s f = f x (omega arith)
      go (yes d) (yes s) f =
          record {
            level = c'.station_level x (omega (arith, e)) ∙ sym (c.station_level x s);
            lowest = c'.station_lowest x (omega (arith, e)) ∙ sym (c.station_lowest x s);
          }
      go (yes d) (no s) f =
          both (no_later c c' x (record { above = omega arith; below = omega arith }) (omega arith) (λ y k m. f y (omega arith)))
          (no_later c' c x (record { above = omega (arith, e); below = omega arith }) (omega arith) (λ y k m. swap (f y (omega arith))))

  -- t has no more nodes than t'
  no_more : t.nodes ≤ t'.nodes
  no_more = go (dec_le t.nodes t'.nodes)
    where
      go : Dec (t.nodes ≤ t'.nodes) → t.nodes ≤ t'.nodes
      go (yes l) = l
      go (no l) =
          let i : Inner t t'.nodes = record { above = omega (arith, c'.all_stations, stations_same c c'); below = omega arith } in
          absurd (omega (arith, (other c c' t'.nodes i).inner.below, not_before c c' t'.nodes i (λ y k m. same_below t'.nodes (omega arith) (omega arith) y k)))

module _ {g : Network} {t t' : Tree} (c : Components g t) (c' : Components g t') where
  pub nodes_same : t'.nodes ≡ t.nodes
  nodes_same = omega (arith, no_more c c', no_more c' c)

  pub same : (x : ℕ) → x < t.nodes → Same t t' x
  same x h = same_below c c' t.nodes (omega arith) (omega (arith, nodes_same)) x h

  pub there : (x u : ℕ) → x < t.nodes → Holds g t x u → Holds g t' x u
  there x u h p = subst (λ i. Under g i (t'.lowest x) u) (sym (same x h).level) (subst (λ s. Under g (t.level x) s u) (sym (same x h).lowest) p)

  pub back : (x u : ℕ) → x < t.nodes → Holds g t' x u → Holds g t x u
  back x u h p = subst (λ i. Under g i (t.lowest x) u) (same x h).level (subst (λ s. Under g (t'.level x) s u) (same x h).lowest p)

  pub above_there : (x y : ℕ) → x < t.nodes → Above g t x y → Above g t' x y
  above_there x y h a =
      record {
        node = omega (arith, nodes_same, a.node);
        holds = λ u p. there y u a.node (a.holds u (back x u h p));
        properly = λ w. a.properly (λ u p. back x u h (w u (there y u a.node p)));
      }

  pub spread_most : (x : ℕ) → x < t.nodes → t.spread x ≤ t'.spread x
  spread_most x h =
      let s = c.spread x h in
      let s' = c'.spread x (omega (arith, nodes_same)) in
      omega (arith, s.total, s'.total, (once g s.links s'.links s.once (λ k a. (s'.each k).1 (inside k ((s.each k).0 a)))).0)
    where
      inside : (k : ℕ) → Inside g t x k → Inside g t' x k
      inside k j = record { joining = j.joining; from = there x (row g k).from h j.from; to = there x (row g k).to h j.to }
