-- Which stations a node holds, and which node holds another: by routes, and by parents.
use Rattle.std.proofs.Common.{◌≡◌, ℕ, zero, suc, ◌+◌, ◌<◌, ◌≤◌, Some, None, Option, sym, refl, ap, ◌∙◌, subst, inl, inr, arith}
use native.Mathlib.Decide.{ℕ_discrete, dec_lt, dec_le}
use Rattle.network.specs.Network.{Network, Under}
use Rattle.network.proofs.Routes.{route_station}
use Rattle.network.proofs.Levels.{joined_self, joined_symmetric, joined_transitive, under_grows}
use Rattle.network.proofs.Groups.{under_zero}
use Rattle.tree.specs.Components.{Components, Holds, Within, Above}
use Rattle.tree.specs.Tree.{Tree, Below, self, up, In, Inner}

-- of two nodes that share a station, the one of no higher level is within the other
pub share : {g : Network} {u : ℕ} (t : Tree) (x y : ℕ) → t.level x ≤ t.level y → Holds g t x u → Holds g t y u → Within g t x y
share t x y l hx hy v hv = joined_transitive hy (under_grows l (joined_transitive (joined_symmetric hx) hv))

pub low : (g : Network) (t : Tree) (x : ℕ) → Holds g t x (t.lowest x)
low g t x = joined_self (t.lowest x)

-- what properly holds a node is of a higher level
pub above_rises : {g : Network} {t : Tree} {x y : ℕ} → Above g t x y → t.level x < t.level y
above_rises {g} {t} {x} {y} a = go (dec_lt (t.level x) (t.level y))
  where
    go : Dec (t.level x < t.level y) → t.level x < t.level y
    go (yes l) = l
    go (no l) = let m : t.level y ≤ t.level x = omega arith in absurd (a.properly (share t y x m (a.holds (t.lowest x) (low g t x)) (low g t x)))

module _ {g : Network} {t : Tree} (c : Components g t) where
  pub above_level : {x y : ℕ} → Above g t x y → t.level x < t.level y
  above_level a = above_rises a

  pub not_station : {x : ℕ} → x < t.nodes → 1 ≤ t.level x → Inner t x
  not_station {x} h l =
      record { above = elim (dec_lt x t.stations) [ yes s ↦ absurd (omega (arith, c.station_level x s)) | no s ↦ omega arith ]; below = h }

  pub above_inner : {x y : ℕ} → Above g t x y → Inner t y
  above_inner a = not_station a.node (omega (arith, above_level a))

  pub above_of : {x y u : ℕ} → Inner t y → t.level x < t.level y → Holds g t x u → Holds g t y u → Above g t x y
  above_of {x} {y} i l hx hy =
      let f = c.forms y i in
      let m : t.level x ≤ t.level y = omega arith in
      record {
        node = i.below;
        holds = share t x y m hx hy;
        properly = λ w. omega (arith, f.joint.smallest (t.level x) (joined_transitive (joined_symmetric (w (t.lowest y) (low g t y))) (w f.other f.joint.joined)));
      }

  -- an inner node that is within another has no higher level
  pub within_level : {x y : ℕ} → Inner t x → Within g t x y → t.level x ≤ t.level y
  within_level {x} {y} i w = go (dec_le (t.level x) (t.level y))
    where
      go : Dec (t.level x ≤ t.level y) → t.level x ≤ t.level y
      go (yes l) = l
      go (no l) = absurd ((above_of {x = y} i (omega arith) (w (t.lowest x) (low g t x)) (low g t x)).properly w)

  pub positive : (x : ℕ) → Inner t x → 1 ≤ t.level x
  positive x i = go (ℕ_discrete (t.level x) 0)
    where
      go : Dec (t.level x ≡ 0) → 1 ≤ t.level x
      go (no n) = omega arith
      go (yes e) =
          let f = c.forms x i in
          absurd (f.two (sym (under_zero c.proper (subst (λ j. Under g j (t.lowest x) f.other) e f.joint.joined))))

  pub station_holds : {u : ℕ} → u < t.stations → Holds g t u u
  station_holds {u} h = subst (λ z. Under g (t.level u) z u) (sym (c.station_lowest u h)) (joined_self u)

  -- a station holds itself alone
  pub station_one : {x u : ℕ} → x < t.stations → Holds g t x u → x ≡ u
  station_one {x} {u} h hx = sym (c.station_lowest x h) ∙ under_zero c.proper (subst (λ j. Under g j (t.lowest x) u) (c.station_level x h) hx)

  pub lowest_station : {x : ℕ} → x < t.nodes → t.lowest x < t.stations
  lowest_station {x} h = go (dec_lt x t.stations)
    where
      go : Dec (x < t.stations) → t.lowest x < t.stations
      go (yes s) = omega (arith, c.station_lowest x s)
      go (no s) = omega (arith, (c.forms x (record { above = omega arith; below = h })).station, c.stations)

  pub holds_station : {x u : ℕ} → x < t.nodes → Holds g t x u → u < t.stations
  holds_station {x} h p =
      let l : t.lowest x < g.stations = omega (arith, lowest_station h, c.stations) in
      omega (arith, route_station c.proper l p.route, c.stations)

  -- it holds no station below its lowest
  pub lowest_least : {x u : ℕ} → x < t.nodes → Holds g t x u → t.lowest x ≤ u
  lowest_least {x} {u} h p = go (dec_lt x t.stations)
    where
      go : Dec (x < t.stations) → t.lowest x ≤ u
      go (yes s) = omega (arith, c.station_lowest x s, station_one s p)
      go (no s) = (c.forms x (record { above = omega arith; below = h })).lowest u p

  -- two nodes of one level that share a station are the same
  pub same_node : {x y u : ℕ} → x < t.nodes → y < t.nodes → t.level x ≡ t.level y → Holds g t x u → Holds g t y u → x ≡ y
  same_node {x} {y} {u} nx ny e hx hy = go (dec_lt x t.stations) (dec_lt y t.stations)
    where
      le : t.level x ≤ t.level y
      le = omega arith

      ge : t.level y ≤ t.level x
      ge = omega arith

      lowest : t.lowest x ≡ t.lowest y
      lowest =
          omega (arith, lowest_least nx (share t y x ge hy hx (t.lowest y) (low g t y)), lowest_least ny (share t x y le hx hy (t.lowest x) (low g t x)))

      pick : Inner t x → Inner t y → Dec (x < y) → Dec (y < x) → x ≡ y
      pick ix iy (yes p) d = elim (c.order x y ix iy p) [ inl h ↦ absurd (omega arith) | inr h ↦ absurd (omega (arith, h.1, lowest)) ]
      pick ix iy (no p) (yes q) = elim (c.order y x iy ix q) [ inl h ↦ absurd (omega arith) | inr h ↦ absurd (omega (arith, h.1, lowest)) ]
      pick ix iy (no p) (no q) = omega arith

      go : Dec (x < t.stations) → Dec (y < t.stations) → x ≡ y
      go (yes p) (yes q) = station_one p hx ∙ sym (station_one q hy)
      go (yes p) (no q) = absurd (omega (arith, c.station_level x p, positive y (record { above = omega arith; below = ny })))
      go (no p) (yes q) = absurd (omega (arith, c.station_level y q, positive x (record { above = omega arith; below = nx })))
      go (no p) (no q) = pick (record { above = omega arith; below = nx }) (record { above = omega arith; below = ny }) (dec_lt x y) (dec_lt y x)

  -- what properly holds a node comes later
  pub above_later : {x y : ℕ} → x < t.nodes → Above g t x y → x < y
  above_later {x} {y} h a = go (dec_lt x t.stations) (dec_lt y x)
    where
      iy : Inner t y
      iy = above_inner a

      go : Dec (x < t.stations) → Dec (y < x) → x < y
      go (yes p) d = omega (arith, iy.above)
      go (no p) (yes q) =
          elim (c.order y x iy (record { above = omega arith; below = h }) q) [
            | inl l ↦ absurd (omega (arith, above_level a))
            | inr l ↦ absurd (omega (arith, l.0, above_level a))
          ]
      go (no p) (no q) = elim (ℕ_discrete x y) [ yes e ↦ absurd (omega (arith, above_level a, ap t.level e)) | no n ↦ omega arith ]

  pub below_within : {x y : ℕ} → Below t x y → Within g t x y
  below_within self u h = h
  below_within (up {x = x} {p = m} e p) u h = below_within p u ((c.parent x m e).above.holds u h)

  pub below_node : {x y : ℕ} → x < t.nodes → Below t x y → y < t.nodes
  below_node h self = h
  below_node h (up {x = x} {p = m} e p) = below_node (c.parent x m e).above.node p

  -- the way up from y comes by every node that shares a station with it and is of no lower level
  climb : (fuel : ℕ) {y x u : ℕ} → t.nodes ≤ fuel + y → y < t.nodes → x < t.nodes → Holds g t y u → Holds g t x u → t.level y ≤ t.level x → Below t y x
  climb zero m ny nx hy hx l = absurd (omega arith)
  climb (suc fuel) {y} {x} {u} m ny nx hy hx l =
      go (dec_lt (t.level y) (t.level x)) (t.parent y) refl (λ p k np hp lp. climb fuel {y = p} k np nx hp hx lp)
    where
      go :
          Dec (t.level y < t.level x) → (o : Option ℕ) → t.parent y ≡ o
          → ((p : ℕ) → t.nodes ≤ fuel + p → p < t.nodes → Holds g t p u → t.level p ≤ t.level x → Below t p x) → Below t y x
      go (no n) o e later = subst (Below t y) (same_node ny nx (omega arith) hy hx) self
      go (yes h) None e later = absurd (c.root y x e ny (above_of (not_station nx (omega arith)) h hy hx))
      go (yes h) (Some p) e later =
          let par = c.parent y p e in
          let w : Within g t p x = par.smallest x (above_of (not_station nx (omega arith)) h hy hx) in
          up e (later p (omega (arith, above_later ny par.above)) par.above.node (par.above.holds u hy) (within_level (above_inner par.above) w))

  -- a station that a node holds by routes, it holds by parents; and the other way round
  pub holds_in : {x u : ℕ} → x < t.nodes → Holds g t x u → In t u x
  holds_in {x} {u} nx hx =
      let s = holds_station nx hx in
      record {
        station = s;
        below = climb t.nodes (omega arith) (omega (arith, c.all_stations)) nx (station_holds s) hx (omega (arith, c.station_level u s));
      }

  pub in_holds : {x u : ℕ} → In t u x → Holds g t x u
  in_holds {x} {u} i = below_within i.below u (station_holds i.station)

  pub in_node : {x u : ℕ} → In t u x → x < t.nodes
  in_node {u = u} i = below_node (omega (arith, i.station, c.all_stations)) i.below
