-- Runs of places, laid one behind the other: a node's run is exactly the places of its stations.
use Rattle.std.proofs.Common.{◌≡◌, ℕ, zero, suc, ◌<◌, ◌≤◌, List, [], ◌∷◌, Some, None, sym, refl, ap, ◌∙◌, subst, inl, inr, arith}
use native.Mathlib.Decide.{dec_lt, dec_le}
use Rattle.network.specs.Lists.{Among}
use Rattle.network.specs.Network.{Network}
use Rattle.tree.specs.Components.{Components, Laid, Rising}
use Rattle.tree.specs.Tree.{Tree, Below, self, up, In, Inner, Seat, Runs}
use Rattle.tree.proofs.Nodes.{in_parent, in_inner, station_only, rooted, Through, Rooted}
use Rattle.tree.proofs.Holding.{low, holds_in, in_holds, below_node, above_later, lowest_least}
use Rattle.tree.proofs.Fit.{fits}

-- p is a place of the run of x
pub record On (t : Tree) (x p : ℕ) : Type 0 where
  pub from : t.low x ≤ p
  pub to : p ≤ t.high x

-- of runs that are laid, none of them empty
module _ (t : Tree) where
  pub laid_on : (cs : List ℕ) (p q : ℕ) → Laid t cs p q → ((d : ℕ) → Among d cs → t.low d ≤ t.high d) → p ≤ q
  laid_on [] p q l ok = omega arith
  laid_on (c ∷ cs) p q l ok = omega (arith, l.0, ok c (inl refl), laid_on cs (suc (t.high c)) q l.1 (λ d a. ok d (inr a)))

  pub laid_within :
      (cs : List ℕ) (p q : ℕ) → Laid t cs p q → ((d : ℕ) → Among d cs → t.low d ≤ t.high d) → (d : ℕ) → Among d cs → (p ≤ t.low d) × (t.high d < q)
  laid_within [] p q l ok d a = elim a [ ]
  laid_within (c ∷ cs) p q l ok d (inl e) =
      let h = laid_on cs (suc (t.high c)) q l.1 (λ d a. ok d (inr a)) in
      (omega (arith, l.0, ap t.low e), omega (arith, ap t.high e))
  laid_within (c ∷ cs) p q l ok d (inr a) =
      let h = laid_within cs (suc (t.high c)) q l.1 (λ d a. ok d (inr a)) d a in
      (omega (arith, h.0, l.0, ok c (inl refl)), h.1)

  pub laid_find : (cs : List ℕ) (p q r : ℕ) → Laid t cs p q → p ≤ r → r < q → (d : ℕ) × Among d cs × On t d r
  laid_find [] p q r l h k = absurd (omega arith)
  laid_find (c ∷ cs) p q r l h k = go (dec_le r (t.high c)) (λ m. laid_find cs (suc (t.high c)) q r l.1 m k)
    where
      go : Dec (r ≤ t.high c) → (suc (t.high c) ≤ r → (d : ℕ) × Among d cs × On t d r) → (d : ℕ) × Among d (c ∷ cs) × On t d r
      go (yes m) later = (c, inl refl, record { from = omega (arith, l.0); to = m })
      go (no m) later = let z = later (omega arith) in (z.0, inr z.1, z.2)

  pub laid_one :
      (cs : List ℕ) (p q r d e : ℕ) → Laid t cs p q → ((d : ℕ) → Among d cs → t.low d ≤ t.high d) → Among d cs → Among e cs → On t d r → On t e r → d ≡ e
  laid_one [] p q r d e l ok a b i j = elim a [ ]
  laid_one (c ∷ cs) p q r d e l ok (inl a) (inl b) i j = a ∙ sym b
  laid_one (c ∷ cs) p q r d e l ok (inl a) (inr b) i j =
      absurd (omega (arith, (laid_within cs (suc (t.high c)) q l.1 (λ d a. ok d (inr a)) e b).0, ap t.high a, i.to, j.from))
  laid_one (c ∷ cs) p q r d e l ok (inr a) (inl b) i j =
      absurd (omega (arith, (laid_within cs (suc (t.high c)) q l.1 (λ d a. ok d (inr a)) d a).0, ap t.high b, j.to, i.from))
  laid_one (c ∷ cs) p q r d e l ok (inr a) (inr b) i j = laid_one cs (suc (t.high c)) q r d e l.1 (λ d a. ok d (inr a)) a b i j

  -- and in the order of their lowest stations
  pub laid_order :
      (cs : List ℕ) (p q d e : ℕ) → Laid t cs p q → Rising t cs → ((d : ℕ) → Among d cs → t.low d ≤ t.high d) → Among d cs → Among e cs
      → t.lowest d < t.lowest e → t.high d < t.low e
  laid_order [] p q d e l r ok a b h = elim a [ ]
  laid_order (c ∷ cs) p q d e l r ok (inl a) (inl b) h = absurd (omega (arith, ap t.lowest a, ap t.lowest b))
  laid_order (c ∷ cs) p q d e l r ok (inl a) (inr b) h =
      omega (arith, (laid_within cs (suc (t.high c)) q l.1 (λ d a. ok d (inr a)) e b).0, ap t.high a)
  laid_order (c ∷ cs) p q d e l r ok (inr a) (inl b) h = absurd (omega (arith, r.0 d a, ap t.lowest b))
  laid_order (c ∷ cs) p q d e l r ok (inr a) (inr b) h = laid_order cs (suc (t.high c)) q d e l.1 r.1 (λ d a. ok d (inr a)) a b h

module _ {g : Network} {t : Tree} (c : Components g t) where
  pub child_earlier : {x d : ℕ} → Among d (t.children x) → d < x
  child_earlier {x} {d} a = let p = c.parent d x ((c.children x d).0 a) in above_later c p.node p.above

  -- an inner node has a child
  some_child : {x : ℕ} → Inner t x → (d : ℕ) × Among d (t.children x)
  some_child {x} i = let z = in_inner (fits c) i.above (holds_in c i.below (low g t x)) in (z.child, (c.children x z.child).1 z.parent)

  filled_below : (n x : ℕ) → x < n → x < t.nodes → t.low x ≤ t.high x
  filled_below zero x l h = absurd (omega arith)
  filled_below (suc n) x l h = go (dec_lt x t.stations) (λ d a. filled_below n d (omega (arith, child_earlier a)) (c.parent d x ((c.children x d).0 a)).node)
    where
      go : Dec (x < t.stations) → ((d : ℕ) → Among d (t.children x) → t.low d ≤ t.high d) → t.low x ≤ t.high x
      go (yes s) ok = omega (arith, c.seat_low x s, c.seat_high x s)
      go (no s) ok =
          let i : Inner t x = record { above = omega arith; below = h } in
          let z = some_child i in
          let w = laid_within t (t.children x) (t.low x) (suc (t.high x)) (c.laid x i) ok z.0 z.1 in
          omega (arith, w.0, w.1, ok z.0 z.1)

  -- no run is empty
  pub filled : {x : ℕ} → x < t.nodes → t.low x ≤ t.high x
  filled {x} h = filled_below (suc x) x (omega arith) h

  pub filled_child : (x d : ℕ) → Among d (t.children x) → t.low d ≤ t.high d
  filled_child x d a = filled (c.parent d x ((c.children x d).0 a)).node

  filled_root : (r : ℕ) → Among r c.roots → t.low r ≤ t.high r
  filled_root r a = filled ((c.tops r).0 a).0

  pub below_run : {y x : ℕ} → Below t y x → (t.low x ≤ t.low y) × (t.high y ≤ t.high x)
  below_run self = (omega arith, omega arith)
  below_run (up {x = y} {p = m} e b) =
      let h = below_run b in
      let w = laid_within t (t.children m) (t.low m) (suc (t.high m)) (c.laid m ((fits c).inner y m e)) (filled_child m) y ((c.children m y).1 e) in
      (omega (arith, h.0, w.0), omega (arith, h.1, w.1))

  pub on_run : {u x : ℕ} → In t u x → On t x (t.place u)
  on_run {u} i =
      let h = below_run i.below in
      record { from = omega (arith, h.0, c.seat_low u i.station); to = omega (arith, h.1, c.seat_high u i.station) }

  seat_below : (n x p : ℕ) → x < n → x < t.nodes → On t x p → Seat t x p
  seat_below zero x p l h o = absurd (omega arith)
  seat_below (suc n) x p l h o = go (dec_lt x t.stations) (λ d a q. seat_below n d p (omega (arith, child_earlier a)) (c.parent d x ((c.children x d).0 a)).node q)
    where
      go : Dec (x < t.stations) → ((d : ℕ) → Among d (t.children x) → On t d p → Seat t d p) → Seat t x p
      go (yes s) later =
          record { who = x; inside = record { station = s; below = self }; here = omega (arith, c.seat_low x s, c.seat_high x s, o.from, o.to) }
      go (no s) later =
          let z = laid_find t (t.children x) (t.low x) (suc (t.high x)) p (c.laid x (record { above = omega arith; below = h })) o.from (omega (arith, o.to)) in
          let k = later z.0 z.1 z.2 in
          record { who = k.who; inside = in_parent ((c.children x z.0).0 z.1) k.inside; here = k.here }

  same_below : (n x u w : ℕ) → x < n → In t u x → In t w x → t.place u ≡ t.place w → u ≡ w
  same_below zero x u w l i j e = absurd (omega arith)
  same_below (suc n) x u w l i j e = go (dec_lt x t.stations) (λ d a p q. same_below n d u w (omega (arith, child_earlier a)) p q e)
    where
      go : Dec (x < t.stations) → ((d : ℕ) → Among d (t.children x) → In t u d → In t w d → u ≡ w) → u ≡ w
      go (yes s) later = station_only (fits c) s i.below ∙ sym (station_only (fits c) s j.below)
      go (no s) later = both (in_inner (fits c) (omega arith) i) (in_inner (fits c) (omega arith) j)
        where
          both : Through t u x → Through t w x → u ≡ w
          both p q =
              let a = (c.children x p.child).1 p.parent in
              let b = (c.children x q.child).1 q.parent in
              let iu : In t u p.child = record { station = i.station; below = p.below } in
              let iw : In t w q.child = record { station = j.station; below = q.below } in
              let z : p.child ≡ q.child =
              laid_one t (t.children x) (t.low x) (suc (t.high x)) (t.place u) p.child q.child (c.laid x ((fits c).inner p.child x p.parent)) (filled_child x) a b
              (on_run iu) (subst (On t q.child) (sym e) (on_run iw)) in
              later p.child a iu (subst (In t w) (sym z) iw)

  seats_apart : (u w : ℕ) → u < t.stations → w < t.stations → t.place u ≡ t.place w → u ≡ w
  seats_apart u w hu hw e = go (rooted (fits c) u) (rooted (fits c) w)
    where
      listed : {v : ℕ} → v < t.stations → (r : Rooted t v) → Among r.root c.roots
      listed h r = (c.tops r.root).1 (below_node c (omega (arith, c.all_stations)) r.below, r.top)

      go : Rooted t u → Rooted t w → u ≡ w
      go p q =
          let iu : In t u p.root = record { station = hu; below = p.below } in
          let iw : In t w q.root = record { station = hw; below = q.below } in
          let z : p.root ≡ q.root =
          laid_one t c.roots 0 t.stations (t.place u) p.root q.root c.laid_roots filled_root (listed hu p) (listed hw q)
          (on_run iu) (subst (On t q.root) (sym e) (on_run iw)) in
          same_below (suc p.root) p.root u w (omega arith) iu (subst (In t w) (sym z) iw) e

  pub runs : Runs t
  runs =
      record {
        starts = λ u x i. (on_run i).from;
        ends = λ u x i. (on_run i).to;
        seat = λ x p h from to. seat_below (suc x) x p (omega arith) h (record { from = from; to = to });
        apart = seats_apart;
      }

  -- the places are those below the number of stations
  pub place_below : {u : ℕ} → u < t.stations → t.place u < t.stations
  place_below {u} h =
      let r = rooted (fits c) u in
      let a = (c.tops r.root).1 (below_node c (omega (arith, c.all_stations)) r.below, r.top) in
      omega (arith, (on_run (record { station = h; below = r.below })).to, (laid_within t c.roots 0 t.stations c.laid_roots filled_root r.root a).1)

  pub siblings : (x y p : ℕ) → t.parent x ≡ Some p → t.parent y ≡ Some p → t.lowest x < t.lowest y → t.high x < t.low y
  siblings x y p e f h =
      laid_order t (t.children p) (t.low p) (suc (t.high p)) x y (c.laid p ((fits c).inner x p e)) (c.rising p) (filled_child p) ((c.children p x).1 e) ((c.children p y).1 f) h

  pub roots_order : (x y : ℕ) → x < t.nodes → y < t.nodes → t.parent x ≡ None → t.parent y ≡ None → t.lowest x < t.lowest y → t.high x < t.low y
  roots_order x y m n e f h =
      laid_order t c.roots 0 t.stations x y c.laid_roots c.rising_roots filled_root ((c.tops x).1 (m, e)) ((c.tops y).1 (n, f)) h

  -- a node's run begins with its lowest station
  first_below : (n x : ℕ) → x < n → x < t.nodes → t.place (t.lowest x) ≡ t.low x
  first_below zero x l h = absurd (omega arith)
  first_below (suc n) x l h =
      go (dec_lt x t.stations) (λ d a. first_below n d (omega (arith, child_earlier a)) (c.parent d x ((c.children x d).0 a)).node)
    where
      go : Dec (x < t.stations) → ((d : ℕ) → Among d (t.children x) → t.place (t.lowest d) ≡ t.low d) → t.place (t.lowest x) ≡ t.low x
      go (yes s) later = ap t.place (c.station_lowest x s) ∙ sym (c.seat_low x s)
      go (no s) later = inside (in_inner (fits c) i.above (holds_in c h (low g t x)))
        where
          i : Inner t x
          i = record { above = omega arith; below = h }

          -- the child with the lowest station of x is the first child
          inside : Through t (t.lowest x) x → t.place (t.lowest x) ≡ t.low x
          inside z = begins (t.children x) (c.laid x i) (c.rising x) ((c.children x z.child).1 z.parent) (λ d a. (c.children x d).0 a)
            where
              lowest : t.lowest z.child ≡ t.lowest x
              lowest =
                  let q = c.parent z.child x z.parent in
                  let m = (holds_in c h (low g t x)).station in
                  omega (arith, lowest_least c q.node (in_holds c (record { station = m; below = z.below })), lowest_least c h (q.above.holds (t.lowest z.child) (low g t z.child)))

              begins :
                  (cs : List ℕ) → Laid t cs (t.low x) (suc (t.high x)) → Rising t cs → Among z.child cs → ((d : ℕ) → Among d cs → t.parent d ≡ Some x)
                  → t.place (t.lowest x) ≡ t.low x
              begins [] l r a f = elim a [ ]
              begins (d ∷ ds) l r (inl e) f =
                  ap t.place (sym lowest) ∙ later z.child ((c.children x z.child).1 z.parent) ∙ ap t.low e ∙ l.0
              begins (d ∷ ds) l r (inr a) f =
                  let q = c.parent d x (f d (inl refl)) in
                  absurd (omega (arith, r.0 z.child a, lowest, lowest_least c h (q.above.holds (t.lowest d) (low g t d))))

  pub begins_lowest : (x : ℕ) → x < t.nodes → t.place (t.lowest x) ≡ t.low x
  begins_lowest x h = first_below (suc x) x (omega arith) h
