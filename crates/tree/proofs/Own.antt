-- The own joining links of an inner node x: those inside it that take its width or more. Let m be how many. With h the half of a node's buckets, each child's
-- spread is covered by its own h widths of x, so buckets x + 2 h x ≤ 2 (the children's h) + 6 m.
use Rattle.std.proofs.Common.{◌≡◌, ℕ, ◌+◌, ◌-◌, ◌*◌, ◌/◌, ◌^◌, ◌<◌, ◌≤◌, ◌⊎◌, List, [], ◌∷◌, ◌++◌, length, Some, sym, refl, ap, ◌∙◌, subst, inl, inr, mul-le-mul_right, mul_assoc, mul_comm, add-mul, arith, pow_pos, pow_mono}
use native.Mathlib.Decide.{dec_lt}
use Rattle.network.specs.Lists.{Among, Distinct}
use Rattle.network.specs.Network.{Network, Under, row, delay, sum}
use Rattle.network.proofs.Routes.{join_sum}
use Rattle.network.proofs.Levels.{joined_self, joined_symmetric, joined_transitive, each_map}
use Rattle.network.proofs.Lists.{once}
use Rattle.tree.specs.Components as C
use Rattle.tree.specs.Components.{Components, Holds, Spread, rounded_up}
use Rattle.tree.specs.Joining.{Joining}
use Rattle.tree.specs.Tree.{Tree, Below, In, Inner, width}
use Rattle.tree.proofs.Nodes.{Through, through, tell}
use Rattle.tree.proofs.Sums.{tally, among_left, among_right}
use Rattle.tree.proofs.Sizes.{rounded_covers, rounded_least, half_covers, double}
use Rattle.tree.proofs.Ranks.{joining_small, hop_of}
use Rattle.tree.proofs.Growing.{by_joining}
use Rattle.tree.proofs.Forest.{forest}
use Rattle.tree.proofs.Holding.{above_level, positive, holds_in, in_holds, station_one}
use Rattle.tree.proofs.Fit.{fits, cut, stay_inside}

-- the links that take w or more
record Long (g : Network) (w : ℕ) (ks : List ℕ) : Type 0 where
  links : List ℕ
  once : Distinct links
  among : (k : ℕ) → Among k links → Among k ks × (w ≤ delay g k)
  rest : (k : ℕ) → Among k ks → (delay g k < w) ⊎ Among k links

long : (g : Network) (w : ℕ) (ks : List ℕ) → Distinct ks → Long g w ks
long g w [] d = record { links = []; once = tt; among = λ k a. elim a [ ]; rest = λ k a. elim a [ ] }
long g w (k ∷ ks) d = go (long g w ks d.1) (dec_lt (delay g k) w)
  where
    go : Long g w ks → Dec (delay g k < w) → Long g w (k ∷ ks)
    go r (yes h) =
        record {
          links = r.links;
          once = r.once;
          among = λ j a. (inr (r.among j a).0, (r.among j a).1);
          rest = λ j. elim [ inl e ↦ inl (rw e h) | inr a ↦ r.rest j a ];
        }
    go r (no h) =
        record {
          links = k ∷ r.links;
          once = (λ a. d.0 (r.among k a).0, r.once);
          among = λ j. elim [ inl e ↦ (inl e, rw e (omega arith)) | inr a ↦ (inr (r.among j a).0, (r.among j a).1) ];
          rest = λ j. elim [ inl e ↦ inr (inl e) | inr a ↦ elim (r.rest j a) [ inl l ↦ inl l | inr b ↦ inr (inr b) ] ];
        }

short_sum : (g : Network) (w : ℕ) (ks : List ℕ) → ((k : ℕ) → Among k ks → delay g k < w) → sum g ks ≤ length ks * w
short_sum g w [] f = omega arith
short_sum g w (k ∷ ks) f = omega (arith, f k (inl refl), short_sum g w ks (λ j a. f j (inr a)), add-mul 1 (length ks) w)

no_links : (g : Network) (ks : List ℕ) → ((k : ℕ) → ¬ Among k ks) → sum g ks ≡ 0
no_links g [] f = refl
no_links g (k ∷ ks) f = absurd (f k (inl refl))

module _ {g : Network} {t : Tree} (c : Components g t) where
  abbrev pub half : ℕ → ℕ
  half x = t.buckets x / 2

  pub station_spread : {u : ℕ} → u < t.stations → t.spread u ≡ 0
  station_spread {u} h =
      let s = c.spread u (omega (arith, c.all_stations)) in
      sym s.total ∙ no_links g s.links (λ k a. none ((s.each k).0 a))
    where
      none : {k : ℕ} → C.Inside g t u k → ⊥
      none {k} i = (c.proper k i.joining.listed).1 (sym (station_one c h i.from) ∙ station_one c h i.to)

  -- half of a child's buckets, as wide as its parent's, cover its spread
  child_covered : (x d : ℕ) → t.parent d ≡ Some x → t.spread d ≤ half d * width t x
  child_covered x d e = go (dec_lt d t.stations)
    where
      go : Dec (d < t.stations) → t.spread d ≤ half d * width t x
      go (yes s) = omega (arith, station_spread s)
      go (no s) =
          let i : Inner t d = record { above = omega arith; below = (c.parent d x e).node } in
          let q = rounded_up (t.spread d) (width t d) in
          let m : t.level d ≤ t.level x - 1 = omega (arith, above_level c (c.parent d x e).above) in
          let w : 2 * width t d ≤ width t x = omega (arith, double (t.level d) (positive c d i), pow_mono m) in
          omega (
            arith,
            half_covers (t.spread d) (width t d) q (rounded_covers (t.spread d) (width t d) (pow_pos (t.level d - 1))),
            ap (λ z. (z / 2) * (2 * width t d)) (c.buckets d i),
            mul-le-mul_right (half d) w,
            mul_comm (half d) (2 * width t d),
            mul_comm (half d) (width t x),
          )

  -- the joining links inside the children ds of x
  record Kids (ds : List ℕ) (x : ℕ) : Type 0 where
    links : List ℕ
    every : (d k : ℕ) → Among d ds → C.Inside g t d k → Among k links
    few : sum g links ≤ tally half ds * width t x

  kids : (x : ℕ) (ds : List ℕ) → ((d : ℕ) → Among d ds → t.parent d ≡ Some x) → Kids ds x
  kids x [] f = record { links = []; every = λ d k a. elim a [ ]; few = omega arith }
  kids x (d ∷ ds) f =
      let s = c.spread d (c.parent d x (f d (inl refl))).node in
      let r = kids x ds (λ e a. f e (inr a)) in
      record {
        links = s.links ++ r.links;
        every = λ e k a i.
            elim a [
              | inl h ↦ among_left k s.links r.links ((s.each k).1 (subst (λ z. C.Inside g t z k) h i))
              | inr b ↦ among_right k s.links r.links (r.every e k b i)
            ];
        few = omega (arith, join_sum g s.links r.links, s.total, r.few, child_covered x d (f d (inl refl)), add-mul (half d) (tally half ds) (width t x));
      }

  -- k is a joining link of x, and inside none of its children
  pub record Owns (x k : ℕ) : Type 0 where
    pub joining : Joining g k
    pub from : Holds g t x (row g k).from
    pub wide : width t x ≤ delay g k
    pub small : delay g k < 2 ^ t.level x

  pub record Own (x : ℕ) : Type 0 where
    pub links : List ℕ
    pub once : Distinct links
    pub each : (k : ℕ) → Among k links → Owns x k
    pub some : 1 ≤ length links
    pub few : t.buckets x + 2 * half x ≤ 2 * tally half (t.children x) + 6 * length links

  pub own : (x : ℕ) → Inner t x → Own x
  own x i =
      record {
        links = o.links;
        once = o.once;
        each = λ k a.
            let j = (s.each k).0 (o.among k a).0 in
            record { joining = j.joining; from = j.from; wide = (o.among k a).1; small = low k (o.among k a).0 };
        some = one o.links refl;
        few = omega (arith, c.buckets x i, lines, one o.links refl);
      }
    where
      s : Spread g t x (t.spread x)
      s = c.spread x i.below

      o : Long g (width t x) s.links
      o = long g (width t x) s.links s.once

      y : Kids (t.children x) x
      y = kids x (t.children x) (λ d a. (c.children x d).0 a)

      low : (k : ℕ) → Among k s.links → delay g k < 2 ^ t.level x
      low k a = let j = (s.each k).0 a in (joining_small c.proper (t.level x) k j.joining (joined_transitive (joined_symmetric j.from) j.to)).under

      -- the links shorter than the width do not join all of x
      one : (ls : List ℕ) → o.links ≡ ls → 1 ≤ length o.links
      one (k ∷ ks) e = rw e (omega arith)
      one [] e =
          let f = c.forms x i in
          let p = by_joining (forest {g = g} c.proper (t.level x)).grouped f.joint.joined in
          let inside = stay_inside {t = t} {x = x} (forest {g = g} c.proper (t.level x)).grouped p.route p.each (joined_self (t.lowest x)) in
          let u : Under g (t.level x - 1) (t.lowest x) f.other = record { links = p.links; route = p.route; each = each_map (λ k j. record { under = short k ((s.each k).1 j) }) inside } in
          absurd (omega (arith, f.joint.smallest (t.level x - 1) u, positive c x i))
        where
          short : (k : ℕ) → Among k s.links → delay g k < 2 ^ (t.level x - 1)
          short k a = elim (o.rest k a) [ inl l ↦ l | inr b ↦ elim (subst (Among k) e b) [ ] ]

      -- a link shorter than the width is inside a child
      inside : (k : ℕ) → Among k s.links → delay g k < width t x → Among k y.links
      inside k a l = go (through p.below)
        where
          j : C.Inside g t x k
          j = (s.each k).0 a

          p : In t (row g k).from x
          p = holds_in c i.below j.from

          q : In t (row g k).to x
          q = holds_in c i.below j.to

          go : ((row g k).from ≡ x) ⊎ Through t (row g k).from x → Among k y.links
          go (inl e) = absurd (omega (arith, p.station, i.above))
          go (inr d) = pick (tell (fits c) (row g k).to d.child)
            where
              pick : Dec (Below t (row g k).to d.child) → Among k y.links
              pick (yes b) =
                  y.every d.child k ((c.children x d.child).1 d.parent)
                  (record {
                    joining = j.joining;
                    from = in_holds c (record { station = p.station; below = d.below });
                    to = in_holds c (record { station = q.station; below = b });
                  })
              pick (no b) = absurd (omega (arith, cut c d.child x k (row g k).from (row g k).to d.parent d.below (hop_of j.joining) b))

      twice : (m : ℕ) → m * 2 ^ t.level x ≡ (2 * m) * width t x
      twice m = ap (λ z. m * z) (double (t.level x) (positive c x i)) ∙ sym (mul_assoc m 2 (width t x)) ∙ ap (λ z. z * width t x) (mul_comm m 2)

      covered : (k : ℕ) → Among k s.links → Among k (y.links ++ o.links)
      covered k a =
          elim (o.rest k a) [
            | inl l ↦ among_left k y.links o.links (inside k a l)
            | inr b ↦ among_right k y.links o.links b
          ]

      lines : rounded_up (t.spread x) (width t x) ≤ tally half (t.children x) + 2 * length o.links
      lines =
          let all = (once g s.links (y.links ++ o.links) s.once covered).0 in
          let short = short_sum g (2 ^ t.level x) o.links (λ k a. low k (o.among k a).0) in
          rounded_least (t.spread x) (width t x) (tally half (t.children x) + 2 * length o.links) (pow_pos (t.level x - 1))
          (omega (arith, all, short, s.total, join_sum g y.links o.links, y.few, twice (length o.links), add-mul (tally half (t.children x)) (2 * length o.links) (width t x)))
