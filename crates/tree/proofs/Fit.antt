-- The component tree fits its network: all that the walk has to know of it.
use Rattle.std.proofs.Common.{◌≡◌, ℕ, ◌+◌, ◌-◌, ◌*◌, ◌<◌, ◌≤◌, ◌⊎◌, List, [], ◌∷◌, Some, None, refl, ap, inl, inr, add-mul, arith, pow_pos}
use native.Mathlib.Decide.{dec_lt}
use Rattle.network.specs.Lists.{Among, Distinct}
use Rattle.network.specs.Network.{Network, Hop, Route, here, step, Each, none, and, Small, row, delay}
use Rattle.network.proofs.Routes.{flip, same_ends, hop_stations}
use Rattle.network.proofs.Levels.{joined_link, joined_symmetric, joined_transitive}
use Rattle.network.proofs.Lists.{once, each_among}
use Rattle.network.proofs.Cuts.{tour_of, tour_route, tour_once}
use Rattle.network.proofs.Groups.{under?, below_pow}
use Rattle.tree.specs.Joining.{Joining}
use Rattle.tree.specs.Components.{Components, Holds, Rising, Inside, rounded_up}
use Rattle.tree.specs.Tree as T
use Rattle.tree.specs.Tree.{Tree, Below, Inner, Near, Fits, width}
use Rattle.tree.proofs.Growing.{Grouped, by_joining}
use Rattle.tree.proofs.Forest.{forest}
use Rattle.tree.proofs.Ranks.{hop_of}
use Rattle.tree.proofs.Holding.{above_level, above_inner, above_later, within_level, positive, holds_in, in_holds, below_node}
use Rattle.tree.proofs.Common.{over}
use Rattle.tree.proofs.Sizes.{rounded_covers}

pub each_from : {such : ℕ → Type 0} (ks : List ℕ) → ((k : ℕ) → Among k ks → such k) → Each such ks
each_from [] f = none
each_from (k ∷ ks) f = and (f k (inl refl)) (each_from ks (λ j a. f j (inr a)))

pub rising_once : (t : Tree) (cs : List ℕ) → Rising t cs → Distinct cs
rising_once t [] r = tt
rising_once t (c ∷ cs) r = (λ a. omega (arith, r.0 c a), rising_once t cs r.1)

-- the tree's own word for a list's elements says the same
to_tree : (c : ℕ) (cs : List ℕ) → Among c cs → T.Among c cs
to_tree c [] a = a
to_tree c (d ∷ cs) (inl e) = inl e
to_tree c (d ∷ cs) (inr a) = inr (to_tree c cs a)

of_tree : (c : ℕ) (cs : List ℕ) → T.Among c cs → Among c cs
of_tree c [] a = a
of_tree c (d ∷ cs) (inl e) = inl e
of_tree c (d ∷ cs) (inr a) = inr (of_tree c cs a)

once_tree : (cs : List ℕ) → Distinct cs → T.Distinct cs
once_tree [] d = tt
once_tree (c ∷ cs) d = (λ a. d.0 (of_tree c cs a), once_tree cs d.1)

-- a route of joining links under 2 ^ level, out of a station of x, stays inside x
pub stay_inside :
    {g : Network} {t : Tree} {x : ℕ} {label : ℕ → ℕ} {joins : List ℕ} → Grouped g (Small g (t.level x)) label joins
    → {u v : ℕ} {ks : List ℕ} → Route g u ks v → Each (λ j. Among j joins) ks → Holds g t x u → Each (Inside g t x) ks
stay_inside now here e h = none
stay_inside {g} {t} {x} now (step {a = a} {b = b} {k = k} hop p) (and m e) h = and (ends (same_ends hop (hop_of joining))) (stay_inside now p e next)
  where
    joining : Joining g k
    joining = (now.sound k m).1

    next : Holds g t x b
    next = joined_transitive h (joined_link hop (now.sound k m).0)

    ends : (((row g k).from ≡ a) × ((row g k).to ≡ b)) ⊎ (((row g k).from ≡ b) × ((row g k).to ≡ a)) → Inside g t x k
    ends (inl q) = record { joining = joining; from = rw q.0 h; to = rw q.1 next }
    ends (inr q) = record { joining = joining; from = rw q.0 next; to = rw q.1 h }

module _ {g : Network} {t : Tree} (c : Components g t) where
  hop_station : {k a b : ℕ} → Hop g k a b → b < t.stations
  hop_station h = omega (arith, (hop_stations c.proper h).1, c.stations)

  pub cut : (x y k a b : ℕ) → t.parent x ≡ Some y → Below t a x → Hop g k a b → ¬ Below t b x → width t y ≤ delay g k
  cut x y k a b e i h n = go (dec_lt (delay g k) (width t y))
    where
      iy : Inner t y
      iy = above_inner c (c.parent x y e).above

      go : Dec (delay g k < width t y) → width t y ≤ delay g k
      go (no l) = omega arith
      go (yes l) =
          let sa = hop_station (flip h) in
          let o = over c (t.level y - 1) sa (in_holds c (record { station = sa; below = i })) (joined_link h (record { under = l })) (λ q. n (holds_in c (c.parent x y e).node q).below) in
          absurd (omega (arith, o.level, positive c y iy, within_level c iy ((c.parent x y e).smallest o.node o.above)))

  pub whole : (r k a b : ℕ) → t.parent r ≡ None → Below t a r → Hop g k a b → Below t b r
  whole r k a b e i h = go (under? c.proper (t.level r) (t.lowest r) b)
    where
      sa : a < t.stations
      sa = hop_station (flip h)

      nr : r < t.nodes
      nr = below_node c (omega (arith, sa, c.all_stations)) i

      go : Dec (Holds g t r b) → Below t b r
      go (yes q) = (holds_in c nr q).below
      go (no n) =
          let o = over c (delay g k) sa (in_holds c (record { station = sa; below = i })) (joined_link h (record { under = below_pow (delay g k) })) n in
          absurd (c.root r o.node e nr o.above)

  -- the joining links join the stations of a node, so these are no further apart than its spread
  pub near : (x a b : ℕ) → x < t.nodes → Holds g t x a → Holds g t x b → Near g t x a b
  near x a b n ha hb =
      let f = forest {g = g} c.proper (t.level x) in
      let s = c.spread x n in
      let w = by_joining f.grouped (joined_transitive (joined_symmetric ha) hb) in
      let v = tour_of w.route in
      let inside = stay_inside {t = t} {x = x} f.grouped w.route w.each ha in
      record {
        links = v.links;
        route = tour_route v.tour;
        small = each_from v.links (λ k m. (f.grouped.sound k (each_among w.each k (v.inside k m))).0);
        short = omega (arith, s.total, (once g v.links s.links (tour_once v.tour) (λ k m. (s.each k).1 (each_among inside k (v.inside k m)))).0);
      }

  pub room : (x : ℕ) → Inner t x → t.spread x + width t x ≤ t.buckets x * width t x
  room x i =
      omega (arith, rounded_covers (t.spread x) (width t x) (pow_pos (t.level x - 1)), add-mul (rounded_up (t.spread x) (width t x)) 1 (width t x), ap (λ z. z * width t x) (c.buckets x i))

  pub fits : Fits g t
  fits =
      record {
        proper = c.proper;
        stations = c.stations;
        inner = λ x p e. above_inner c (c.parent x p e).above;
        later = λ x p e. above_later c (c.parent x p e).node (c.parent x p e).above;
        rising = λ x p e. above_level c (c.parent x p e).above;
        positive = positive c;
        child = λ x d a. (c.children x d).0 (of_tree d (t.children x) a);
        listed = λ x d e. to_tree d (t.children x) ((c.children x d).1 e);
        once = λ x. once_tree (t.children x) (rising_once t (t.children x) (c.rising x));
        cut = cut;
        whole = whole;
        near = λ x a b i p q. near x a b i.below (in_holds c p) (in_holds c q);
        room = room;
        numbered = c.numbered;
      }
