-- Every route can be cut to one that comes by no station twice: over some of the same links, none of them twice.
use Rattle.std.proofs.Common.{◌≡◌, ℕ, suc, ◌+◌, ◌*◌, ◌<◌, ◌≤◌, ◌⊎◌, List, [], ◌∷◌, length, refl, inl, inr, mul-le-mul_right, arith}
use Rattle.network.specs.Lists.{Among, Inside, Distinct}
use Rattle.network.specs.Network.{Network, Proper, Hop, Route, here, step, Least, Joined, delay, sum}
use Rattle.network.proofs.Routes.{same_ends, hop_stations, hop_delay, sum_bound}
use Rattle.network.proofs.Lists.{among, each_among, once, pigeonhole}

-- a route that comes by the stations us, by none of them twice
pub data Tour (g : Network) : ℕ → List ℕ → List ℕ → ℕ → Type 0 where
  stay : {a : ℕ} → Tour g a [] (a ∷ []) a
  go : {a b c k : ℕ} {ks us : List ℕ} → Hop g k a b → ¬ Among a us → Tour g b ks us c → Tour g a (k ∷ ks) (a ∷ us) c

pub tour_route : {g : Network} {a b : ℕ} {ks us : List ℕ} → Tour g a ks us b → Route g a ks b
tour_route stay = here
tour_route (go h n t) = step h (tour_route t)

pub tour_distinct : {g : Network} {a b : ℕ} {ks us : List ℕ} → Tour g a ks us b → Distinct us
tour_distinct stay = (λ m. m, tt)
tour_distinct (go h n t) = (n, tour_distinct t)

pub tour_length : {g : Network} {a b : ℕ} {ks us : List ℕ} → Tour g a ks us b → length us ≡ suc (length ks)
tour_length stay = refl
tour_length (go h n t) = omega (arith, tour_length t)

pub tour_first : {g : Network} {a b : ℕ} {ks us : List ℕ} → Tour g a ks us b → Among a us
tour_first stay = inl refl
tour_first (go h n t) = inl refl

-- where a link of it leads
pub record Over (g : Network) (k : ℕ) (us : List ℕ) : Type 0 where
  pub x : ℕ
  pub y : ℕ
  pub hop : Hop g k x y
  pub from : Among x us
  pub to : Among y us

pub tour_over : {g : Network} {a b : ℕ} {ks us : List ℕ} → Tour g a ks us b → (k : ℕ) → Among k ks → Over g k us
tour_over stay k m = elim m [ ]
tour_over {g} (go {a = a} {b = b} {k = l} {ks = ks} {us = us} h n t) k m = pick m (tour_over t k)
  where
    pick : (k ≡ l) ⊎ Among k ks → (Among k ks → Over g k us) → Over g k (a ∷ us)
    pick (inl e) later = record { x = a; y = b; hop = rw e h; from = inl refl; to = inr (tour_first t) }
    pick (inr i) later = let o = later i in record { x = o.x; y = o.y; hop = o.hop; from = inr o.from; to = inr o.to }

-- so it has no link twice: it would come by an end of that link again
pub tour_once : {g : Network} {a b : ℕ} {ks us : List ℕ} → Tour g a ks us b → Distinct ks
tour_once stay = tt
tour_once {g} (go {a = a} {b = b} {k = k} {us = us} h n t) = (λ m. again (tour_over t k m), tour_once t)
  where
    again : Over g k us → ⊥
    again o = elim (same_ends h o.hop) [ inl e ↦ n (rw e.0 at o.from) | inr e ↦ n (rw e.1 at o.to) ]

pub tour_stations : {g : Network} {a b : ℕ} {ks us : List ℕ} → Proper g → a < g.stations → Tour g a ks us b → (u : ℕ) → Among u us → u < g.stations
tour_stations proper l stay u m = elim m [ inl e ↦ omega arith | inr i ↦ elim i [ ] ]
tour_stations {g} proper l (go {a = a} {us = us} h n t) u m = pick m (tour_stations proper (hop_stations proper h).1 t u)
  where
    pick : (u ≡ a) ⊎ Among u us → (Among u us → u < g.stations) → u < g.stations
    pick (inl e) later = omega arith
    pick (inr i) later = later i

-- a tour out of a route: what it leaves out takes 1 or more a link
pub record Toured (g : Network) (a b : ℕ) (ks : List ℕ) : Type 0 where
  pub links : List ℕ
  pub stops : List ℕ
  pub tour : Tour g a links stops b
  pub inside : Inside links ks
  pub shorter : sum g links ≤ sum g ks
  pub spared : Proper g → length ks + sum g links ≤ length links + sum g ks

all_of_it : {g : Network} {a b : ℕ} {ks us : List ℕ} → Tour g a ks us b → Toured g a b ks
all_of_it {ks = ks} {us = us} t = record { links = ks; stops = us; tour = t; inside = λ k i. i; shorter = omega arith; spared = λ p. omega arith }

-- a hop before a route changes nothing for a tour that leaves it out
left_out : {g : Network} {a b c k x : ℕ} {ks : List ℕ} → Hop g k a b → Toured g x c ks → Toured g x c (k ∷ ks)
left_out h r =
    record {
      links = r.links;
      stops = r.stops;
      tour = r.tour;
      inside = λ j i. inr (r.inside j i);
      shorter = omega (arith, r.shorter);
      spared = λ p. omega (arith, r.spared p, hop_delay p h);
    }

-- the rest of a tour from one of its stations on
pub from_stop : {g : Network} {a b u : ℕ} {ks us : List ℕ} → Tour g a ks us b → Among u us → Toured g u b ks
from_stop stay m = elim m [ inl e ↦ rw e (all_of_it stay) | inr i ↦ elim i [ ] ]
from_stop {g} {b = c} {u = u} (go {a = a} {k = k} {ks = ks} {us = us} h n t) m = pick m (from_stop t)
  where
    pick : (u ≡ a) ⊎ Among u us → (Among u us → Toured g u c ks) → Toured g u c (k ∷ ks)
    pick (inl e) later = rw e (all_of_it (go h n t))
    pick (inr i) later = left_out h (later i)

-- a tour out of a tour out of a route
tour_again : {g : Network} {a b c : ℕ} {ks : List ℕ} (r : Toured g b c ks) → Toured g a c r.links → Toured g a c ks
tour_again r s =
    record {
      links = s.links;
      stops = s.stops;
      tour = s.tour;
      inside = λ j i. r.inside j (s.inside j i);
      shorter = omega (arith, s.shorter, r.shorter);
      spared = λ p. omega (arith, s.spared p, r.spared p);
    }

pub tour_of : {g : Network} {a b : ℕ} {ks : List ℕ} → Route g a ks b → Toured g a b ks
tour_of here = all_of_it stay
tour_of {g} {b = c} (step {a = a} {b = b} {k = k} {ks = ks} h p) = pick (tour_of p)
  where
    pick : Toured g b c ks → Toured g a c (k ∷ ks)
    pick r = meet (among a r.stops)
      where
        meet : Dec (Among a r.stops) → Toured g a c (k ∷ ks)
        meet (yes m) = left_out h (tour_again r (from_stop r.tour m))
        meet (no n) =
            record {
              links = k ∷ r.links;
              stops = a ∷ r.stops;
              tour = go h n r.tour;
              inside = λ j. elim [ inl e ↦ inl e | inr i ↦ inr (r.inside j i) ];
              shorter = omega (arith, r.shorter);
              spared = λ p. omega (arith, r.spared p);
            }

pub tour_few : {g : Network} {a b : ℕ} {ks us : List ℕ} → Proper g → a < g.stations → Tour g a ks us b → length ks < g.stations
tour_few {g} {us = us} proper l t = omega (arith, tour_length t, pigeonhole g g.stations us (tour_distinct t) (tour_stations proper l t))

module _ {g : Network} (proper : Proper g) where
  -- a route with the least sum has fewer links than there are stations
  pub least_few : {a b d : ℕ} {ks : List ℕ} → a < g.stations → Least g a b d → Route g a ks b → sum g ks ≡ d → length ks < g.stations
  least_few l h p e =
      let t = tour_of p in
      omega (arith, t.spared proper, h.least t.links (tour_route t.tour), tour_few proper l t.tour)

  -- so the least delay is bounded
  pub least_bounded : {a b d n : ℕ} (most : ℕ) → g.stations ≤ suc n → ((k : ℕ) → k < length g.rows → delay g k ≤ most) → Least g a b d → d ≤ n * most
  least_bounded {d = d} {n = n} most few f h = go h h.attained.route h.attained.total
    where
      short : {a b c k : ℕ} {ks : List ℕ} → Least g a b d → Hop g k a c → Route g a ks b → sum g ks ≡ d → d ≤ n * most
      short {ks = ks} h i p e =
          let m : length ks ≤ n = omega (arith, least_few (hop_stations proper i).0 h p e) in
          omega (arith, sum_bound most f p, mul-le-mul_right most m)

      go : {a b : ℕ} {ks : List ℕ} → Least g a b d → Route g a ks b → sum g ks ≡ d → d ≤ n * most
      go h here e = omega arith
      go h (step i p) e = short h i (step i p) e

-- stations that links out of ls join are no further apart than all of ls together
pub least_drawn : {g : Network} {a b d : ℕ} (ls : List ℕ) → Joined g (λ k. Among k ls) a b → Least g a b d → d ≤ sum g ls
least_drawn {g} ls j h =
    let t = tour_of j.route in
    omega (arith, (once g t.links ls (tour_once t.tour) (λ k m. each_among j.each k (t.inside k m))).0, h.least t.links (tour_route t.tour))
