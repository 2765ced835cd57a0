-- The station that may be visited next is at its least delay.
use Rattle.std.proofs.Common.{◌≡◌, ℕ, suc, ◌+◌, ◌/◌, ◌^◌, ◌<◌, ◌≤◌, ◌⊎◌, List, [], ◌∷◌, inl, inr, mul-le-mul_right, div-mul-le_self, arith, pow_pos}
use native.Mathlib.Nat.{lt-div-mul-add, div-eq_of_lt}
use Rattle.network.specs.Network.{Network, Hop, Route, here, step, NoRoute, Attained, Least, Joint, delay, sum}
use Rattle.network.specs.Next.{Done, Near, Known, Bucketed, Next, Visited, Passes}
use Rattle.network.proofs.Leasts.{least_le, attained_self, attained_link}
use Rattle.network.proofs.Levels.{apart}
use Rattle.network.proofs.Groups.{joint_apart, below_pow}

-- a number in no later bucket of width 2 ^ i is less than a width further
pub bucket : (i x y : ℕ) → x / 2 ^ i ≤ y / 2 ^ i → x < y + 2 ^ i
bucket i x y h =
    omega (arith, lt-div-mul-add {a = x} (pow_pos i), div-mul-le_self y (2 ^ i), mul-le-mul_right (2 ^ i) h)

-- at a level that keeps them apart, no route from u, at y, leads to v in less than x
pub bucketed_long : {g : Network} {u v x y : ℕ} {ks : List ℕ} → Bucketed g u v x y → Route g u ks v → x ≤ y + sum g ks
bucketed_long {x = x} {y = y} b p = omega (arith, bucket b.level x y b.bucket, apart b.apart p)

-- one below their joint level two stations are apart
pub bucketed_joint : {g : Network} {u v x y i : ℕ} → Joint g u v (suc i) → x / 2 ^ i ≤ y / 2 ^ i → Bucketed g u v x y
bucketed_joint {i = i} j l = record { level = i; apart = joint_apart j; bucket = l }

-- and so they are at every level where no route joins them
pub bucketed_no_route : {g : Network} {u v x y : ℕ} → NoRoute g u v → Bucketed g u v x y
bucketed_no_route {x = x} n = record { level = x; apart = λ u. n u.links u.route; bucket = omega (arith, div-eq_of_lt (below_pow x)) }

pub passes_wider : {g : Network} {tentative : ℕ → ℕ → Type 0} {v x y : ℕ} → x ≤ y → Passes g tentative v x → Passes g tentative v y
passes_wider l r = record { by = r.by; at = r.at; known = r.known; rest = r.rest; on = r.on; within = omega (arith, r.within) }

module _ {g : Network} {s : ℕ} {final tentative : ℕ → ℕ → Type 0} (knows : Known g s final tentative) where
  -- from a visited station on, whose delay is d: the end of a route is visited, or the route comes by a known station
  pub passes_on : {w v : ℕ} {ks : List ℕ} (d : ℕ) → final w d → Route g w ks v → Done final v ⊎ Passes g tentative v (d + sum g ks)
  passes_on d f here = inl (d, f)
  passes_on {v = v} d f (step {a = w} {b = u} {k = k} {ks = ks} h p) = go (knows.relaxed w d k u f h) (λ e i. passes_on e i p)
    where
      go :
          Done final u ⊎ Near tentative u (d + delay g k)
          → ((e : ℕ) → final u e → Done final v ⊎ Passes g tentative v (e + sum g ks))
          → Done final v ⊎ Passes g tentative v (d + sum g (k ∷ ks))
      go (inl i) later =
          let l = least_le (knows.exact u i.0 i.1) (attained_link (knows.exact w d f).attained h) in
          elim (later i.0 i.1) [ inl e ↦ inl e | inr r ↦ inr (passes_wider (omega arith) r) ]
      go (inr t) later = inr (record { by = u; at = t.0; known = t.1; rest = ks; on = p; within = omega (arith, t.2) })

  -- a route from the source leads to a visited station, or comes by a known one
  pub passes : {v : ℕ} {ks : List ℕ} → Route g s ks v → Done final v ⊎ Passes g tentative v (sum g ks)
  passes {v} {ks} p = go knows.start
    where
      go : Done final s ⊎ tentative s 0 → Done final v ⊎ Passes g tentative v (sum g ks)
      go (inl f) =
          let z = (knows.exact s f.0 f.1).least [] here in
          elim (passes_on f.0 f.1 p) [ inl e ↦ inl e | inr r ↦ inr (passes_wider (omega arith) r) ]
      go (inr t) = inr (record { by = s; at = 0; known = t; rest = ks; on = p; within = omega arith })

  pub next_least : {v x : ℕ} → Next g final tentative v x → Least g s v x
  next_least {v} {x} next = record { attained = knows.found v x next.known; least = λ ks p. long (passes p) }
    where
      from_known : {z : ℕ} (r : Passes g tentative v z) → (x ≤ r.at) ⊎ Bucketed g r.by v x r.at → x ≤ z
      from_known r (inl l) = omega (arith, r.within)
      from_known r (inr b) = omega (arith, r.within, bucketed_long b r.on)

      long : {z : ℕ} → Done final v ⊎ Passes g tentative v z → x ≤ z
      long (inl f) = absurd (next.unvisited f)
      long (inr r) = from_known r (next.first r.by r.at r.known)

  -- where no station is known and not visited, every station with a route has been visited
  pub all_visited : ((u y : ℕ) → ¬ tentative u y) → {v : ℕ} {ks : List ℕ} → Route g s ks v → Done final v
  all_visited n p = elim (passes p) [ inl f ↦ f | inr r ↦ absurd (n r.by r.at r.known) ]

  -- a visit keeps what a walk knows
  module _ {v x : ℕ} {final' tentative' : ℕ → ℕ → Type 0} (next : Next g final tentative v x) (visit : Visited g v x final tentative final' tentative') where
    found_after : (u y : ℕ) → tentative u y ⊎ ((k : ℕ) × Hop g k v u × (y ≡ x + delay g k)) → Attained g s u y
    found_after u y (inl t) = knows.found u y t
    found_after u y (inr l) = rw l.2 (attained_link (next_least next).attained l.1)

    relaxed_after : (w d k u : ℕ) → Hop g k w u → final w d ⊎ ((w ≡ v) × (d ≡ x)) → Done final' u ⊎ Near tentative' u (d + delay g k)
    relaxed_after w d k u h (inr e) = rw e.1 (visit.looked k u (rw e.0 at h))
    relaxed_after w d k u h (inl f) = go (knows.relaxed w d k u f h)
      where
        lower : (y : ℕ) → y ≤ d + delay g k → Done final' u ⊎ Near tentative' u y → Done final' u ⊎ Near tentative' u (d + delay g k)
        lower y l (inl e) = inl e
        lower y l (inr t) = inr (t.0, t.1, omega (arith, t.2))

        go : Done final u ⊎ Near tentative u (d + delay g k) → Done final' u ⊎ Near tentative' u (d + delay g k)
        go (inl e) = inl (e.0, visit.still u e.0 e.1)
        go (inr t) = lower t.0 t.2 (visit.kept u t.0 t.1)

    start_after : Done final s ⊎ tentative s 0 → Done final' s ⊎ tentative' s 0
    start_after (inl f) = inl (f.0, visit.still s f.0 f.1)
    start_after (inr t) = elim (visit.kept s 0 t) [ inl f ↦ inl f | inr z ↦ inr (at_zero z.0 z.1 z.2) ]
      where
        at_zero : (z : ℕ) → tentative' s z → z ≤ 0 → tentative' s 0
        at_zero z t l = let e : z ≡ 0 = omega arith in rw e at t

    pub visit_keeps : Known g s final' tentative'
    visit_keeps =
        record {
          exact = λ w d f. elim (visit.only w d f) [ inl h ↦ knows.exact w d h | inr e ↦ rw (e.0, e.1) (next_least next) ];
          found = λ u y t. found_after u y (visit.made u y t);
          relaxed = λ w d k u f h. relaxed_after w d k u h (visit.only w d f);
          start = start_after knows.start;
        }

-- where a walk begins: nothing is visited, and only the source is known, at 0
pub begin :
    (g : Network) (s : ℕ) {final tentative : ℕ → ℕ → Type 0} → ((w : ℕ) → ¬ Done final w) → tentative s 0 → ((u y : ℕ) → tentative u y → (u ≡ s) × (y ≡ 0))
    → Known g s final tentative
begin g s n t o =
    record {
      exact = λ w d f. absurd (n w (d, f));
      found = λ u y k. rw ((o u y k).0, (o u y k).1) (attained_self g s);
      relaxed = λ w d k u f. absurd (n w (d, f));
      start = inr t;
    }
