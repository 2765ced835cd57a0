-- The rings as they stand in lists: a list of next nodes and one of previous ones, beside what a shelf holds.
use Rattle.std.proofs.Common.{◌≡◌, ℕ, ◌+◌, ◌-◌, ◌<◌, ◌≤◌, cond, ltb, ◌≢◌, List, length, get_or, set, Some, None, Option, sym, refl, ap, ◌∙◌, inl, inr, arith, length-set, get_or-set_other, get_or-set_same, le-ltb, lt-ltb}
use Rattle.std.proofs.lemmas.Bool.{cases_lt}
use Rattle.std.proofs.lemmas.Option.{none-some}
use Rattle.shelf.specs.Holds.{Holds, bucket_at, lifted, placed, Bare}
use Rattle.shelf_chains.specs.Rings.{seat_of, Steps, Ringed, to}
use Rattle.shelf_chains.proofs.Rings.{Set, Two, steps_unlink, steps_link, not_itself, ranked_unlink, ranked_link, bare}
use Rattle.shelf.proofs.Seats.{listed}

set_to : (l : List ℕ) (i x : ℕ) → i < length l → Set (to l) i x (to (set l i x))
set_to l i x lt = record { at = get_or-set_same l i x 0 lt; off = λ k ki. get_or-set_other l i k x 0 ki }

two_to : (l : List ℕ) (i x j y : ℕ) → i < length l → j < length l → i ≢ j → Two (to l) i x j y (to (set (set l i x) j y))
two_to l i x j y li lj ij =
    let lj' : j < length (set l i x) = simp length-set lj in
    record {
      one = get_or-set_other (set l i x) j i y 0 ij ∙ get_or-set_same l i x 0 li;
      two = get_or-set_same (set l i x) j y 0 lj';
      off = λ k ki kj. get_or-set_other (set l i x) j k y 0 kj ∙ get_or-set_other l i k x 0 ki;
    }

module _ (h : Holds) where
  pub seat_item : (k : ℕ) → k < h.items → seat_of h k ≡ bucket_at h k
  seat_item k lt = rw (lt-ltb k h.items lt)

  pub seat_bucket : (b : ℕ) → b < h.buckets → seat_of h (h.items + b) ≡ Some b
  seat_bucket b lt =
      let high : h.items ≤ h.items + b = omega arith in
      let low : h.items + b < h.items + h.buckets = omega arith in
      let e : h.items + b - h.items ≡ b = omega arith in
      rw (le-ltb (h.items + b) h.items high, lt-ltb (h.items + b) (h.items + h.buckets) low) (ap Some e)

  -- what a seat from the items on says
  bucket_seat : (k b : ℕ) → h.items ≤ k → cond (ltb k (h.items + h.buckets)) (Some (k - h.items)) None ≡ Some b
      → (k ≡ h.items + b) × (k < h.items + h.buckets)
  bucket_seat k b le e = elim (cases_lt k (h.items + h.buckets)) [
    | inl lt ↦ (let w : k - h.items ≡ b = cc (lt-ltb k (h.items + h.buckets) lt) in (omega arith, lt))
    | inr ge ↦ (let z : ◌≡◌ {A = ℕ} 0 1 = cc (le-ltb k (h.items + h.buckets) ge) in let w : ⊥ = omega arith in absurd w)
  ]

  pub seat_node : (k b : ℕ) → h.items ≤ k → seat_of h k ≡ Some b → (k ≡ h.items + b) × (k < h.items + h.buckets)
  seat_node k b le e = bucket_seat k b le (rw (le-ltb k h.items le) at e)

  pub seat_low : (k b : ℕ) → seat_of h k ≡ Some b → k < h.items + h.buckets
  seat_low k b e = elim (cases_lt k h.items) [ inl lt ↦ omega arith | inr le ↦ (seat_node k b le e).1 ]

  off_item : (i : ℕ) (x : Option ℕ) (k : ℕ) → k ≢ i
      → cond (ltb k h.items) (get_or (set h.at i x) k None) (cond (ltb k (h.items + h.buckets)) (Some (k - h.items)) None) ≡ seat_of h k
  off_item i x k ki = ap (λ (o : Option ℕ). cond (ltb k h.items) o (cond (ltb k (h.items + h.buckets)) (Some (k - h.items)) None)) (get_or-set_other h.at i k x None ki)

module _ (h : Holds) (sized : length h.at ≡ h.items) where
  set_lifted : (i : ℕ) → i < h.items → Set (seat_of h) i None (seat_of (lifted h i))
  set_lifted i lt = record {
    at = seat_item (lifted h i) i lt ∙ get_or-set_same h.at i None None (omega arith);
    off = off_item h i None;
  }

  set_placed : (i b : ℕ) → i < h.items → Set (seat_of h) i (Some b) (seat_of (placed h i b))
  set_placed i b lt = record {
    at = seat_item (placed h i b) i lt ∙ get_or-set_same h.at i (Some b) None (omega arith);
    off = off_item h i (Some b);
  }

pub record Sizes (h : Holds) (next prev : List ℕ) : Type 0 where
  pub sized : length h.at ≡ h.items
  pub nexts : length next ≡ h.items + h.buckets
  pub prevs : length prev ≡ h.items + h.buckets

module _ {h : Holds} {next prev : List ℕ} (sizes : Sizes h next prev) (r : Ringed h next prev) where
  here : (i b : ℕ) → bucket_at h i ≡ Some b → (i < h.items) × (seat_of h i ≡ Some b)
  here i b e =
      let l = listed h.at i b e in
      let lt : i < h.items = omega (arith, sizes.sized) in
      (lt, seat_item h i lt ∙ e)

  -- the nodes before and after an item that stands in a bucket
  pub before_low : (i b : ℕ) → bucket_at h i ≡ Some b → to prev i < h.items + h.buckets
  before_low i b e = seat_low h (to prev i) b (r.behind i b (here i b e).1).0

  pub after_low : (i b : ℕ) → bucket_at h i ≡ Some b → to next i < h.items + h.buckets
  after_low i b e = seat_low h (to next i) b (r.ahead i b (here i b e).1).0

  pub first_low : (b : ℕ) → b < h.buckets → to next (h.items + b) < h.items + h.buckets
  first_low b lt = seat_low h (to next (h.items + b)) b (r.ahead (h.items + b) b (seat_bucket h b lt)).0

  pub ringed_unlink : (i b : ℕ) → bucket_at h i ≡ Some b
      → Ringed (lifted h i) (set next (to prev i) (to next i)) (set prev (to next i) (to prev i))
  ringed_unlink i b e =
      let p = to prev i in
      let q = to next i in
      let lt = (here i b e).0 in
      let seat = (here i b e).1 in
      let qi : q ≢ i = not_itself r.ranked i b seat lt in
      let pi : p ≢ i = λ w. qi (sym (ap (to next) w) ∙ (r.behind i b seat).1) in
      let s = set_lifted h sizes.sized i lt in
      let t = set_to next p q (omega (arith, sizes.nexts, before_low i b e)) in
      let u = set_to prev q p (omega (arith, sizes.prevs, after_low i b e)) in
      record {
        ahead = steps_unlink i p q b r.ahead r.behind seat refl refl qi s t u;
        behind = steps_unlink i q p b r.behind r.ahead seat refl refl pi s u t;
        ranked = ranked_unlink (to prev) i p q b r.behind seat lt refl refl s t r.ranked;
      }

  pub ringed_link : (i b : ℕ) → i < h.items → b < h.buckets → bucket_at h i ≡ None
      → Ringed (placed h i b) (set (set next i (to next (h.items + b))) (h.items + b) i) (set (set prev i (h.items + b)) (to next (h.items + b)) i)
  ringed_link i b lt bm none =
      let p = h.items + b in
      let q = to next p in
      let pb = seat_bucket h b bm in
      let qb = (r.ahead p b pb).0 in
      let out = seat_item h i lt ∙ none in
      let ip : i ≢ p = λ w. omega arith in
      let iq : i ≢ q = λ w. none-some b (sym out ∙ ap (seat_of h) w ∙ qb) in
      let s = set_placed h sizes.sized i b lt in
      let t = two_to next i q p i (omega (arith, sizes.nexts)) (omega (arith, sizes.nexts)) ip in
      let u = two_to prev i p q i (omega (arith, sizes.prevs)) (omega (arith, sizes.prevs, first_low b bm)) iq in
      record {
        ahead = steps_link i p q b r.ahead out pb qb refl (r.ahead p b pb).1 s t u;
        behind = steps_link i q p b r.behind out qb pb (r.ahead p b pb).1 refl s u t;
        ranked = ranked_link (to prev) i p q b r.ahead out qb (omega arith) s t r.ranked;
      }

  -- where the ring of a bucket comes back to no item at once, the bucket has none
  pub ring_bare : (b : ℕ) → b < h.buckets → h.items ≤ to next (h.items + b) → Bare h b
  ring_bare b bm high i e =
      let head = seat_bucket h b bm in
      let alone = (seat_node h (to next (h.items + b)) b high (r.ahead (h.items + b) b head).0).0 in
      bare (to prev) (h.items + b) b r.ahead (λ k le s. (seat_node h k b le s).0) (omega arith) head alone
      r.ranked (r.ranked.rank i + 1) i (omega arith) (here i b e).0 (here i b e).1

  -- the first item of a ring stands in the bucket
  pub ring_first : (b : ℕ) → b < h.buckets → to next (h.items + b) < h.items → bucket_at h (to next (h.items + b)) ≡ Some b
  ring_first b bm low = sym (seat_item h (to next (h.items + b)) low) ∙ (r.ahead (h.items + b) b (seat_bucket h b bm)).0

-- nodes that each are alone, with every item nowhere, stand in rings
pub ringed_alone : {h : Holds} {next prev : List ℕ} → ((i : ℕ) → bucket_at h i ≡ None)
    → ((k : ℕ) → k < h.items + h.buckets → to next k ≡ k) → ((k : ℕ) → k < h.items + h.buckets → to prev k ≡ k) → Ringed h next prev
ringed_alone {h = h} {next = next} {prev = prev} none nexts prevs = record {
  ahead = steps_alone next prev nexts prevs;
  behind = steps_alone prev next prevs nexts;
  ranked = record { rank = λ k. k; falls = λ k b e low high. absurd (none-some b (sym (seat_item h k low ∙ none k) ∙ e)) };
}
  where
    steps_alone : (next prev : List ℕ) → ((k : ℕ) → k < h.items + h.buckets → to next k ≡ k) → ((k : ℕ) → k < h.items + h.buckets → to prev k ≡ k)
        → Steps (seat_of h) (to next) (to prev)
    steps_alone next prev nexts prevs k b e =
        let lt = seat_low h k b e in
        let same = nexts k lt in
        (ap (seat_of h) same ∙ e, ap (to prev) same ∙ prevs k lt)
