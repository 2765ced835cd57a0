-- What one put and one take do while items pass through a bucket.
use Rattle.std.proofs.Common.{◌≡◌, ℕ, ◌+◌, ◌<◌, ◌≤◌, List, length, get_or, take, set, Some, None, Option, sym, refl, ap, ◌∙◌, inl, inr, arith}
use Rattle.std.proofs.lemmas.List.{take_all, take_more, take_more_set}
use Rattle.shelf.specs.Holds.{Holds, bucket_at, cleared, placed, lifted, MayPut, Bare}
use Rattle.shelf.proofs.Seats.{none_blank, read_set, listed}
use Rattle.suffices.specs.Passed.{times, counts, count_in, MayPass}
use Rattle.suffices.proofs.Counting.{is_it, it, times_push, times_take, counts_one, counts_zero, counts_in, counts_out, count_set, count_bare, bare_count}

pub nowhere : (h m : Holds) → m ≡ cleared h → (x : ℕ) → bucket_at m x ≡ None
nowhere h m e x = ap (λ (k : Holds). bucket_at k x) e ∙ none_blank h.items x

pub none_in : (h m : Holds) → m ≡ cleared h → (b : ℕ) → count_in b m.at ≡ 0
none_in h m e b = count_bare b m.at (λ x s. let n = nowhere h m e x in let z : ◌≡◌ {A = ℕ} 0 1 = cc in omega arith)

not_some : (o : Option ℕ) → ((c : ℕ) → o ≡ Some c → ⊥) → o ≡ None
not_some None h = refl
not_some (Some c) h = absurd (h c refl)

-- while k of the items are in the bucket b, and no others anywhere
pub record Passing (h m : Holds) (b k : ℕ) (l : List ℕ) : Type 0 where
  pub items : m.items ≡ h.items
  pub buckets : m.buckets ≡ h.buckets
  pub puts : m.puts ≡ k
  pub many : count_in b m.at ≡ k
  pub each : (x : ℕ) → counts b (bucket_at m x) ≡ times x (take k l)
  pub only : (x c : ℕ) → bucket_at m x ≡ Some c → c ≡ b

pub begin : (h m : Holds) (b : ℕ) (l : List ℕ) → m ≡ cleared h → Passing m m b 0 l
begin h m b l e = record {
  items = refl;
  buckets = refl;
  puts = ap (λ (k : Holds). k.puts) e;
  many = none_in h m e b;
  each = λ x. ap (counts b) (nowhere h m e x);
  only = λ x c s. (let n = nowhere h m e x in let z : ◌≡◌ {A = ℕ} 0 1 = cc in omega arith);
}

-- a shelf that is cleared takes what it took before
pub pass_cleared : (h m : Holds) (b : ℕ) (l : List ℕ) → m ≡ cleared h → MayPass h b l → MayPass m b l
pass_cleared h m b l e may = record {
  bucket = (let w = ap (λ (k : Holds). k.buckets) e in omega (arith, may.bucket));
  exist = λ k lt. (let w = ap (λ (x : Holds). x.items) e in let o = may.exist k lt in omega arith);
  once = may.once;
  few = may.few;
}

-- how often x occurs in one more
times_more : (x k : ℕ) (l : List ℕ) → k < length l → times x (take (k + 1) l) ≡ times x (take k l) + is_it (get_or l k 0) x
times_more x k l lt = ap (times x) (take_more l k 0 lt) ∙ times_push x (get_or l k 0) (take k l)

pub may_put : (h m : Holds) (b k y : ℕ) (l : List ℕ) → Passing h m b k l → k < length l → y ≡ get_or l k 0 → MayPass h b l → MayPut m y b
may_put h m b k y l p lt is may =
    let exist = may.exist k lt in
    let low : y < m.items = omega (arith, p.items) in
    let bucket : b < m.buckets = omega (arith, p.buckets, may.bucket) in
    let room : m.puts < 65535 = omega (arith, p.puts, may.few) in
    let none : bucket_at m y ≡ None = not_some (bucket_at m y) (λ c s.
    let here : bucket_at m y ≡ Some b = s ∙ ap Some (p.only y c s) in
    let one = counts_one b (bucket_at m y) here in
    let was = p.each y in
    let more = times_more y k l lt in
    let self = ap (λ (z : ℕ). is_it z y) (sym is) ∙ it y in
    let most = times_take y (k + 1) l in
    let once = may.once y in
    omega arith) in
    (low, bucket, none, room)

pub one_put : (h m m' : Holds) (b k y : ℕ) (l : List ℕ) → length m.at ≡ m.items → Passing h m b k l → k < length l → y ≡ get_or l k 0
    → MayPut m y b → m' ≡ placed m y b → Passing h m' b (k + 1) l
one_put h m m' b k y l sized p lt is may e =
    let low : y < length m.at = omega (arith, may.0) in
    let out : counts b (bucket_at m y) ≡ 0 = ap (counts b) may.2 in
    record {
      items = ap (λ (x : Holds). x.items) e ∙ p.items;
      buckets = ap (λ (x : Holds). x.buckets) e ∙ p.buckets;
      puts = (let w = ap (λ (x : Holds). x.puts) e in omega (arith, p.puts));
      many = (let w = ap (λ (x : Holds). count_in b x.at) e in let s = count_set b m.at y (Some b) low in let o = it b in omega (arith, p.many));
      each = λ x. (
          let w = ap (λ (z : Holds). counts b (bucket_at z x)) e in
          let s = counts_in b m.at y x low out in
          let was = p.each x in
          let more = times_more x k l lt in
          let same = ap (λ (z : ℕ). is_it z x) is in
          omega arith);
      only = λ x c s. elim (read_set m.at y x (Some b) None (Some c) (sym (ap (λ (z : Holds). bucket_at z x) e) ∙ s)) [
        | inl w ↦ (let z : b ≡ c = cc in sym z)
        | inr w ↦ p.only x c w
      ];
    }

-- while k of the items were taken out of the bucket b and written into the list
pub record Taking (h m : Holds) (b k n : ℕ) (l : List ℕ) : Type 0 where
  pub items : m.items ≡ h.items
  pub buckets : m.buckets ≡ h.buckets
  pub many : count_in b m.at + k ≡ n
  pub each : (x : ℕ) → times x (take k l) + counts b (bucket_at m x) ≡ counts b (bucket_at h x)

pub one_take : (h m m' : Holds) (b k n i : ℕ) (l : List ℕ) → Taking h m b k n l → k < length l → bucket_at m i ≡ Some b → m' ≡ lifted m i → Taking h m' b (k + 1) n (set l k i)
one_take h m m' b k n i l t lt here e =
    let low = listed m.at i b here in
    let one = counts_one b (bucket_at m i) here in
    record {
      items = ap (λ (x : Holds). x.items) e ∙ t.items;
      buckets = ap (λ (x : Holds). x.buckets) e ∙ t.buckets;
      many = (let w = ap (λ (x : Holds). count_in b x.at) e in let s = count_set b m.at i None low in omega (arith, t.many));
      each = λ x. (
          let w = ap (λ (z : Holds). counts b (bucket_at z x)) e in
          let s = counts_out b m.at i x low here in
          let was = t.each x in
          let more = ap (times x) (take_more_set l k i lt) ∙ times_push x i (take k l) in
          omega arith);
    }

-- a bucket from which not all were taken is not bare
pub not_bare : (h m : Holds) (b k n : ℕ) (l : List ℕ) → Taking h m b k n l → k < n → Bare m b → ⊥
not_bare h m b k n l t lt bare = let z = count_bare b m.at bare in omega (arith, t.many)

-- once all were taken, the bucket is bare, and what was taken is what stood in it
pub all_taken : (h m : Holds) (b k n : ℕ) (l : List ℕ) → Taking h m b k n l → n ≤ k → Bare m b
all_taken h m b k n l t le = bare_count b m.at (omega (arith, t.many))

pub all_back : (h m : Holds) (b k n : ℕ) (l : List ℕ) → Taking h m b k n l → n ≤ k → length l ≡ n → (x : ℕ) → times x l ≡ counts b (bucket_at h x)
all_back h m b k n l t le long x =
    let none = counts_zero b (bucket_at m x) (all_taken h m b k n l t le x) in
    let all = ap (times x) (take_all k l (omega arith)) in
    let e = t.each x in
    omega arith
