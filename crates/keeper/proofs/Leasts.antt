-- The laws of the lesser of two delays, and what the least of a row of them is.
use Rattle.std.proofs.Common.{◌≡◌, ℕ, zero, suc, ◌+◌, ◌-◌, ◌<◌, ◌≤◌, min, ◌⊎◌, List, [], ◌∷◌, length, get_or, take, drop, replicate, Some, None, Option, sym, refl, ap, ◌∙◌, subst, inl, inr, arith, MatchOption}
use lib.ListN.{length-replicate, get_or-replicate}
use Rattle.std.proofs.lemmas.Bool.{cases_lt}
use Rattle.std.proofs.lemmas.List.{get_or_past, drop_more}
use Rattle.std.specs.List.{reduce, fold, filter_map, cons_option}
use Rattle.keeper.specs.Keeps.{Keeps, delay_at, NoDelay, LeastFrom}
use Rattle.keeper.specs.Lesser.{lesser_of, least_in}

pub lesser_none : (a : Option ℕ) → lesser_of a None ≡ a
lesser_none None = refl
lesser_none (Some x) = refl

pub lesser_assoc : (a b c : Option ℕ) → lesser_of (lesser_of a b) c ≡ lesser_of a (lesser_of b c)
lesser_assoc None b c = refl
lesser_assoc (Some x) None c = refl
lesser_assoc (Some x) (Some y) None = refl
lesser_assoc (Some x) (Some y) (Some z) = let e : min (min x y) z ≡ min x (min y z) = omega arith in ap Some e

pub lesser_comm : (a b : Option ℕ) → lesser_of a b ≡ lesser_of b a
lesser_comm None b = sym (lesser_none b)
lesser_comm (Some x) None = refl
lesser_comm (Some x) (Some y) = let e : min x y ≡ min y x = omega arith in ap Some e

-- d is found at one of `many` places from `from` on, and is least there
pub record Found (f : ℕ → Option ℕ) (from many d : ℕ) : Type 0 where
  pub spot : ℕ
  pub above : from ≤ spot
  pub below : spot < from + many
  pub there : f spot ≡ Some d
  pub least : (p y : ℕ) → from ≤ p → p < from + many → f p ≡ Some y → d ≤ y

abbrev pub Tells : (ℕ → Option ℕ) → ℕ → ℕ → Option ℕ → Type 0
Tells f from many r = MatchOption r ((p : ℕ) → from ≤ p → p < from + many → f p ≡ None) (λ d. Found f from many d)

first_or_later : (p from many : ℕ) → from ≤ p → p < from + suc many → (p ≡ from) ⊎ ((from + 1 ≤ p) × (p < from + 1 + many))
first_or_later p from many l b = grind arith

one_more : (f : ℕ → Option ℕ) (from many : ℕ) (a r : Option ℕ) → f from ≡ a → Tells f (from + 1) many r → Tells f from (suc many) (lesser_of a r)
one_more f from many None None e t = λ p l b. elim (first_or_later p from many l b) [ inl q ↦ ap f q ∙ e | inr q ↦ t p q.0 q.1 ]
one_more f from many None (Some d) e t = record {
  spot = t.spot;
  above = omega (arith, t.above);
  below = omega (arith, t.below);
  there = t.there;
  least = λ p y l b s. elim (first_or_later p from many l b) [
    | inl q ↦ let w = ap f q in let z : ◌≡◌ {A = ℕ} 0 1 = cc in omega arith
    | inr q ↦ t.least p y q.0 q.1 s
  ];
}
one_more f from many (Some x) None e t = record {
  spot = from;
  above = omega arith;
  below = omega arith;
  there = e;
  least = λ p y l b s. elim (first_or_later p from many l b) [
    | inl q ↦ let w : x ≡ y = cc (ap f q) in omega arith
    | inr q ↦ let w = t p q.0 q.1 in let z : ◌≡◌ {A = ℕ} 0 1 = cc in omega arith
  ];
}
one_more f from many (Some x) (Some d) e t = elim (cases_lt x d) [
  | inl lt ↦ (let m : min x d ≡ x = omega arith in record {
    spot = from;
    above = omega arith;
    below = omega arith;
    there = e ∙ ap Some (sym m);
    least = λ p y l b s. elim (first_or_later p from many l b) [
      | inl q ↦ let w : x ≡ y = cc (ap f q) in omega arith
      | inr q ↦ let w = t.least p y q.0 q.1 s in omega arith
    ];
  })
  | inr ge ↦ (let m : min x d ≡ d = omega arith in record {
    spot = t.spot;
    above = omega (arith, t.above);
    below = omega (arith, t.below);
    there = t.there ∙ ap Some (sym m);
    least = λ p y l b s. elim (first_or_later p from many l b) [
      | inl q ↦ let w : x ≡ y = cc (ap f q) in omega arith
      | inr q ↦ let w = t.least p y q.0 q.1 s in omega arith
    ];
  })
]

pub least_tells : (f : ℕ → Option ℕ) (from many : ℕ) → Tells f from many (least_in f from many)
least_tells f from zero = λ p l b. let z : ⊥ = omega arith in absurd z
least_tells f from (suc many) = one_more f from many (f from) (least_in f (from + 1) many) refl (least_tells f (from + 1) many)

-- how many of the places from first to last exist
abbrev pub span : ℕ → ℕ → ℕ → ℕ
span places first last = min places (last + 1) - first

-- the least over those places that exist is the least from first to last
pub least_answers : (k : Keeps) → length k.delays ≡ k.places → (first last : ℕ) (r : Option ℕ) → r ≡ least_in (delay_at k) first (span k.places first last)
    → MatchOption r (NoDelay k first last) (λ d. LeastFrom k first last d)
least_answers k sized first last r is = go r (subst (Tells (delay_at k) first (span k.places first last)) (sym is) (least_tells (delay_at k) first (span k.places first last))) where
  go : (r : Option ℕ) → Tells (delay_at k) first (span k.places first last) r → MatchOption r (NoDelay k first last) (λ d. LeastFrom k first last d)
  go None t = λ p l b. elim (cases_lt p k.places) [
    | inl lt ↦ t p l (omega arith)
    | inr ge ↦ get_or_past k.delays p None (omega arith)
  ]
  go (Some d) t = record {
    place = t.spot;
    above = t.above;
    below = omega (arith, t.below, t.above);
    there = t.there;
    least = λ p y l b s. elim (cases_lt p k.places) [
      | inl lt ↦ t.least p y l (omega arith) s
      | inr ge ↦ let n = get_or_past k.delays p None (omega arith) in let z : ◌≡◌ {A = ℕ} 0 1 = cc in omega arith
    ];
  }

-- a row of no places adds nothing to the best so far
pub all_taken : (f : ℕ → Option ℕ) (best : Option ℕ) (low high : ℕ) → high ≤ low → lesser_of best (least_in f low (high - low)) ≡ best
all_taken f best low high le = let e : high - low ≡ 0 = omega arith in ap (λ (n : ℕ). lesser_of best (least_in f low n)) e ∙ lesser_none best

-- a blank list has no delay
pub none_blank : (n i : ℕ) → get_or (replicate {A = Option ℕ} n None) i None ≡ None
none_blank n i = elim (cases_lt i n) [
  | inl l ↦ get_or-replicate n i None None l
  | inr l ↦ (let p : length (replicate {A = Option ℕ} n None) ≤ i = simp length-replicate (omega arith) in get_or_past (replicate n None) i None p)
]

-- the least of a list of delays, once one more stands before it
least_more : (o : Option ℕ) (l : List ℕ) → reduce min (cons_option o l) ≡ lesser_of o (reduce min l)
least_more None l = refl
least_more (Some x) [] = refl
least_more (Some x) (y ∷ l) = ap Some (fold_min x y l) where
  fold_min : (x y : ℕ) (l : List ℕ) → fold min (min x y) l ≡ min x (fold min y l)
  fold_min x y [] = refl
  fold_min x y (z ∷ l) = let e : min (min x y) z ≡ min x (min y z) = omega arith in ap (λ (k : ℕ). fold min k l) e ∙ fold_min x (min y z) l

-- the delays that stand in a list
abbrev pub listed : List (Option ℕ) → List ℕ
listed l = filter_map (λ o. o) l

-- the least of the delays that stand at `many` places of a list from `from` on
pub least_listed : (l : List (Option ℕ)) (from many : ℕ) → many ≤ length l - from → reduce min (listed (take many (drop from l))) ≡ least_in (λ p. get_or l p None) from many
least_listed l from zero le = refl
least_listed l from (suc many) le =
    ap (λ (k : List (Option ℕ)). reduce min (listed (take (suc many) k))) (drop_more l from None (omega arith))
    ∙ least_more (get_or l from None) (listed (take many (drop (from + 1) l)))
    ∙ ap (lesser_of (get_or l from None)) (least_listed l (from + 1) many (omega arith))

-- rows of as many places are one row if they begin at one place or are empty
pub same_row : (f : ℕ → Option ℕ) (a b m n : ℕ) → m ≡ n → (0 < n → a ≡ b) → least_in f a m ≡ least_in f b n
same_row f a b m zero e h = ap (least_in f a) e
same_row f a b m (suc n) e h = ap (least_in f a) e ∙ ap (λ (k : ℕ). least_in f k (suc n)) (h (omega arith))
