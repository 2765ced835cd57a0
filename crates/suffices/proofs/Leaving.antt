-- The least of the delays that a keeper was given, once one place was retired.
use Rattle.std.proofs.Common.{◌≡◌, ℕ, ◌+◌, ◌<◌, ◌≤◌, ◌≢◌, Bool, true, false, List, length, get_or, set, Some, None, Option, refl, sym, ap, ◌∙◌, inl, inr, arith, get_or-set_other, get_or-set_same, MatchOption}
use Rattle.std.proofs.lemmas.Bool.{cases_eq, cases_lt}
use Rattle.std.proofs.lemmas.Option.{MatchOption-from_none}
use Rattle.keeper.specs.Keeps.{Keeps, delay_at, all_none, noted, MayLower, NoDelay, LeastFrom}
use Rattle.keeper.proofs.Leasts.{none_blank}
use Rattle.shelf.proofs.Seats.{none_at}
use Rattle.suffices.specs.Others.{LeastBut}

-- while the first n places were given their delays
pub record Filling (h k : Keeps) (delays : List ℕ) (n : ℕ) : Type 0 where
  pub kept : k.places ≡ h.places
  pub given : (p : ℕ) → p < n → delay_at k p ≡ Some (get_or delays p 0)
  pub rest : (p : ℕ) → n ≤ p → delay_at k p ≡ None

pub begin_filling : (h k : Keeps) (delays : List ℕ) (n : ℕ) → n ≡ 0 → k ≡ all_none h.places → Filling h k delays n
begin_filling h k delays n z e = record {
  kept = ap (λ (x : Keeps). x.places) e;
  given = λ p lt. (let z : ⊥ = omega arith in absurd z);
  rest = λ p _. ap (λ (x : Keeps). delay_at x p) e ∙ none_blank h.places p;
}

-- one more place is given its delay: it has none yet, so that is not refused
pub fill_more : (h k k' : Keeps) (delays : List ℕ) (n at d : ℕ) (done : Bool) → length k.delays ≡ k.places → at ≡ n → n < k.places → d ≡ get_or delays n 0 → Filling h k delays n
    → (done ≡ true → MayLower k at d × (k' ≡ noted k at (Some d))) → (done ≡ false → (MayLower k at d → ⊥) × (k' ≡ k)) → Filling h k' delays (n + 1)
fill_more h k k' delays n at d false sized here low is f granted refused =
    let none : delay_at k at ≡ None = f.rest at (omega arith) in
    let below : at < k.places = omega arith in
    absurd ((refused refl).0 (below, MatchOption-from_none (delay_at k at) (λ y. d < y) none))
fill_more h k k' delays n at d true sized here low is f granted refused =
    let e = (granted refl).1 in
    let listed : at < length k.delays = omega arith in
    record {
      kept = ap (λ (x : Keeps). x.places) e ∙ f.kept;
      given = λ p lt. ap (λ (x : Keeps). delay_at x p) e ∙ elim (cases_eq p at) [
        | inl w ↦ ap (λ (i : ℕ). get_or (set k.delays at (Some d)) i None) w ∙ get_or-set_same k.delays at (Some d) None listed
            ∙ ap Some (is ∙ ap (λ (i : ℕ). get_or delays i 0) (sym here ∙ sym w))
        | inr w ↦ get_or-set_other k.delays at p (Some d) None w ∙ f.given p (omega arith)
      ];
      rest = λ p le. (let w : p ≢ at = λ q. omega arith in ap (λ (x : Keeps). delay_at x p) e ∙ get_or-set_other k.delays at p (Some d) None w ∙ f.rest p (omega arith));
    }

module _ (k k' : Keeps) (delays : List ℕ) (n out : ℕ) (few : n ≤ 4294967295) (e : k' ≡ noted k out None)
    (given : (p : ℕ) → p < n → delay_at k p ≡ Some (get_or delays p 0)) (rest : (p : ℕ) → n ≤ p → delay_at k p ≡ None) where
  gone : delay_at k' out ≡ None
  gone = ap (λ (x : Keeps). delay_at x out) e ∙ none_at k.delays out

  other : (p : ℕ) → p ≢ out → delay_at k' p ≡ delay_at k p
  other p ne = ap (λ (x : Keeps). delay_at x p) e ∙ get_or-set_other k.delays out p None None ne

  pub least_but : (r : Option ℕ) → MatchOption r (NoDelay k' 0 4294967295) (λ d. LeastFrom k' 0 4294967295 d)
      → MatchOption r ((p : ℕ) → p < n → p ≡ out) (λ d. LeastBut delays n out d)
  least_but None h = λ p lt. elim (cases_eq p out) [
    | inl w ↦ w
    | inr w ↦ (
        let none = h p (omega arith) (omega arith) in
        let some = other p w ∙ given p lt in
        let z : ◌≡◌ {A = ℕ} 0 1 = cc in let a : ⊥ = omega arith in absurd a)
  ]
  least_but (Some d) h =
      let apart : h.place ≢ out = λ w. (
      let here = sym (ap (delay_at k') w) ∙ h.there in let none = gone in
      let z : ◌≡◌ {A = ℕ} 0 1 = cc in omega arith) in
      let was : delay_at k h.place ≡ Some d = sym (other h.place apart) ∙ h.there in
      let low : h.place < n = elim (cases_lt h.place n) [
        | inl l ↦ l
        | inr l ↦ (let none = rest h.place l in let z : ◌≡◌ {A = ℕ} 0 1 = cc in let a : ⊥ = omega arith in absurd a)
      ] in
      let is = given h.place low in
      let there : get_or delays h.place 0 ≡ d = cc in
      record {
        place = h.place;
        below = low;
        other = apart;
        there = there;
        least = λ p lt ne. h.least p (get_or delays p 0) (omega arith) (omega arith) (other p ne ∙ given p lt);
      }
