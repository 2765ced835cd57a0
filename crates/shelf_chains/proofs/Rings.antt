-- What linking and unlinking an item does to the rings.
use Rattle.std.proofs.Common.{◌≡◌, ℕ, zero, suc, ◌+◌, ◌<◌, ◌≤◌, cond, eqb, ◌≢◌, Some, None, Option, sym, refl, ap, ◌∙◌, subst, inl, inr, arith, eq-eqb, ne_eqb}
use Rattle.std.proofs.lemmas.Bool.{cases_lt, cases_eq}
use Rattle.std.proofs.lemmas.Option.{none-some}
use Rattle.shelf_chains.specs.Rings.{Steps, Ranked}

-- g is f but for x at i
pub record Set {A : Type 0} (f : ℕ → A) (i : ℕ) (x : A) (g : ℕ → A) : Type 0 where
  pub at : g i ≡ x
  pub off : (k : ℕ) → k ≢ i → g k ≡ f k

-- g is f but for x at i and y at j
pub record Two {A : Type 0} (f : ℕ → A) (i : ℕ) (x : A) (j : ℕ) (y : A) (g : ℕ → A) : Type 0 where
  pub one : g i ≡ x
  pub two : g j ≡ y
  pub off : (k : ℕ) → k ≢ i → k ≢ j → g k ≡ f k

-- nothing is Some and None at once
never : {X : Type 0} (o : Option ℕ) (b : ℕ) → o ≡ Some b → o ≡ None → X
never o b p q = absurd (none-some b (sym q ∙ p))

module _ {seat seat' : ℕ → Option ℕ} where
  -- the item i leaves its ring, in which it stood between p and q
  pub steps_unlink : {step back step' back' : ℕ → ℕ} (i p q b : ℕ) → Steps seat step back → Steps seat back step
      → seat i ≡ Some b → back i ≡ p → step i ≡ q → q ≢ i
      → Set seat i None seat' → Set step p q step' → Set back q p back' → Steps seat' step' back'
  steps_unlink {step = step} {back = back} {step' = step'} {back' = back'} i p q b ahead behind here pre post qi s t u k c e =
      elim (cases_eq k i) [
        | inl ki ↦ never (seat' i) c (sym (ap seat' ki) ∙ e) s.at
        | inr ki ↦ (
            let was : seat k ≡ Some c = sym (s.off k ki) ∙ e in
            let from = ahead k c was in
            let into = ahead i b here in
            elim (cases_eq k p) [
              | inl kp ↦ (
                  let pb : seat p ≡ Some b = subst (λ (x : ℕ). seat x ≡ Some b) pre (behind i b here).0 in
                  let same : b ≡ c = cc (ap seat kp) in
                  let sq : seat q ≡ Some b = subst (λ (x : ℕ). seat x ≡ Some b) post into.0 in
                  let go : step' k ≡ q = ap step' kp ∙ t.at in
                  (ap seat' go ∙ s.off q qi ∙ sq ∙ ap Some same, ap back' go ∙ u.at ∙ sym kp))
              | inr kp ↦ (
                  let go : step' k ≡ step k = t.off k kp in
                  let ni : step k ≢ i = λ w. kp (sym from.1 ∙ ap back w ∙ pre) in
                  let nq : step k ≢ q = λ w. ki (sym from.1 ∙ ap back (w ∙ sym post) ∙ into.1) in
                  (ap seat' go ∙ s.off (step k) ni ∙ from.0, ap back' go ∙ u.off (step k) nq ∙ from.1))
            ])
      ]

  -- the item i, which was nowhere, comes between p and q
  pub steps_link : {step back step' back' : ℕ → ℕ} (i p q b : ℕ) → Steps seat step back
      → seat i ≡ None → seat p ≡ Some b → seat q ≡ Some b → step p ≡ q → back q ≡ p
      → Set seat i (Some b) seat' → Two step i q p i step' → Two back i p q i back' → Steps seat' step' back'
  steps_link {step = step} {back = back} {step' = step'} {back' = back'} i p q b ahead none pb qb pq qp s t u k c e =
      elim (cases_eq k i) [
        | inl ki ↦ (
            let same : b ≡ c = cc (ap seat' ki, s.at) in
            let go : step' k ≡ q = ap step' ki ∙ t.one in
            let qi : q ≢ i = λ w. never (seat i) b (sym (ap seat w) ∙ qb) none in
            (ap seat' go ∙ s.off q qi ∙ qb ∙ ap Some same, ap back' go ∙ u.two ∙ sym ki))
        | inr ki ↦ (
            let was : seat k ≡ Some c = sym (s.off k ki) ∙ e in
            let from = ahead k c was in
            elim (cases_eq k p) [
              | inl kp ↦ (
                  let same : b ≡ c = cc (ap seat kp) in
                  let go : step' k ≡ i = ap step' kp ∙ t.two in
                  (ap seat' go ∙ s.at ∙ ap Some same, ap back' go ∙ u.one ∙ sym kp))
              | inr kp ↦ (
                  let go : step' k ≡ step k = t.off k ki kp in
                  let ni : step k ≢ i = λ w. never (seat i) c (sym (ap seat w) ∙ from.0) none in
                  let nq : step k ≢ q = λ w. kp (sym from.1 ∙ ap back w ∙ qp) in
                  (ap seat' go ∙ s.off (step k) ni ∙ from.0, ap back' go ∙ u.off (step k) ni nq ∙ from.1))
            ])
      ]

-- no item is next to itself
pub not_itself : {n : ℕ} {seat : ℕ → Option ℕ} {step : ℕ → ℕ} → Ranked n seat step → (i b : ℕ) → seat i ≡ Some b → i < n → step i ≡ i → ⊥
not_itself r i b here lt e = let f = r.falls i b here lt (omega arith) in let w = ap r.rank e in omega arith

pub ranked_unlink : {n : ℕ} {seat seat' : ℕ → Option ℕ} {step step' : ℕ → ℕ} (back : ℕ → ℕ) (i p q b : ℕ) → Steps seat back step
    → seat i ≡ Some b → i < n → back i ≡ p → step i ≡ q
    → Set seat i None seat' → Set step p q step' → Ranked n seat step → Ranked n seat' step'
ranked_unlink {seat = seat} {seat' = seat'} {step = step} {step' = step'} back i p q b behind here lt pre post s t r = record {
  rank = r.rank;
  falls = λ k c e low next. elim (cases_eq k i) [
    | inl ki ↦ never (seat' i) c (sym (ap seat' ki) ∙ e) s.at
    | inr ki ↦ (
        let was : seat k ≡ Some c = sym (s.off k ki) ∙ e in
        elim (cases_eq k p) [
          | inl kp ↦ (
              let go : step' k ≡ q = ap step' kp ∙ t.at in
              let to_i : step k ≡ i = ap step (kp ∙ sym pre) ∙ (behind i b here).1 in
              let one = r.falls k c was low (omega arith) in
              let two = r.falls i b here lt (omega arith) in
              let x = ap r.rank to_i in let y = ap r.rank post in let z = ap r.rank go in omega arith)
          | inr kp ↦ (
              let go : step' k ≡ step k = t.off k kp in
              let one = r.falls k c was low (omega arith) in
              let z = ap r.rank go in omega arith)
        ])
  ];
}

-- the ranks where the item i gets the rank x
raised : (ℕ → ℕ) → ℕ → ℕ → ℕ → ℕ
raised rank i x k = cond (eqb k i) x (rank k)

raised_at : (rank : ℕ → ℕ) (i x : ℕ) → raised rank i x i ≡ x
unfolding raised
raised_at rank i x = rw (eq-eqb i i refl)

raised_off : (rank : ℕ → ℕ) (i x k : ℕ) → k ≢ i → raised rank i x k ≡ rank k
unfolding raised
raised_off rank i x k ki = rw (ne_eqb k i ki)

pub ranked_link : {n : ℕ} {seat seat' : ℕ → Option ℕ} {step step' : ℕ → ℕ} (back : ℕ → ℕ) (i p q b : ℕ) → Steps seat step back
    → seat i ≡ None → seat q ≡ Some b → n ≤ p
    → Set seat i (Some b) seat' → Two step i q p i step' → Ranked n seat step → Ranked n seat' step'
ranked_link {seat = seat} {seat' = seat'} {step = step} {step' = step'} back i p q b ahead none qb above s t r =
    let new : ℕ → ℕ = raised r.rank i (r.rank q + 1) in
    let old = raised_off r.rank i (r.rank q + 1) in
    record {
      rank = new;
      falls = λ k c e low next. elim (cases_eq k i) [
        | inl ki ↦ (
            let go : step' k ≡ q = ap step' ki ∙ t.one in
            let qi : q ≢ i = λ w. never (seat i) b (sym (ap seat w) ∙ qb) none in
            let x = ap new go in let y = old q qi in let z = ap new ki in let w = raised_at r.rank i (r.rank q + 1) in omega arith)
        | inr ki ↦ (
            let was : seat k ≡ Some c = sym (s.off k ki) ∙ e in
            let kp : k ≢ p = λ w. omega arith in
            let go : step' k ≡ step k = t.off k ki kp in
            let ni : step k ≢ i = λ w. never (seat i) c (sym (ap seat w) ∙ (ahead k c was).0) none in
            let one = r.falls k c was low (omega arith) in
            let x = ap new go in let y = old (step k) ni in let z = old k ki in omega arith)
      ];
    }

-- a bucket whose node is alone in its ring has no item
pub bare : {n : ℕ} {seat : ℕ → Option ℕ} {step : ℕ → ℕ} (back : ℕ → ℕ) (s b : ℕ) → Steps seat step back → ((k : ℕ) → n ≤ k → seat k ≡ Some b → k ≡ s) → n ≤ s → seat s ≡ Some b → step s ≡ s
    → (r : Ranked n seat step) → (fuel k : ℕ) → r.rank k < fuel → k < n → seat k ≡ Some b → ⊥
bare back s b ahead only above here alone r zero k f lt e = omega arith
bare {n = n} {step = step} back s b ahead only above here alone r (suc fuel) k f lt e = elim (cases_lt (step k) n) [
  | inl low ↦ (
      let down = r.falls k b e lt low in
      bare back s b ahead only above here alone r fuel (step k) (omega arith) low (ahead k b e).0)
  | inr high ↦ (
      let end : step k ≡ s = only (step k) high (ahead k b e).0 in
      let back_k : k ≡ s = sym (ahead k b e).1 ∙ ap back (end ∙ sym alone) ∙ (ahead s b here).1 in
      omega arith)
]
