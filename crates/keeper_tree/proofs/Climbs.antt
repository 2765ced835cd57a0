-- A tree of stored leasts: how its nodes stay right, and how a row of nodes is as low as the row half as long above it.
use Rattle.std.proofs.Common.{◌≡◌, ℕ, zero, suc, ◌+◌, ◌-◌, ◌*◌, ◌/◌, ◌%◌, ◌<◌, ◌≤◌, min, ◌≢◌, ◌⊎◌, List, length, get_or, drop, set, replicate, Some, None, Option, sym, refl, ap, ◌∙◌, inl, inr, arith, get_or-set_other, get_or-set_same}
use Rattle.std.proofs.lemmas.Bool.{cases_eq, cases_lt}
use Rattle.std.proofs.lemmas.List.{get_or-drop, drop-replicate}
use Rattle.keeper.specs.Lesser.{lesser_of, least_in}
use Rattle.keeper_tree.specs.Trees.{Over, OverBut, under}
use Rattle.keeper.proofs.Leasts.{lesser_none, lesser_assoc, lesser_comm}

-- once the node j is right, only the node above it may be wrong
pub mend_climbs : (n : ℕ) (nodes : List (Option ℕ)) (j : ℕ) (d : Option ℕ) → 1 ≤ j → j < length nodes → d ≡ lesser_of (under nodes (2 * j)) (under nodes (2 * j + 1))
    → OverBut n j (under nodes) → OverBut n (j / 2) (under (set nodes j d))
mend_climbs n nodes j d one jl is rest k r ne =
    let k2 : 2 * k ≢ j = λ w. ne (omega arith) in
    let k3 : 2 * k + 1 ≢ j = λ w. ne (omega arith) in
    let below : lesser_of (under (set nodes j d) (2 * k)) (under (set nodes j d) (2 * k + 1)) ≡ lesser_of (under nodes (2 * k)) (under nodes (2 * k + 1)) =
    ap (λ (x : Option ℕ). lesser_of x (get_or (set nodes j d) (2 * k + 1) None)) (get_or-set_other nodes j (2 * k) d None k2)
    ∙ ap (lesser_of (get_or nodes (2 * k) None)) (get_or-set_other nodes j (2 * k + 1) d None k3) in
    elim (cases_eq k j) [
      | inl e ↦ ap (under (set nodes j d)) e ∙ get_or-set_same nodes j d None jl ∙ is ∙ sym (ap (λ (i : ℕ). lesser_of (under nodes (2 * i)) (under nodes (2 * i + 1))) e) ∙ sym below
      | inr w ↦ get_or-set_other nodes j k d None w ∙ rest k r w ∙ sym below
    ]

-- the last of a row
least_last : (f : ℕ → Option ℕ) (from many : ℕ) → least_in f from (suc many) ≡ lesser_of (least_in f from many) (f (from + many))
least_last f from zero = let e : from ≡ from + 0 = omega arith in lesser_none (f from) ∙ ap f e
least_last f from (suc many) =
    let e : from + 1 + many ≡ from + suc many = omega arith in
    ap (lesser_of (f from)) (least_last f (from + 1) many ∙ ap (λ (k : ℕ). lesser_of (least_in f (from + 1) many) (f k)) e)
    ∙ sym (lesser_assoc (f from) (least_in f (from + 1) many) (f (from + suc many)))

-- a row from low to below high
abbrev pub row : (ℕ → Option ℕ) → ℕ → ℕ → Option ℕ
row f low high = least_in f low (high - low)

row_first : (f : ℕ → Option ℕ) (low high : ℕ) → low < high → row f low high ≡ lesser_of (f low) (row f (low + 1) high)
row_first f low high lt = let e : high - low ≡ suc (high - (low + 1)) = omega arith in ap (least_in f low) e

row_last : (f : ℕ → Option ℕ) (low high : ℕ) → low < high → row f low high ≡ lesser_of (row f low (high - 1)) (f (high - 1))
row_last f low high lt =
    let e : high - low ≡ suc (high - 1 - low) = omega arith in
    let at : low + (high - 1 - low) ≡ high - 1 = omega arith in
    ap (least_in f low) e ∙ least_last f low (high - 1 - low) ∙ ap (λ (k : ℕ). lesser_of (row f low (high - 1)) (f k)) at

lesser_same : (a : Option ℕ) → lesser_of a a ≡ a
lesser_same None = refl
lesser_same (Some x) = let e : min x x ≡ x = omega arith in ap Some e

-- the ends of a row are no less than its least
first_in : (f : ℕ → Option ℕ) (low high : ℕ) → low < high → lesser_of (f low) (row f low high) ≡ row f low high
first_in f low high lt =
    let e = row_first f low high lt in
    ap (lesser_of (f low)) e
    ∙ sym (lesser_assoc (f low) (f low) (row f (low + 1) high))
    ∙ ap (λ (x : Option ℕ). lesser_of x (row f (low + 1) high)) (lesser_same (f low))
    ∙ sym e

last_in : (f : ℕ → Option ℕ) (low high : ℕ) → low < high → lesser_of (f (high - 1)) (row f low high) ≡ row f low high
last_in f low high lt =
    let e = row_last f low high lt in
    lesser_comm (f (high - 1)) (row f low high)
    ∙ ap (λ (x : Option ℕ). lesser_of x (f (high - 1))) e
    ∙ lesser_assoc (row f low (high - 1)) (f (high - 1)) (f (high - 1))
    ∙ ap (lesser_of (row f low (high - 1))) (lesser_same (f (high - 1)))
    ∙ sym e

double : ℕ → ℕ
double zero = zero
double (suc n) = suc (suc (double n))

double_is : (n : ℕ) → double n ≡ 2 * n
unfolding double
double_is zero = refl
double_is (suc n) = let h = double_is n in omega arith

-- a row of pairs is as low as the row of the nodes above them
pairs : (f : ℕ → Option ℕ) (from many : ℕ) → ((k : ℕ) → from ≤ k → k < from + many → f k ≡ lesser_of (f (2 * k)) (f (2 * k + 1)))
    → least_in f (2 * from) (double many) ≡ least_in f from many
unfolding double
pairs f from zero over = refl
pairs f from (suc many) over =
    let e : 2 * from + 1 + 1 ≡ 2 * (from + 1) = omega arith in
    let h = over from (omega arith) (omega arith) in
    ap (λ (x : ℕ). lesser_of (f (2 * from)) (lesser_of (f (2 * from + 1)) (least_in f x (double many)))) e
    ∙ sym (lesser_assoc (f (2 * from)) (f (2 * from + 1)) (least_in f (2 * (from + 1)) (double many)))
    ∙ ap (λ (x : Option ℕ). lesser_of x (least_in f (2 * (from + 1)) (double many))) (sym h)
    ∙ ap (lesser_of (f from)) (pairs f (from + 1) many (λ k l b. over k (omega arith) (omega arith)))

halved : (n : ℕ) (f : ℕ → Option ℕ) → Over n f → (low high : ℕ) → 1 ≤ low → low ≤ high → high ≤ 2 * n → low % 2 ≡ 0 → high % 2 ≡ 0
    → row f low high ≡ row f (low / 2) (high / 2)
halved n f over low high one le top el eh =
    let many = high / 2 - low / 2 in
    let a : low ≡ 2 * (low / 2) = omega arith in
    let b : high - low ≡ double many = (let d = double_is many in omega arith) in
    ap (least_in f low) b
    ∙ ap (λ (x : ℕ). least_in f x (double many)) a
    ∙ pairs f (low / 2) many (λ k l u. over k (omega arith, omega arith))

-- a row is as low as its two ends and the row above it
pub climbed : (n : ℕ) (f : ℕ → Option ℕ) → Over n f → (low high : ℕ) → 1 ≤ low → low < high → high ≤ 2 * n
    → lesser_of (lesser_of (f low) (f (high - 1))) (row f ((low + 1) / 2) (high / 2)) ≡ row f low high
climbed n f over low high one lt top =
    let a = f low in
    let b = f (high - 1) in
    elim (parity low) [
      | inl el ↦ elim (parity high) [
        | inl eh ↦ (
            let up : row f ((low + 1) / 2) (high / 2) ≡ row f low high = (
            let e : (low + 1) / 2 ≡ low / 2 = omega arith in
            ap (λ (x : ℕ). row f x (high / 2)) e ∙ sym (halved n f over low high one (omega arith) top el eh)) in
            ap (lesser_of (lesser_of a b)) up ∙ lesser_assoc a b (row f low high) ∙ ap (lesser_of a) (last_in f low high lt) ∙ first_in f low high lt)
        | inr oh ↦ (
            let up : row f ((low + 1) / 2) (high / 2) ≡ row f low (high - 1) = (
            let e : (low + 1) / 2 ≡ low / 2 = omega arith in
            let h : high / 2 ≡ (high - 1) / 2 = omega arith in
            ap (λ (x : ℕ). row f x (high / 2)) e ∙ ap (row f (low / 2)) h
            ∙ sym (halved n f over low (high - 1) one (omega arith) (omega arith) el (omega arith))) in
            ap (lesser_of (lesser_of a b)) up
            ∙ ap (λ (x : Option ℕ). lesser_of x (row f low (high - 1))) (lesser_comm a b)
            ∙ lesser_assoc b a (row f low (high - 1))
            ∙ elim (cases_lt low (high - 1)) [
              | inl l ↦ ap (lesser_of b) (first_in f low (high - 1) l) ∙ lesser_comm b (row f low (high - 1)) ∙ sym (row_last f low high lt)
              | inr l ↦ (
                  let e : low ≡ high - 1 = omega arith in
                  sym (lesser_assoc b a (row f low (high - 1)))
                  ∙ ap (λ (x : ℕ). lesser_of (lesser_of b (f x)) (row f low (high - 1))) e
                  ∙ ap (λ (x : Option ℕ). lesser_of x (row f low (high - 1))) (lesser_same b)
                  ∙ lesser_comm b (row f low (high - 1))
                  ∙ sym (row_last f low high lt))
            ])
      ]
      | inr ol ↦ elim (parity high) [
        | inl eh ↦ (
            let up : row f ((low + 1) / 2) (high / 2) ≡ row f (low + 1) high = sym (halved n f over (low + 1) high (omega arith) (omega arith) top (omega arith) eh) in
            ap (lesser_of (lesser_of a b)) up
            ∙ elim (cases_lt (low + 1) high) [
              | inl l ↦ lesser_assoc a b (row f (low + 1) high) ∙ ap (lesser_of a) (last_in f (low + 1) high l) ∙ sym (row_first f low high lt)
              | inr l ↦ (
                  let e : high - 1 ≡ low = omega arith in
                  ap (λ (x : ℕ). lesser_of (lesser_of a (f x)) (row f (low + 1) high)) e
                  ∙ ap (λ (x : Option ℕ). lesser_of x (row f (low + 1) high)) (lesser_same a)
                  ∙ sym (row_first f low high lt))
            ])
        | inr oh ↦ (
            let up : row f ((low + 1) / 2) (high / 2) ≡ row f (low + 1) (high - 1) = (
            let h : high / 2 ≡ (high - 1) / 2 = omega arith in
            ap (row f ((low + 1) / 2)) h
            ∙ sym (halved n f over (low + 1) (high - 1) (omega arith) (omega arith) (omega arith) (omega arith) (omega arith))) in
            ap (lesser_of (lesser_of a b)) up
            ∙ lesser_assoc a b (row f (low + 1) (high - 1))
            ∙ ap (lesser_of a) (lesser_comm b (row f (low + 1) (high - 1)) ∙ sym (row_last f (low + 1) high (omega arith)))
            ∙ sym (row_first f low high lt))
      ]
    ]
  where
    parity : (k : ℕ) → (k % 2 ≡ 0) ⊎ (k % 2 ≡ 1)
    parity k = elim (cases_eq (k % 2) 0) [ inl e ↦ inl e | inr ne ↦ inr (omega arith) ]

-- the ends are taken into the best so far, and the row above is left
pub climb : (n : ℕ) (f : ℕ → Option ℕ) → Over n f → (best : Option ℕ) (low high : ℕ) → 1 ≤ low → low < high → high ≤ 2 * n
    → lesser_of (lesser_of best (lesser_of (f low) (f (high - 1)))) (row f ((low + 1) / 2) (high / 2)) ≡ lesser_of best (row f low high)
climb n f over best low high one lt top =
    lesser_assoc best (lesser_of (f low) (f (high - 1))) (row f ((low + 1) / 2) (high / 2)) ∙ ap (lesser_of best) (climbed n f over low high one lt top)

-- the row of the places, as a row of nodes
pub shifted : (n : ℕ) (nodes : List (Option ℕ)) (from many : ℕ) → least_in (λ p. get_or (drop n nodes) p None) from many ≡ least_in (under nodes) (n + from) many
shifted n nodes from zero = refl
shifted n nodes from (suc many) =
    let e : n + (from + 1) ≡ n + from + 1 = omega arith in
    ap (λ (x : Option ℕ). lesser_of x (least_in (λ p. get_or (drop n nodes) p None) (from + 1) many)) (get_or-drop n nodes from None)
    ∙ ap (lesser_of (under nodes (n + from))) (shifted n nodes (from + 1) many ∙ ap (λ (x : ℕ). least_in (under nodes) x many) e)

-- the places of a blank tree are blank
pub places_blank : (n m : ℕ) (nodes : List (Option ℕ)) → m ≡ n + n → nodes ≡ replicate m None → drop n nodes ≡ replicate n None
places_blank n m nodes me e =
    let half : m - n ≡ n = omega arith in
    ap (drop n) e ∙ drop-replicate n m None ∙ ap (λ (k : ℕ). replicate k None) half
