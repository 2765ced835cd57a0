-- The places of a table's names, as its line of names is read word by word.
use Rattle.std.proofs.Common.{◌≡◌, ℕ, zero, suc, ◌+◌, ◌<◌, ◌≤◌, true, false, cond, eqb, ltb, ◌≢◌, List, [], length, get_or, set, sym, refl, ap, ◌∙◌, subst, arith, length-set, get_or-set_other, get_or-set_same, le-ltb, lt-ltb}
use native.Mathlib.Decide.{dec_lt, ℕ_discrete}
use Rattle.text.specs.Tables.{names, width, Named}
use Rattle.text.specs.Columns.{NewName, NameFault, NoNewName}
use Rattle.word.specs.declared.fault.Cause.{Cause}
use Rattle.word.specs.declared.fault.Cause.TheVariants.{InWord, InLine, InTable, TextTooLong, InBook}
use Rattle.word.specs.declared.fault.WordFault.TheVariants.{Empty, NotANumber, TooLarge, BadState}
use Rattle.word.specs.declared.fault.LineFault.TheVariants.{WordCount, BadName}
use Rattle.text.specs.declared.table.Table.{Table}
use Rattle.text.specs.declared.table.Table.TheVariants.{Book, Links}

-- no table has two columns of one name: the first byte tells them apart
abbrev index : Table → List ℕ → ℕ
index Book w = cond (eqb (get_or w 0 0) 98) 0 1
index Links w = cond (eqb (get_or w 0 0) 102) 0 (cond (eqb (get_or w 0 0) 116) 1 (cond (eqb (get_or w 0 0) 110) 2 3))

index_is : (t : Table) (i : ℕ) → i < width t → index t (get_or (names t) i []) ≡ i
index_is Book zero h = refl
index_is Book (suc zero) h = refl
index_is Book (suc (suc i)) h = let z : ⊥ = omega arith in absurd z
index_is Links zero h = refl
index_is Links (suc zero) h = refl
index_is Links (suc (suc zero)) h = refl
index_is Links (suc (suc (suc zero))) h = refl
index_is Links (suc (suc (suc (suc i)))) h = let z : ⊥ = omega arith in absurd z

pub one_name : (t : Table) (i k : ℕ) → i < width t → k < width t → get_or (names t) i [] ≡ get_or (names t) k [] → i ≡ k
one_name t i k l m e = sym (index_is t i l) ∙ (ap (index t) e ∙ index_is t k m)

-- how many of the first n places are known
abbrev pub known : List ℕ → ℕ → ℕ
known places zero = 0
known places (suc n) = cond (ltb (get_or places n 0) 4) 1 0 + known places n

-- a place past the first n does not count among them
known_past : (places : List ℕ) (n i j : ℕ) → n ≤ i → known (set places i j) n ≡ known places n
known_past places zero i j h = refl
known_past places (suc n) i j h =
    let ne : n ≢ i = omega arith in
    rw (get_or-set_other, known_past places n i j (omega arith))

-- one more is known
known_more : (places : List ℕ) (n i j : ℕ) → i < length places → i < n → j < 4 → (get_or places i 0 < 4 → ⊥) → known (set places i j) n ≡ suc (known places n)
known_more places zero i j l h b f = let z : ⊥ = omega arith in absurd z
known_more places (suc n) i j l h b f = go (ℕ_discrete i n) (λ m. known_more places n i j l m b f)
  where
    go : Dec (i ≡ n) → (i < n → known (set places i j) n ≡ suc (known places n)) → known (set places i j) (suc n) ≡ suc (known places (suc n))
    go (yes q) r =
        let here : get_or (set places i j) n 0 ≡ j = subst (λ (k : ℕ). get_or (set places i j) k 0 ≡ j) q (get_or-set_same places i j 0 l) in
        let new : ltb (get_or (set places i j) n 0) 4 ≡ true = lt-ltb (get_or (set places i j) n 0) 4 (omega arith) in
        let far : get_or places n 0 < 4 → ⊥ = subst (λ (k : ℕ). get_or places k 0 < 4 → ⊥) q f in
        let old : ltb (get_or places n 0) 4 ≡ false = le-ltb (get_or places n 0) 4 (elim (dec_lt (get_or places n 0) 4) [ yes y ↦ absurd (far y) | no y ↦ omega arith ]) in
        rw (new, old) (omega (arith, known_past places n i j (omega arith)))
    go (no q) r =
        let ne : n ≢ i = omega arith in
        rw (get_or-set_other) (omega (arith, r (omega arith)))

-- what is known of the places once the words below j are read
pub record Seen (t : Table) (ws : List (List ℕ)) (j : ℕ) (places : List ℕ) : Type 0 where
  pub four : length places ≡ 4
  pub came : (i : ℕ) → i < width t → get_or places i 0 < 4 → (get_or places i 0 < j) × (get_or ws (get_or places i 0) [] ≡ get_or (names t) i [])
  pub absent : (i : ℕ) → i < width t → (get_or places i 0 < 4 → ⊥) → (k : ℕ) → k < j → get_or ws k [] ≡ get_or (names t) i [] → ⊥
  pub good : (k : ℕ) → k < j → NewName t ws k
  pub many : known places (width t) ≡ j

pub width_most : (t : Table) → width t ≤ 4
width_most Book = omega arith
width_most Links = omega arith

module _ {t : Table} {ws : List (List ℕ)} {j i : ℕ} {places : List ℕ} (seen : Seen t ws j places) (column : i < width t) (named : get_or (names t) i [] ≡ get_or ws j []) where
  -- a name that has its place came before
  pub seen_twice : get_or places i 0 < 4 → NewName t ws j → ⊥
  seen_twice h new =
      let before = seen.came i column h in
      new.new (get_or places i 0) before.0 (before.1 ∙ named)

  -- one that has none is new
  pub seen_new : (get_or places i 0 < 4 → ⊥) → NewName t ws j
  seen_new n = record { named = (i, (column, named)); new = λ k l e. seen.absent i column n k l (e ∙ sym named) }

  pub seen_more : (get_or places i 0 < 4 → ⊥) → j < width t → Seen t ws (j + 1) (set places i j)
  seen_more n l =
      let short = width_most t in
      let inside : i < length places = omega (arith, seen.four) in
      let same : get_or (set places i j) i 0 ≡ j = get_or-set_same places i j 0 inside in
      record {
        four = length-set places i j ∙ seen.four;
        came = λ k h b. place k h b (ℕ_discrete k i) same;
        absent = λ k h f m d e. gone k h f m d e (ℕ_discrete k i) (ℕ_discrete m j) same short;
        good = λ k d. fine k d (ℕ_discrete k j) n;
        many = known_more places (width t) i j inside column (omega arith) n ∙ (ap suc seen.many ∙ omega arith);
      }
    where
      place : (k : ℕ) → k < width t → get_or (set places i j) k 0 < 4 → Dec (k ≡ i) → get_or (set places i j) i 0 ≡ j
          → (get_or (set places i j) k 0 < j + 1) × (get_or ws (get_or (set places i j) k 0) [] ≡ get_or (names t) k [])
      place k h b (yes q) same = rw (q, same) (omega arith, sym named)
      place k h b (no q) same =
          let other = get_or-set_other places i k j 0 q in
          let old = seen.came k h (rw other at b) in
          rw other (omega (arith, old.0), old.1)

      gone : (k : ℕ) → k < width t → (get_or (set places i j) k 0 < 4 → ⊥) → (m : ℕ) → m < j + 1 → get_or ws m [] ≡ get_or (names t) k [] → Dec (k ≡ i) → Dec (m ≡ j)
          → get_or (set places i j) i 0 ≡ j → width t ≤ 4 → ⊥
      gone k h f m d e (yes q) r same short = f (subst (λ (x : ℕ). get_or (set places i j) x 0 < 4) (sym q) (omega arith))
      gone k h f m d e (no q) (yes r) same short = q (one_name t k i h column (sym e ∙ (ap (λ (x : ℕ). get_or ws x []) r ∙ sym named)))
      gone k h f m d e (no q) (no r) same short = seen.absent k h (rw (get_or-set_other places i k j 0 q) at f) m (omega arith) e

      fine : (k : ℕ) → k < j + 1 → Dec (k ≡ j) → (get_or places i 0 < 4 → ⊥) → NewName t ws k
      fine k d (yes q) n = subst (λ (x : ℕ). NewName t ws x) (sym q) (seen_new n)
      fine k d (no q) n = seen.good k (omega arith)

-- a word that names no new column is at fault
pub name_fault : {t : Table} {ws : List (List ℕ)} {j : ℕ} {places : List ℕ} → Seen t ws j places → (cause : Cause) → NoNewName t places (get_or ws j []) cause → NameFault t ws j cause
name_fault seen (InWord Empty) h = h
name_fault seen (InWord NotANumber) h = h
name_fault seen (InWord TooLarge) h = h
name_fault seen (InWord BadState) h = h
name_fault seen (InLine WordCount) h = h
name_fault {t} {ws} {j} {places} seen (InLine BadName) h = (h.0, λ new. twice new new.named)
  where
    twice : NewName t ws j → Named t (get_or ws j []) → ⊥
    twice new (i, (column, named)) = seen_twice seen column named (h.1 i column named) new
name_fault seen (InTable fault) h = h
name_fault seen TextTooLong h = h
name_fault seen (InBook fault) h = h
