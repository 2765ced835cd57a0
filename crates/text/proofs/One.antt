-- A text spells at most one sheet.
use Rattle.std.proofs.Common.{◌≡◌, ℕ, ◌<◌, List, [], length, get_or, sym, refl, ap, ◌∙◌, arith}
use native.Mathlib.Decide.{dec_lt}
use Rattle.word.specs.Numbers.{ReadsNumber, value}
use Rattle.word.specs.States.{spelled_state}
use Rattle.word.specs.declared.state.State.{State}
use Rattle.word.specs.declared.state.State.TheVariants.{In, Off}
use Rattle.text.specs.Tables.{width}
use Rattle.text.specs.Columns.{Ordered}
use Rattle.text.specs.Sheet.{under, SpelledHead, SpelledLink, no_link}
use Rattle.text.specs.Read.{Accepted}
use Rattle.text.specs.declared.table.Table.{Table}
use Rattle.text.specs.declared.table.Table.TheVariants.{Book, Links}
use Rattle.text.specs.declared.sheet.Head.{Head}
use Rattle.text.specs.declared.sheet.SheetLink.{SheetLink}

-- a name has one place
one_place : {t : Table} {ws : List (List ℕ)} {ps qs : List ℕ} → Ordered t ws ps → Ordered t ws qs → (i : ℕ) → i < width t → get_or ps i 0 ≡ get_or qs i 0
one_place {t} {ws} {ps} {qs} o p i h = go (dec_lt (get_or ps i 0) (get_or qs i 0)) (dec_lt (get_or qs i 0) (get_or ps i 0))
  where
    same : get_or ws (get_or ps i 0) [] ≡ get_or ws (get_or qs i 0) []
    same = (o.placed i h).1 ∙ sym (p.placed i h).1

    go : Dec (get_or ps i 0 < get_or qs i 0) → Dec (get_or qs i 0 < get_or ps i 0) → get_or ps i 0 ≡ get_or qs i 0
    go (yes l) d = absurd (o.once (get_or ps i 0) (get_or qs i 0) l (p.placed i h).0 same)
    go (no m) (yes l) = absurd (o.once (get_or qs i 0) (get_or ps i 0) l (o.placed i h).0 (sym same))
    go (no m) (no l) = omega arith

-- so the word under a name is one word
one_word : {t : Table} {ns : List (List ℕ)} {ps qs : List ℕ} (ws : List (List ℕ)) → Ordered t ns ps → Ordered t ns qs → (i : ℕ) → i < width t → under ps ws i ≡ under qs ws i
one_word ws o p i h = ap (λ (k : ℕ). get_or ws k []) (one_place o p i h)

-- and spells one number
one_number : (v w : List ℕ) (m n : ℕ) → v ≡ w → ReadsNumber v m → ReadsNumber w n → m ≡ n
one_number v w m n e p q = sym p.1 ∙ (ap value e ∙ q.1)

-- or one state
one_state : (s t : State) → spelled_state s ≡ spelled_state t → s ≡ t
one_state In In e = refl
one_state In Off e = let z : ⊥ = omega (arith, ap length e) in absurd z
one_state Off In e = let z : ⊥ = omega (arith, ap length e) in absurd z
one_state Off Off e = refl

one_head : {ns ws : List (List ℕ)} {ps qs : List ℕ} {h h' : Head} → Ordered Book ns ps → Ordered Book ns qs → SpelledHead ps ws h → SpelledHead qs ws h' → h ≡ h'
one_head {ws = ws} {ps = ps} {qs = qs} {h = h} {h' = h'} o p s t =
    let book : h.book ≡ h'.book = one_number (under ps ws 0) (under qs ws 0) _ _ (one_word ws o p 0 (omega arith)) s.book t.book in
    let stations : h.stations ≡ h'.stations = one_number (under ps ws 1) (under qs ws 1) _ _ (one_word ws o p 1 (omega arith)) s.stations t.stations in
    λ i. record { book = book i; stations = stations i }

one_link : {ns ws : List (List ℕ)} {ps qs : List ℕ} {l l' : SheetLink} → Ordered Links ns ps → Ordered Links ns qs → SpelledLink ps ws l → SpelledLink qs ws l' → l ≡ l'
one_link {ws = ws} {ps = ps} {qs = qs} {l = l} {l' = l'} o p s t =
    let from : l.row.from ≡ l'.row.from = one_number (under ps ws 0) (under qs ws 0) _ _ (one_word ws o p 0 (omega arith)) s.from t.from in
    let to : l.row.to ≡ l'.row.to = one_number (under ps ws 1) (under qs ws 1) _ _ (one_word ws o p 1 (omega arith)) s.to t.to in
    let ns : l.row.ns ≡ l'.row.ns = one_number (under ps ws 2) (under qs ws 2) _ _ (one_word ws o p 2 (omega arith)) s.ns t.ns in
    let state : l.state ≡ l'.state = one_state l.state l'.state (sym s.state ∙ (one_word ws o p 3 (omega arith) ∙ t.state)) in
    λ i. record { row = record { from = from i; to = to i; ns = ns i }; state = state i }

pub one_sheet : (text : List ℕ) (head head' : Head) (links links' : List SheetLink) (n n' : ℕ) → Accepted text head links n → Accepted text head' links' n'
    → (head ≡ head') × (n ≡ n') × ((k : ℕ) → k < n → get_or links k no_link ≡ get_or links' k no_link)
one_sheet text head head' links links' n n' a b =
    let s = a.spelled in
    let t = b.spelled in
    let count : n ≡ n' = omega (arith, s.end, t.end) in (
      one_head s.headed.book.names t.headed.book.names s.headed.book.values t.headed.book.values,
      count,
      λ k h. one_link s.headed.names t.headed.names (s.rows.spelled k h) (t.rows.spelled k (omega arith)),
    )
