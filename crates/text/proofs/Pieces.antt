-- Where the next piece begins, for words in a line and for lines in a text.
use Rattle.std.proofs.Common.{◌≡◌, ℕ, zero, suc, ◌+◌, ◌-◌, ◌<◌, ◌≤◌, min, Bool, true, false, cond, eqb, List, [], ◌∷◌, ◌++◌, length, get_or, drop, sym, refl, ap, ◌∙◌, subst, arith, length-drop, take-append-drop, eq-eqb, ne_eqb, eqb-true, Option, Some, None, unwrap_or}
use native.Mathlib.Decide.{dec_lt}
use Rattle.std.proofs.lemmas.List.{get_or-drop, drop-drop, drop_more, append-nil, drop_all}
use Rattle.std.proofs.lemmas.List.Edits.{length-between, get_or-between}
use Rattle.std.proofs.lemmas.List.Sums.{prefix_len-le-length, fails_before_first, passes_at_first}
use Rattle.std.proofs.lemmas.Bool.{eqb-false}
use Rattle.std.proofs.lemmas.List.Recursion.{is_count_by}
use Rattle.std.proofs.lemmas.Grind.{common_steps}
use Rattle.std.proofs.Math.Bool.{not}
use Rattle.std.specs.List.{between, count_by, position, position_or_len}
use Rattle.word.specs.Bytes.{separator, line_feed}
use Rattle.text.specs.Split.{Free, Ends, pieces, onto, words, lines, column_of, WordAt, LineAt, stop_byte, pieces_at, PieceAt}
use Rattle.text.specs.declared.split.Stop.{Stop}
use Rattle.text.specs.declared.split.Stop.TheVariants.{AtSeparator, AtLineFeed}

free_from : (stop : ℕ) (bs : List ℕ) → ((k : ℕ) → k < length bs → eqb (get_or bs k 0) stop ≡ false) → Free stop bs
free_from stop [] h = tt
free_from stop (b ∷ bs) h = (eqb-false b stop (h 0 (omega arith)), free_from stop bs (λ k l. h (suc k) (omega arith)))

-- a piece ends where the first stop stands
pub ends_first : (stop : ℕ) (bytes : List ℕ) (start e : ℕ) → start ≤ length bytes → e ≡ start + position_or_len (λ b. eqb b stop) (drop start bytes) → Ends stop bytes start e
ends_first stop bytes start e l q =
    let is_stop : ℕ → Bool = λ b. eqb b stop in
    let rest = drop start bytes in
    let n = position_or_len is_stop rest in
    let most : n ≤ length rest = prefix_len-le-length (λ b. not (is_stop b)) rest in
    let high : e ≤ length bytes = omega (arith, most, length-drop start bytes) in
    record {
      low = omega arith;
      high = high;
      free = free_from stop (between start e bytes) (λ k below.
          let inside : start + k < e = omega (arith, length-between bytes start e high) in
          rw (get_or-between, ← get_or-drop) (fails_before_first is_stop rest k 0 (omega arith)));
      there = λ below.
          let some : n < length rest = omega (arith, length-drop start bytes) in
          rw (q, ← get_or-drop) (eqb-true (get_or rest n 0) stop (passes_at_first is_stop rest 0 some));
    }

-- the same as a search from the left tells it
ends_told : (stop : ℕ) (bytes : List ℕ) (start : ℕ) (o : Option ℕ) → start ≤ length bytes → position (λ b. eqb b stop) (drop start bytes) ≡ o
    → Ends stop bytes start (start + unwrap_or o (length (drop start bytes)))
ends_told stop bytes start (Some n) l e =
    let is_stop : ℕ → Bool = λ b. eqb b stop in
    let rest = drop start bytes in
    let at : n ≡ position_or_len is_stop rest = grind (arith, common_steps) in
    ends_first stop bytes start (start + n) l (ap (λ (k : ℕ). start + k) at)
ends_told stop bytes start None l e =
    let is_stop : ℕ → Bool = λ b. eqb b stop in
    let rest = drop start bytes in
    let most : position_or_len is_stop rest ≤ length rest = prefix_len-le-length (λ b. not (is_stop b)) rest in
    let all : length rest ≤ position_or_len is_stop rest = grind (arith, common_steps) in
    ends_first stop bytes start (start + length rest) l (omega arith)

pub ends_at : (stop : ℕ) (bytes : List ℕ) (start n : ℕ) → start ≤ length bytes → n ≡ unwrap_or (position (λ b. eqb b stop) (drop start bytes)) (length (drop start bytes))
    → Ends stop bytes start (start + n)
ends_at stop bytes start n l e =
    subst (λ (k : ℕ). Ends stop bytes start (start + k)) (sym e) (ends_told stop bytes start (position (λ b. eqb b stop) (drop start bytes)) l refl)

-- up to a stop, then the stop: a piece, and the pieces after it
pub pieces_cut : (stop : ℕ) (end : List (List ℕ)) (s t : List ℕ) → Free stop s → pieces stop end (s ++ (stop ∷ t)) ≡ s ∷ pieces stop end t
pieces_cut stop end [] t f = rw (eq-eqb stop stop refl)
pieces_cut stop end (b ∷ s) t f = rw (ne_eqb b stop f.0, pieces_cut stop end s t f.1)

pub words_last : (s : List ℕ) → Free separator s → words s ≡ s ∷ []
words_last [] f = refl
words_last (b ∷ s) f = rw (ne_eqb b separator f.0, words_last s f.1)

lines_last' : (b : ℕ) (s : List ℕ) → Free line_feed (b ∷ s) → lines (b ∷ s) ≡ (b ∷ s) ∷ []
lines_last' b [] f = rw (ne_eqb b line_feed f.0)
lines_last' b (x ∷ s) f = rw (ne_eqb b line_feed f.0, lines_last' x s f.1)

pub lines_last : (s : List ℕ) → Free line_feed s → 0 < length s → lines s ≡ s ∷ []
lines_last [] f h = let z : ⊥ = omega arith in absurd z
lines_last (b ∷ s) f h = lines_last' b s f

-- the bytes from `start` on: up to e, and those from e on
pub from_start : (bs : List ℕ) (start e : ℕ) → start ≤ e → drop start bs ≡ between start e bs ++ drop e bs
from_start bs start e l =
    let rest : drop (e - start) (drop start bs) ≡ drop e bs = drop-drop (e - start) start bs ∙ ap (λ (n : ℕ). drop n bs) (omega arith) in
    sym (take-append-drop (e - start) (drop start bs)) ∙ ap (λ (r : List ℕ). between start e bs ++ r) rest

-- .. the same where a stop stands at e
pub at_stop : (stop : ℕ) (bs : List ℕ) (start e : ℕ) → start ≤ e → e < length bs → get_or bs e 0 ≡ stop → drop start bs ≡ between start e bs ++ (stop ∷ drop (e + 1) bs)
at_stop stop bs start e l b h =
    from_start bs start e l ∙ ap (λ (r : List ℕ). between start e bs ++ r) (drop_more bs e 0 b ∙ ap (λ (x : ℕ). x ∷ drop (e + 1) bs) h)

-- .. and where the bytes end there
pub at_end : (bs : List ℕ) (start e : ℕ) → start ≤ e → e ≡ length bs → drop start bs ≡ between start e bs
at_end bs start e l h =
    from_start bs start e l
    ∙ (ap (λ (r : List ℕ). between start e bs ++ r) (drop_all e bs (omega arith)) ∙ append-nil (between start e bs))

-- what stands first in the list from j on
pub record First (A : Type 0) (xs : List A) (j : ℕ) (x : A) (rest : List A) : Type 0 where
  pub below : j < length xs
  pub here : (d : A) → get_or xs j d ≡ x
  pub after : drop (j + 1) xs ≡ rest

pub first_of : {A : Type 0} (xs : List A) (j : ℕ) (x : A) (rest : List A) → drop j xs ≡ x ∷ rest → First A xs j x rest
first_of {A} xs j x rest h =
    let some : j < length xs = omega (arith, length-drop j xs, ap length h) in
    let cut : (d : A) → drop j xs ≡ get_or xs j d ∷ drop (j + 1) xs = λ d. drop_more xs j d some in
    record { below = some; here = λ d. cc (cut d, h); after = cc (cut x, h) }

pub column_next : (ws : List (List ℕ)) (j : ℕ) → j < length ws → column_of ws (j + 1) ≡ column_of ws j + length (get_or ws j []) + 1
column_next [] j h = let z : ⊥ = omega arith in absurd z
column_next (w ∷ ws) zero h = omega arith
column_next (w ∷ ws) (suc j) h =
    let more : suc j + 1 ≡ suc (j + 1) = omega arith in
    rw more (omega (arith, column_next ws j (omega arith)))

-- the word j, which begins at `start` and ends at e
module _ {line : List ℕ} {j start e : ℕ} (at : WordAt line j start) (ends : Ends separator line start e) where
  -- another word follows
  then : e < length line → First (List ℕ) (words line) j (between start e line) (words (drop (e + 1) line))
  then h =
      let split : words (drop start line) ≡ between start e line ∷ words (drop (e + 1) line)
      = ap words (at_stop separator line start e ends.low h (ends.there h))
      ∙ pieces_cut separator ([] ∷ []) (between start e line) (drop (e + 1) line) ends.free
      in first_of (words line) j (between start e line) (words (drop (e + 1) line)) (sym at.left ∙ split)

  -- it is the last word
  alone : ¬ (e < length line) → First (List ℕ) (words line) j (between start e line) []
  alone n =
      let h : e ≡ length line = omega (arith, ends.high) in
      let split : words (drop start line) ≡ between start e line ∷ []
      = ap words (at_end line start e ends.low h) ∙ words_last (between start e line) ends.free
      in first_of (words line) j (between start e line) [] (sym at.left ∙ split)

  pub word_is : get_or (words line) j [] ≡ between start e line
  word_is = elim (dec_lt e (length line)) [ yes h ↦ (then h).here [] | no n ↦ (alone n).here [] ]

  pub more_follows : j + 1 < length (words line) → e < length line
  more_follows h = go (dec_lt e (length line))
    where
      go : Dec (e < length line) → e < length line
      go (yes l) = l
      go (no n) = let z : ⊥ = omega (arith, length-drop (j + 1) (words line), ap length (alone n).after) in absurd z

  pub word_next : j + 1 < length (words line) → WordAt line (j + 1) (e + 1)
  word_next h =
      let l = more_follows h in
      record {
        within = omega arith;
        left = sym (then l).after;
        column = omega (arith, at.column, column_next (words line) j (omega arith), ap length word_is, length-between line start e ends.high, ends.low);
      }

onto_length : (b : ℕ) (ps : List (List ℕ)) → 0 < length ps → length (onto b ps) ≡ length ps
onto_length b [] h = let z : ⊥ = omega arith in absurd z
onto_length b (p ∷ ps) h = refl

pub words_some : (line : List ℕ) → 0 < length (words line)
words_some [] = omega arith
words_some (b ∷ bs) = go (eqb b separator) (words_some bs)
  where
    go : (t : Bool) → 0 < length (words bs) → 0 < length (cond t ([] ∷ words bs) (onto b (words bs)))
    go true h = omega arith
    go false h = omega (arith, onto_length b (words bs) h)

-- a line has one word more than it has separators
pub words_count : (line : List ℕ) → length (words line) ≡ count_by (λ b. eqb b separator) line + 1
words_count line =
    let counted = is_count_by (λ (bs : List ℕ). length (words bs) - 1) (λ b. eqb b separator) refl step line in
    omega (arith, counted, words_some line)
  where
    step : (b : ℕ) (bs : List ℕ) → length (words (b ∷ bs)) - 1 ≡ cond (eqb b separator) (1 + (length (words bs) - 1)) (length (words bs) - 1)
    step b bs = go (eqb b separator) (words_some bs)
      where
        go : (t : Bool) → 0 < length (words bs) → length (cond t ([] ∷ words bs) (onto b (words bs))) - 1 ≡ cond t (1 + (length (words bs) - 1)) (length (words bs) - 1)
        go true h = omega arith
        go false h = omega (arith, onto_length b (words bs) h)

-- the text ends where no byte is left
pub line_none : {text : List ℕ} {i start : ℕ} → LineAt text i start → length text ≤ start → length (lines text) ≤ i
line_none {text} {i} {start} at h =
    omega (arith, length-drop i (lines text), ap length (sym at.left ∙ ap lines (drop_all start text h)))

-- and goes on where a line is left
pub line_some : {text : List ℕ} {i start : ℕ} → LineAt text i start → i < length (lines text) → start < length text
line_some {text} {i} {start} at h = go (dec_lt start (length text))
  where
    go : Dec (start < length text) → start < length text
    go (yes l) = l
    go (no n) = let z : ⊥ = omega (arith, line_none at (omega arith)) in absurd z

-- the line i, which begins at `start` and ends at e
module _ {text : List ℕ} {i start e : ℕ} (at : LineAt text i start) (ends : Ends line_feed text start e) (some : start < length text) where
  split : lines (drop start text) ≡ between start e text ∷ lines (drop (min (e + 1) (length text)) text)
  split = go (dec_lt e (length text))
    where
      go : Dec (e < length text) → lines (drop start text) ≡ between start e text ∷ lines (drop (min (e + 1) (length text)) text)
      go (yes h) =
          let next : e + 1 ≡ min (e + 1) (length text) = omega arith in
          ap lines (at_stop line_feed text start e ends.low h (ends.there h))
          ∙ (pieces_cut line_feed [] (between start e text) (drop (e + 1) text) ends.free
          ∙ ap (λ (n : ℕ). between start e text ∷ lines (drop n text)) next)
      go (no n) =
          let last : e ≡ length text = omega (arith, ends.high) in
          let long : 0 < length (between start e text) = omega (arith, length-between text start e ends.high) in
          let none : drop (min (e + 1) (length text)) text ≡ [] = drop_all (min (e + 1) (length text)) text (omega arith) in
          ap lines (at_end text start e ends.low last)
          ∙ (lines_last (between start e text) ends.free long
          ∙ ap (λ (r : List ℕ). between start e text ∷ lines r) (sym none))

  first : First (List ℕ) (lines text) i (between start e text) (lines (drop (min (e + 1) (length text)) text))
  first = first_of (lines text) i (between start e text) (lines (drop (min (e + 1) (length text)) text)) (sym at.left ∙ split)

  pub line_listed : i < length (lines text)
  line_listed = first.below

  pub line_is : get_or (lines text) i [] ≡ between start e text
  line_is = first.here []

  pub line_next : LineAt text (i + 1) (min (e + 1) (length text))
  line_next = record { within = omega arith; few = omega (arith, at.few, ends.low); listed = omega (arith, first.below); left = sym first.after }

-- no line is longer than its text
pub line_short : (text : List ℕ) (i : ℕ) → length (get_or (lines text) i []) ≤ length text
line_short [] i = omega arith
line_short (b ∷ bs) i = go (eqb b line_feed) (lines bs) i (λ k. line_short bs k)
  where
    go : (t : Bool) (ls : List (List ℕ)) (i : ℕ) → ((k : ℕ) → length (get_or ls k []) ≤ length bs) → length (get_or (cond t ([] ∷ ls) (onto b ls)) i []) ≤ suc (length bs)
    go true ls zero h = omega arith
    go true ls (suc i) h = omega (arith, h i)
    go false [] zero h = omega arith
    go false [] (suc i) h = omega arith
    go false (l ∷ ls) zero h = omega (arith, h zero)
    go false (l ∷ ls) (suc i) h = omega (arith, h (suc i))

-- a text has no more lines than bytes
pub lines_few : (text : List ℕ) → length (lines text) ≤ length text
lines_few [] = omega arith
lines_few (b ∷ bs) = go (eqb b line_feed) (lines bs) (lines_few bs)
  where
    go : (t : Bool) (ls : List (List ℕ)) → length ls ≤ length bs → length (cond t ([] ∷ ls) (onto b ls)) ≤ suc (length bs)
    go true ls h = omega arith
    go false [] h = omega arith
    go false (l ∷ ls) h = omega arith

-- the first piece begins with the bytes
pub piece_first : (stop : Stop) (bytes : List ℕ) → PieceAt stop bytes 0 0
piece_first AtSeparator bytes = record { within = omega arith; left = refl; column = refl }
piece_first AtLineFeed bytes = record { within = omega arith; few = omega arith; listed = omega arith; left = refl }

pub piece_within : (stop : Stop) (bytes : List ℕ) (j start : ℕ) → PieceAt stop bytes j start → start ≤ length bytes
piece_within AtSeparator bytes j start at = at.within
piece_within AtLineFeed bytes j start at = at.within

-- another piece begins behind the stop that ends the piece j
pub piece_next : (stop : Stop) (bytes : List ℕ) (j start e : ℕ) → PieceAt stop bytes j start → Ends (stop_byte stop) bytes start e
    → j + 1 < length (pieces_at stop bytes) → PieceAt stop bytes (j + 1) (min (e + 1) (length bytes))
piece_next AtSeparator bytes j start e at ends more =
    let behind : e + 1 ≡ min (e + 1) (length bytes) = omega (arith, more_follows at ends more) in
    subst (λ (n : ℕ). WordAt bytes (j + 1) n) behind (word_next at ends more)
piece_next AtLineFeed bytes j start e at ends more = line_next at ends (line_some at (omega arith))
