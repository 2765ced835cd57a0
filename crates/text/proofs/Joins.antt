-- Splitting undoes joining, and joining undoes splitting.
use Rattle.std.proofs.Common.{◌≡◌, ℕ, ◌<◌, Bool, true, false, cond, eqb, List, [], ◌∷◌, ◌++◌, length, sym, refl, ap, ◌∙◌, arith, eqb-true}
use borrow.Author.Tests.{eqb-false}
use Rattle.word.specs.Bytes.{separator, line_feed}
use Rattle.text.specs.Split.{Free, pieces, onto, words, lines}
use Rattle.text.specs.Laws.{joined, ended, AllFree}
use Rattle.text.proofs.Pieces.{pieces_cut, words_last, words_some, lines_last}

onto_free : (stop b : ℕ) (ps : List (List ℕ)) → (b ≡ stop → ⊥) → AllFree stop ps → AllFree stop (onto b ps)
onto_free stop b [] n f = ((n, tt), tt)
onto_free stop b (p ∷ ps) n f = ((n, f.0), f.1)

-- no piece holds the stop
pub pieces_free : (stop : ℕ) (end : List (List ℕ)) → AllFree stop end → (bs : List ℕ) → AllFree stop (pieces stop end bs)
pieces_free stop end f [] = f
pieces_free stop end f (b ∷ bs) = go (eqb b stop) refl (pieces_free stop end f bs)
  where
    go : (t : Bool) → eqb b stop ≡ t → AllFree stop (pieces stop end bs) → AllFree stop (cond t ([] ∷ pieces stop end bs) (onto b (pieces stop end bs)))
    go true e r = (tt, r)
    go false e r = onto_free stop b (pieces stop end bs) (eqb-false b stop e) r

joined_onto : (stop b : ℕ) (ps : List (List ℕ)) → 0 < length ps → joined stop (onto b ps) ≡ b ∷ joined stop ps
joined_onto stop b [] h = let z : ⊥ = omega arith in absurd z
joined_onto stop b (p ∷ []) h = refl
joined_onto stop b (p ∷ q ∷ ps) h = refl

joined_empty : (stop : ℕ) (ps : List (List ℕ)) → 0 < length ps → joined stop ([] ∷ ps) ≡ stop ∷ joined stop ps
joined_empty stop [] h = let z : ⊥ = omega arith in absurd z
joined_empty stop (p ∷ ps) h = refl

pub joined_words : (line : List ℕ) → joined separator (words line) ≡ line
joined_words [] = refl
joined_words (b ∷ bs) = go (eqb b separator) refl (joined_words bs) (words_some bs)
  where
    go : (t : Bool) → eqb b separator ≡ t → joined separator (words bs) ≡ bs → 0 < length (words bs)
        → joined separator (cond t ([] ∷ words bs) (onto b (words bs))) ≡ b ∷ bs
    go true e r h = joined_empty separator (words bs) h ∙ (ap (λ (r : List ℕ). separator ∷ r) r ∙ ap (λ (c : ℕ). c ∷ bs) (sym (eqb-true b separator e)))
    go false e r h = joined_onto separator b (words bs) h ∙ ap (λ (r : List ℕ). b ∷ r) r

pub words_joined : (w : List ℕ) (ws : List (List ℕ)) → AllFree separator (w ∷ ws) → words (joined separator (w ∷ ws)) ≡ w ∷ ws
words_joined w [] f = words_last w f.0
words_joined w (v ∷ ws) f =
    pieces_cut separator ([] ∷ []) w (joined separator (v ∷ ws)) f.0 ∙ ap (λ (r : List (List ℕ)). w ∷ r) (words_joined v ws f.1)

append_assoc_cons : (p : List ℕ) (stop : ℕ) (xs ys : List ℕ) → (p ++ (stop ∷ xs)) ++ ys ≡ p ++ (stop ∷ (xs ++ ys))
append_assoc_cons [] stop xs ys = refl
append_assoc_cons (b ∷ p) stop xs ys = ap (λ (r : List ℕ). b ∷ r) (append_assoc_cons p stop xs ys)

pub lines_ended : (ls : List (List ℕ)) → AllFree line_feed ls → lines (ended line_feed ls) ≡ ls
lines_ended [] f = refl
lines_ended (l ∷ ls) f = pieces_cut line_feed [] l (ended line_feed ls) f.0 ∙ ap (λ (r : List (List ℕ)). l ∷ r) (lines_ended ls f.1)

pub lines_unended : (ls : List (List ℕ)) (b : ℕ) (l : List ℕ) → AllFree line_feed ls → Free line_feed (b ∷ l) → lines (ended line_feed ls ++ (b ∷ l)) ≡ ls ++ ((b ∷ l) ∷ [])
lines_unended [] b l f g = lines_last (b ∷ l) g (omega arith)
lines_unended (p ∷ ls) b l f g =
    ap lines (append_assoc_cons p line_feed (ended line_feed ls) (b ∷ l))
    ∙ (pieces_cut line_feed [] p (ended line_feed ls ++ (b ∷ l)) f.0 ∙ ap (λ (r : List (List ℕ)). p ∷ r) (lines_unended ls b l f.1 g))
