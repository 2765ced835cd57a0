-- Putting the children of a node, one after the other.
use Rattle.std.proofs.Common.{◌≡◌, ℕ, zero, suc, ◌+◌, ◌<◌, ◌≤◌, List, [], ◌∷◌, length, get_or, take, None, sym, refl, ◌∙◌, subst, inl, inr, arith}
use Rattle.std.proofs.lemmas.List.{take_more, length-take-le}
use Rattle.tree.specs.Tree.{Tree, Among, Distinct}
use Rattle.walk.specs.State.{Shelf, Core, shelved}
use Rattle.walk.specs.Rules.{Puts, done, put}
use Rattle.walk.proofs.Handover.{placed_moved, puts_then, puts_few}
use Rattle.walk.proofs.Keep.{puts_off}
use Rattle.settling.specs.Asks.{Brought}

pub among_at : (xs : List ℕ) (i : ℕ) → i < length xs → Among (get_or xs i 0) xs
among_at [] i h = omega arith
among_at (x ∷ xs) zero h = inl refl
among_at (x ∷ xs) (suc i) h = inr (among_at xs i (omega arith))

not_before : (xs : List ℕ) (i : ℕ) → Distinct xs → i < length xs → ¬ Among (get_or xs i 0) (take i xs)
not_before [] i d h a = omega arith
not_before (x ∷ xs) zero d h a = a
not_before (x ∷ xs) (suc i) d h (inl e) = d.0 (subst (λ (y : ℕ). Among y xs) e (among_at xs i (omega arith)))
not_before (x ∷ xs) (suc i) d h (inr a) = not_before xs i d.1 (omega arith) a

module _ (t : Tree) (s : Core) (xs : List ℕ) (i : ℕ) (h : Shelf) (less : i < length xs) (puts : Puts t s.so_far s.base (take i xs) s.shelf h) where
  pub still_few : s.shelf.puts + length xs ≤ 65535 → h.puts < 65535
  still_few few = omega (arith, puts_few puts, length-take-le i xs (omega arith))

  pub next_child : (h' : Shelf) → Distinct xs → s.shelf.bucket (get_or xs i 0) ≡ None → Brought t (shelved s h) (get_or xs i 0) h'
      → Puts t s.so_far s.base (take (i + 1) xs) s.shelf h'
  next_child h' once free br =
      let here : h.bucket (get_or xs i 0) ≡ None = puts_off (get_or xs i 0) (not_before xs i once less) puts ∙ free in
      subst (λ (cs : List ℕ). Puts t s.so_far s.base cs s.shelf h') (sym (take_more xs i 0 less))
      (puts_then puts (put br.to br.belongs (placed_moved here br.moved) done))
