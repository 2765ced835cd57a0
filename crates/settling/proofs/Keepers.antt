-- What a keeper tells of its places, said of stations and nodes.
use Rattle.std.proofs.Common.{◌≡◌, ℕ, ◌<◌, length, Some, None, Option, MatchOption, sym, ap, ◌∙◌, subst, arith, le-ltb, lt-ltb}
use Rattle.tree.specs.Tree.{Tree, Runs}
use Rattle.walk.specs.State.{Changed}
use Rattle.walk.specs.Rules.{Lowest, Nothing}
use Rattle.walk.proofs.Runs.{Held, changed_set, run_lowest, run_nothing, run_changed}
use Rattle.keeper.specs.Keeps.{Keeps, delay_at, noted, NoDelay, LeastFrom}
use Rattle.settling.specs.Means.{sofar_of}

pub sofar_in : (t : Tree) (k : Keeps) (u : ℕ) → u < t.stations → sofar_of t k u ≡ delay_at k (t.place u)
sofar_in t k u h = rw (lt-ltb u t.stations h)

pub held : (t : Tree) (k : Keeps) → Held t (delay_at k) (sofar_of t k)
held t k = record { at = λ u h. sofar_in t k u h; none = λ u h. rw (le-ltb u t.stations h) }

-- the least of the places of a node's run is the least of the node
pub least_means : (t : Tree) (k : Keeps) (c low high : ℕ) → Runs t → c < t.nodes → low ≡ t.low c → high ≡ t.high c → (o : Option ℕ)
    → MatchOption o (NoDelay k low high) (LeastFrom k low high) → MatchOption o (Nothing t (sofar_of t k) c) (Lowest t (sofar_of t k) c)
least_means t k c low high runs listed is_low is_high None b = run_nothing runs (held t k) (λ q a z. b q (omega arith) (omega arith))
least_means t k c low high runs listed is_low is_high (Some d) l =
    run_lowest runs (held t k) listed (omega (arith, l.above)) (omega (arith, l.below)) l.there
    (λ q y a b e. l.least q y (omega arith) (omega arith) e)

-- a keeper has changed at the place of u
pub changed_noted : (t : Tree) (k k' : Keeps) (u p : ℕ) (x : Option ℕ) → Runs t → length k.delays ≡ k.places → u < t.stations → p ≡ t.place u
    → p < k.places → k' ≡ noted k p x → Changed (sofar_of t k) u x (sofar_of t k')
changed_noted t k k' u p x runs len st is_place pl e =
    let l : t.place u < length k.delays = omega arith in
    let e' : k' ≡ noted k (t.place u) x = e ∙ ap (λ (q : ℕ). noted k q x) is_place in
    subst (λ (z : Keeps). Changed (sofar_of t k) u x (sofar_of t z)) (sym e')
    (run_changed runs (held t k) (held t (noted k (t.place u) x)) st (changed_set k.delays (t.place u) x None l))
