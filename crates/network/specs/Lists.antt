-- Lists of link numbers: which links stand in one, and whether one stands in it twice.
use Rattle.std.specs.Prelude.{◌≡◌, ℕ, ◌⊎◌, List, [], ◌∷◌}

-- k is one of ks
abbrev pub Among : ℕ → List ℕ → Type 0
Among k [] = ⊥
Among k (j ∷ ks) = (k ≡ j) ⊎ Among k ks

-- each of ks is one of ls
abbrev pub Inside : List ℕ → List ℕ → Type 0
Inside ks ls = (k : ℕ) → Among k ks → Among k ls

-- none of ks stands in it twice
abbrev pub Distinct : List ℕ → Type 0
Distinct [] = Unit {0}
Distinct (k ∷ ks) = (¬ Among k ks) × Distinct ks
