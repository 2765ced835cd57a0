-- The route that is answered, found from its end backwards by the delays of the stations.
use Rattle.std.specs.Prelude.{◌≡◌, ℕ, ◌+◌, ◌≤◌, ◌≢◌, List, [], ◌∷◌, ◌++◌, Some, None, Option}
use Rattle.network.specs.Network.{Network, Hop, NoRoute, Least, delay}

-- the delays from the source s: of each station the least, and none where no route leads
pub record Settled (g : Network) (s : ℕ) (delays : ℕ → Option ℕ) : Type 0 where
  pub least : (t d : ℕ) → delays t ≡ Some d → Least g s t d
  pub none : (t : ℕ) → delays t ≡ None → NoRoute g s t

-- the link k leads from u to t in just the time by which their delays differ
pub record Tight (g : Network) (delays : ℕ → Option ℕ) (k u t : ℕ) : Type 0 where
  pub hop : Hop g k u t
  pub at : ℕ
  pub before : delays u ≡ Some at
  pub after : delays t ≡ Some (at + delay g k)

-- and no link with a lower number does so
pub record Lowest (g : Network) (delays : ℕ → Option ℕ) (k u t : ℕ) : Type 0 where
  pub tight : Tight g delays k u t
  pub lowest : (j v : ℕ) → Tight g delays j v t → k ≤ j

-- the picked route to t: nothing at the source; elsewhere the lowest such link is the last, and before it goes the picked route to where it comes from
pub data Picked (g : Network) (delays : ℕ → Option ℕ) (s : ℕ) : List ℕ → ℕ → Type 0 where
  source : Picked g delays s [] s
  onward : {k u t : ℕ} {ks : List ℕ} → t ≢ s → Lowest g delays k u t → Picked g delays s ks u → Picked g delays s (ks ++ (k ∷ [])) t
