-- What a walk from a source knows in its midst, and which station it may visit next. (The field calls a walk that always visits the nearest
-- known station Dijkstra's algorithm; this one may also visit another of the same bucket.)
use Rattle.std.specs.Prelude.{◌≡◌, ℕ, ◌+◌, ◌/◌, ◌^◌, ◌≤◌, ◌⊎◌, List}
use Rattle.network.specs.Network.{Network, Hop, Route, Attained, Least, Under, delay, sum}

-- `final w d`: the station w has been visited, and d is its delay; `tentative u y`: y is the best that is known of u so far

-- w has been visited
abbrev pub Done : (ℕ → ℕ → Type 0) → ℕ → Type 0
Done final w = (d : ℕ) × final w d

-- u is known to be at x, or nearer
abbrev pub Near : (ℕ → ℕ → Type 0) → ℕ → ℕ → Type 0
Near tentative u x = (y : ℕ) × tentative u y × (y ≤ x)

pub record Known (g : Network) (s : ℕ) (final tentative : ℕ → ℕ → Type 0) : Type 0 where
  -- the delay of a visited station is the least
  pub exact : (w d : ℕ) → final w d → Least g s w d
  -- a tentative delay is the sum of some route
  pub found : (u y : ℕ) → tentative u y → Attained g s u y
  -- each link out of a visited station has been looked at: where it leads is visited, or known to be no further than over it
  pub relaxed : (w d k u : ℕ) → final w d → Hop g k w u → Done final u ⊎ Near tentative u (d + delay g k)
  -- the source is visited, or known to be at 0
  pub start : Done final s ⊎ tentative s 0

-- at a level at which no route joins u and v, x is in no later bucket than y
pub record Bucketed (g : Network) (u v x y : ℕ) : Type 0 where
  pub level : ℕ
  pub apart : ¬ Under g level u v
  pub bucket : x / 2 ^ level ≤ y / 2 ^ level

-- v, at x so far, may be visited next: no known station is nearer, unless in the same bucket of a level that keeps the two apart
pub record Next (g : Network) (final tentative : ℕ → ℕ → Type 0) (v x : ℕ) : Type 0 where
  pub unvisited : ¬ Done final v
  pub known : tentative v x
  pub first : (u y : ℕ) → tentative u y → (x ≤ y) ⊎ Bucketed g u v x y

-- v, at x, has been visited, and its links have been looked at: what was known before, and what is known after
pub record Visited (g : Network) (v x : ℕ) (final tentative final' tentative' : ℕ → ℕ → Type 0) : Type 0 where
  -- v is final, and nothing else has become so
  pub now : final' v x
  pub still : (w d : ℕ) → final w d → final' w d
  pub only : (w d : ℕ) → final' w d → final w d ⊎ ((w ≡ v) × (d ≡ x))
  -- each station that a link of v leads to is visited, or known to be no further than over it
  pub looked : (k u : ℕ) → Hop g k v u → Done final' u ⊎ Near tentative' u (x + delay g k)
  -- what was known is visited, or as near as it was or nearer
  pub kept : (u y : ℕ) → tentative u y → Done final' u ⊎ Near tentative' u y
  -- and a tentative delay is one from before, or comes over a link of v
  pub made : (u y : ℕ) → tentative' u y → tentative u y ⊎ ((k : ℕ) × Hop g k v u × (y ≡ x + delay g k))

-- from a known station a route leads on to v, and with the delay of that station it takes x at most
pub record Passes (g : Network) (tentative : ℕ → ℕ → Type 0) (v x : ℕ) : Type 0 where
  pub by : ℕ
  pub at : ℕ
  pub known : tentative by at
  pub rest : List ℕ
  pub on : Route g by rest v
  pub within : at + sum g rest ≤ x
