-- A network of relay stations, the routes over its links in service, and the words that answers are said in.
use Rattle.std.specs.Prelude.{◌≡◌, ℕ, ◌+◌, ◌^◌, ◌<◌, ◌≤◌, Bool, true, false, ◌⊎◌, List, [], ◌∷◌, length, slice_index_or}
use Rattle.network.specs.declared.row.Row.{Row}
use Rattle.network.specs.Rows.{Sound}

-- the stations are the numbers below `stations`; the link k is the row k, and `service` says whether it is in service
pub record Network : Type 0 where
  pub stations : ℕ
  pub rows : List Row
  pub service : List Bool

-- what stands past the last row
abbrev pub no_row : Row
no_row = record { from = 0; to = 0; ns = 0 }

abbrev pub row : Network → ℕ → Row
row g k = slice_index_or g.rows k no_row

-- how many nanoseconds the link k takes
abbrev pub delay : Network → ℕ → ℕ
delay g k = (row g k).ns

-- every row describes a link between two stations
abbrev pub Proper : Network → Type 0
Proper g = (k : ℕ) → k < length g.rows → Sound g.stations (row g k)

-- the link k is in service and leads from a to b: a link works either way
pub record Hop (g : Network) (k a b : ℕ) : Type 0 where
  pub listed : k < length g.rows
  pub up : slice_index_or g.service k false ≡ true
  pub ends : (((row g k).from ≡ a) × ((row g k).to ≡ b)) ⊎ (((row g k).from ≡ b) × ((row g k).to ≡ a))

-- the links ks, all in service, lead from one station to another, each from where the one before it ended
pub data Route (g : Network) : ℕ → List ℕ → ℕ → Type 0 where
  here : {a : ℕ} → Route g a [] a
  step : {a b c k : ℕ} {ks : List ℕ} → Hop g k a b → Route g b ks c → Route g a (k ∷ ks) c

-- the sum of a route: how long its links take together
abbrev pub sum : Network → List ℕ → ℕ
sum g [] = 0
sum g (k ∷ ks) = delay g k + sum g ks

-- no route in service joins a and b
abbrev pub NoRoute : Network → ℕ → ℕ → Type 0
NoRoute g a b = (ks : List ℕ) → ¬ Route g a ks b

-- some route from a to b has the sum d
pub record Attained (g : Network) (a b d : ℕ) : Type 0 where
  pub links : List ℕ
  pub route : Route g a links b
  pub total : sum g links ≡ d

-- d is the least delay from a to b: some route attains it, and none is below
pub record Least (g : Network) (a b d : ℕ) : Type 0 where
  pub attained : Attained g a b d
  pub least : (ks : List ℕ) → Route g a ks b → d ≤ sum g ks

-- each of the links ks is such a link
pub data Each (such : ℕ → Type 0) : List ℕ → Type 0 where
  none : Each such []
  and : {k : ℕ} {ks : List ℕ} → such k → Each such ks → Each such (k ∷ ks)

-- some route from a to b goes over such links only
pub record Joined (g : Network) (such : ℕ → Type 0) (a b : ℕ) : Type 0 where
  pub links : List ℕ
  pub route : Route g a links b
  pub each : Each such links

-- the link k takes less than 2 ^ i: its level is i or less
pub record Small (g : Network) (i k : ℕ) : Type 0 where
  pub under : delay g k < 2 ^ i

-- some route from a to b has every link under 2 ^ i
abbrev pub Under : Network → ℕ → ℕ → ℕ → Type 0
Under g i a b = Joined g (Small g i) a b

-- a group at level i: a largest set of stations that routes with every link under 2 ^ i connect
pub record Group (g : Network) (i : ℕ) (inside : ℕ → Type 0) : Type 0 where
  pub member : ℕ
  pub inhabited : inside member
  pub stations : (a : ℕ) → inside a → a < g.stations
  pub connected : (a b : ℕ) → inside a → inside b → Under g i a b
  pub largest : (a b : ℕ) → inside a → b < g.stations → Under g i a b → inside b

-- the joint level of a and b: the smallest i, from 0, for which some route between the two has every link under 2 ^ i
pub record Joint (g : Network) (a b i : ℕ) : Type 0 where
  pub joined : Under g i a b
  pub smallest : (j : ℕ) → Under g j a b → i ≤ j
