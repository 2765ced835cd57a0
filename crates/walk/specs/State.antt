-- What a settling walk has in hand.
use Rattle.std.specs.Prelude.{◌≡◌, ℕ, ◌≢◌, List, Option}
use Rattle.walk.specs.declared.frame.Frame.{Frame}

-- the shelf (a bucket queue): of each node the bucket in which it stands, if in any, and how often an item was put
pub record Shelf : Type 0 where
  pub bucket : ℕ → Option ℕ
  pub puts : ℕ

-- all but the visits under way
pub record Core : Type 0 where
  -- by station: its delay, once it is visited
  pub final : ℕ → Option ℕ
  -- by station: the keeper's delay, the least sum of a route found so far; none once it is visited
  pub so_far : ℕ → Option ℕ
  -- by inner node: its base, once it is expanded, and its counter
  pub base : ℕ → Option ℕ
  pub count : ℕ → ℕ
  pub shelf : Shelf

-- the visits under way stand innermost first
pub record State : Type 0 where
  pub core : Core
  pub frames : List Frame

-- f' is f but for its value x at v
pub record Changed {A : Type 0} (f : ℕ → A) (v : ℕ) (x : A) (f' : ℕ → A) : Type 0 where
  pub at : f' v ≡ x
  pub off : (u : ℕ) → u ≢ v → f' u ≡ f u

-- what each kind of step may change

-- a station is lowered, and a node moved
abbrev pub lowered : Core → (ℕ → Option ℕ) → Shelf → Core
lowered s so_far shelf = record { final = s.final; so_far = so_far; base = s.base; count = s.count; shelf = shelf }

-- a station becomes final
abbrev pub called : Core → (ℕ → Option ℕ) → (ℕ → Option ℕ) → Shelf → Core
called s final so_far shelf = record { final = final; so_far = so_far; base = s.base; count = s.count; shelf = shelf }

-- a node is expanded
abbrev pub grown : Core → (ℕ → Option ℕ) → (ℕ → ℕ) → Shelf → Core
grown s base count shelf = record { final = s.final; so_far = s.so_far; base = base; count = count; shelf = shelf }

-- a counter rises
abbrev pub counted : Core → (ℕ → ℕ) → Core
counted s count = record { final = s.final; so_far = s.so_far; base = s.base; count = count; shelf = s.shelf }

-- an item is put or taken
abbrev pub shelved : Core → Shelf → Core
shelved s shelf = record { final = s.final; so_far = s.so_far; base = s.base; count = s.count; shelf = shelf }
