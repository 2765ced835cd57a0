-- What every settling walk yields, whatever its takes hand over.
use Rattle.std.specs.Prelude.{◌≡◌, ℕ, ◌+◌, ◌*◌, ◌<◌, ◌≤◌, false, cond, ◌⊎◌, List, [], ◌∷◌, length, Some, None, Option, slice_index_or}
use Rattle.network.specs.Network.{Network, Least, NoRoute}
use Rattle.tree.specs.Totals.{total}
use Rattle.tree.specs.Tree.{Tree, Fits, Sized}
use Rattle.walk.specs.declared.frame.Frame.{Frame}
use Rattle.walk.specs.State.{Shelf, Core, State}
use Rattle.walk.specs.Steps.{Going, Taken, Visiting, Begin, Step, visit, expand, again, rise, leave, end, Walk}
use Rattle.walk.specs.Able.{Able, Apt}

-- a tree of the network, and a source
pub record Given (g : Network) (t : Tree) (source : ℕ) : Type 0 where
  pub fits : Fits g t
  pub sized : Sized t
  pub station : source < t.stations

-- how many links are in service
abbrev pub in_service : Network → ℕ
in_service g = total (λ k. cond (slice_index_or g.service k false) 1 0) (length g.rows)

-- the most moves that a walk makes
abbrev pub most_moves : Network → Tree → ℕ
most_moves g t = 8 * t.stations + in_service g

abbrev pub one_if : Option ℕ → ℕ
one_if None = 0
one_if (Some d) = 1

-- how many stations are visited
abbrev pub reached : Tree → State → ℕ
reached t s = total (λ v. one_if (s.core.final v)) t.stations

-- a run: a walk that has come to its end
pub record Run (g : Network) (t : Tree) (source : ℕ) (s : State) : Type 0 where
  pub steps : ℕ
  pub walk : Walk g t source steps s
  pub over : s.frames ≡ []

-- its stations are visited at their least delays, a station that is not visited has no route, and keeper and shelf are empty
pub record Settled (g : Network) (source : ℕ) (s : State) : Type 0 where
  pub least : (v d : ℕ) → s.core.final v ≡ Some d → Least g source v d
  pub no_route : (v : ℕ) → s.core.final v ≡ None → NoRoute g source v
  pub keeper : (u : ℕ) → s.core.so_far u ≡ None
  pub shelf : (c : ℕ) → s.core.shelf.bucket c ≡ None

abbrev pub EveryRunSettles : Type 0
EveryRunSettles = (g : Network) (t : Tree) (source : ℕ) (s : State) → Given g t source → Run g t source s → Settled g source s

-- the moves of a walk are few at each of its states, and between any two links of a station that it visits
pub record FewMoves (g : Network) (t : Tree) (s : State) : Type 0 where
  pub here : s.core.shelf.puts ≤ most_moves g t
  pub between : (v d k : ℕ) (s₁ : Core) → Visiting g t s v d k s₁ → s₁.shelf.puts ≤ most_moves g t

abbrev pub EveryWalkMovesLittle : Type 0
EveryWalkMovesLittle = (g : Network) (t : Tree) (source k : ℕ) (s : State) → Given g t source → Walk g t source k s → FewMoves g t s

-- and no fewer than it has visited stations, where those are two or more
abbrev pub EveryWalkMovesEnough : Type 0
EveryWalkMovesEnough = (g : Network) (t : Tree) (source k : ℕ) (s : State) → Given g t source → Walk g t source k s
    → 2 ≤ reached t s → reached t s ≤ s.core.shelf.puts

-- no walk is endless: it has no more steps than this
abbrev pub EveryWalkEnds : Type 0
EveryWalkEnds = (g : Network) (t : Tree) (source k : ℕ) (s : State) → Given g t source → Walk g t source k s → k ≤ 22 * t.stations + 2 * in_service g

-- the item that a step takes
abbrev pub item_of : {g : Network} {t : Tree} {s s₁ : State} → Step g t s s₁ → Option ℕ
item_of (visit v d s₁ vis) = Some v
item_of (expand f fs c d h base' count' h' top going taken inner shut ex) = Some c
item_of (again f fs c β h top going taken inner based) = Some c
item_of (rise f fs k count' top going now bare set) = None
item_of (leave f fs p b h' top ended parent belongs placed) = None
item_of (end f fs top ended root) = None

-- the state s has a next one
pub record Next (g : Network) (t : Tree) (s : State) : Type 0 where
  pub to : State
  pub step : Step g t s to

-- it has one by taking c
pub record NextBy (g : Network) (t : Tree) (s : State) (c : ℕ) : Type 0 where
  pub next : Next g t s
  pub item : item_of next.step ≡ Some c

-- a walk is at its end or has a next step, and whatever take hands over, it goes on with that: no put in between is refused
pub record GoesOn (g : Network) (t : Tree) (s : State) : Type 0 where
  pub here : (s.frames ≡ []) ⊎ Next g t s
  pub taking : (f : Frame) (fs : List Frame) (c : ℕ) (h : Shelf) → s.frames ≡ f ∷ fs
      → Going t s.core f → Taken t s.core f.node c h → NextBy g t s c

abbrev pub EveryWalkGoesOn : Type 0
EveryWalkGoesOn = (g : Network) (t : Tree) (source k : ℕ) (s : State) → Given g t source → most_moves g t < 65535
    → Walk g t source k s → GoesOn g t s

pub record RunsTo (g : Network) (t : Tree) (source : ℕ) : Type 0 where
  pub state : State
  pub run : Run g t source state

-- there is a run from every source
abbrev pub EverySourceHasARun : Type 0
EverySourceHasARun = (g : Network) (t : Tree) (source : ℕ) → Given g t source → most_moves g t < 65535 → RunsTo g t source

-- the walk has no freedom but what take hands over: it starts in one way, and two steps from a state that take the same item,
-- or none, lead to the same state
pub record OneWay (g : Network) (t : Tree) (source : ℕ) : Type 0 where
  pub start : (s s' s₁ s₂ : State) → Begin g t source s s₁ → Begin g t source s' s₂ → s₁ ≡ s₂
  pub step : (k : ℕ) (s s₁ s₂ : State) → Walk g t source k s → (p : Step g t s s₁) (q : Step g t s s₂) → item_of p ≡ item_of q → s₁ ≡ s₂

abbrev pub TakeAloneIsFree : Type 0
TakeAloneIsFree = (g : Network) (t : Tree) (source : ℕ) → Given g t source → OneWay g t source

-- what a walk may rely on as it goes on: before each step, and before it follows each link of a station that it visits
pub record Relies (g : Network) (t : Tree) (s : State) : Type 0 where
  pub able : (f : Frame) (fs : List Frame) → s.frames ≡ f ∷ fs → Able t s.core f
  pub apt : (v d k : ℕ) (s₁ : Core) → Visiting g t s v d k s₁ → Apt g t s₁ v d k

abbrev pub EveryWalkIsAble : Type 0
EveryWalkIsAble = (g : Network) (t : Tree) (source k : ℕ) (s : State) → Given g t source → most_moves g t < 65535
    → Walk g t source k s → Relies g t s
