-- What holds of the walk between its steps; all but Looked and Over also between two links.
use Rattle.std.proofs.Common.{◌≡◌, ℕ, ◌+◌, ◌*◌, ◌<◌, ◌≤◌, ◌≢◌, ◌⊎◌, List, [], ◌∷◌, Some, None, Option}
use Rattle.network.specs.Network.{Network, Route, Hop, Attained, Least, sum, delay}
use Rattle.tree.specs.Tree.{Tree, Below, In, Inner, width}
use Rattle.walk.specs.declared.frame.Frame.{Frame}
use Rattle.walk.specs.State.{Core, State}
use Rattle.walk.specs.Rules.{Belongs, Slot}
use Rattle.walk.specs.Steps.{Open, Same, coarse}

-- x has a frame
abbrev pub On : List Frame → ℕ → Type 0
On [] x = ⊥
On (f ∷ fs) x = (x ≡ f.node) ⊎ On fs x

-- x is expanded
pub record Expanded (base : ℕ → Option ℕ) (x : ℕ) : Type 0 where
  pub start : ℕ
  pub based : base x ≡ Some start

-- the line at which the counter of x stands
abbrev pub line : Tree → (ℕ → ℕ) → ℕ → ℕ
line t count x = count x * width t x

-- a delay of the keeper is that of some route to an unvisited station
pub record Found (g : Network) (t : Tree) (src : ℕ) (final : ℕ → Option ℕ) (u y : ℕ) : Type 0 where
  pub station : u < t.stations
  pub unvisited : final u ≡ None
  pub attained : Attained g src u y

-- the keeper knows u, at d or nearer
pub record Known (so_far : ℕ → Option ℕ) (u d : ℕ) : Type 0 where
  pub y : ℕ
  pub known : so_far u ≡ Some y
  pub near : y ≤ d

-- delays: a final one is least, one of the keeper is that of a route, and the source is known from the start
pub record Delays (g : Network) (t : Tree) (src : ℕ) (final so_far : ℕ → Option ℕ) : Type 0 where
  pub exact : (w d : ℕ) → final w ≡ Some d → Least g src w d
  pub found : (u y : ℕ) → so_far u ≡ Some y → Found g t src final u y
  pub start : (final src ≡ Some 0) ⊎ (so_far src ≡ Some 0)

-- the expanded nodes are inner nodes, and all that hold an expanded node or a visited station
pub record Grown (t : Tree) (final base : ℕ → Option ℕ) : Type 0 where
  pub inner : (x β : ℕ) → base x ≡ Some β → Inner t x
  pub entered : (w d p : ℕ) → final w ≡ Some d → t.parent w ≡ Some p → Expanded base p
  pub upward : (x β p : ℕ) → base x ≡ Some β → t.parent x ≡ Some p → Expanded base p

-- some station of x was in the first bucket of x, whose base is β, as x was expanded
pub record Early (t : Tree) (final so_far : ℕ → Option ℕ) (x β : ℕ) : Type 0 where
  pub at : ℕ
  pub inside : In t at x
  pub d : ℕ
  pub seen : (final at ≡ Some d) ⊎ (so_far at ≡ Some d)
  pub early : d < β * width t x + width t x

-- lim x is the line of x or, while a visit of x goes on, the next one: whatever is visited in x comes before it
pub record Limits (g : Network) (t : Tree) (src : ℕ) (final base : ℕ → Option ℕ) (count lim : ℕ → ℕ) : Type 0 where
  pub floor : (x β : ℕ) → base x ≡ Some β → line t count x ≤ lim x
  pub cap : (x β : ℕ) → base x ≡ Some β → lim x ≤ line t count x + width t x
  pub later : (x β : ℕ) → base x ≡ Some β → β * width t x + width t x ≤ lim x
  pub nested : (x β p : ℕ) → base x ≡ Some β → Open t final x → t.parent x ≡ Some p → lim x ≤ lim p
  pub passed : (x β w d : ℕ) → base x ≡ Some β → Open t final x → In t w x → final w ≡ Some d → d < lim x
  -- no route to an unvisited station of x is shorter than its line
  pub far : (x β u : ℕ) (ks : List ℕ) → base x ≡ Some β → In t u x → final u ≡ None → Route g src ks u → line t count x ≤ sum g ks
  pub room : (x β : ℕ) → base x ≡ Some β → count x ≤ β + t.buckets x

-- why c stands in b
pub data Standing (t : Tree) (s : Core) (fs : List Frame) (lim : ℕ → ℕ) (c : ℕ) (b : Option ℕ) : Type 0 where
  -- it has no expanded parent
  loose : ((p : ℕ) → t.parent c ≡ Some p → s.base p ≡ None) → b ≡ None → Standing t s fs lim c b
  -- its parent is expanded, but not it: it is where it belongs
  fresh : (p β : ℕ) → t.parent c ≡ Some p → s.base p ≡ Some β → s.base c ≡ None → Belongs t s.so_far s.base c b → Standing t s fs lim c b
  -- it is being visited
  visiting : On fs c → b ≡ None → Standing t s fs lim c b
  -- all of it is visited
  through : Expanded s.base c → ¬ Open t s.final c → b ≡ None → Standing t s fs lim c b
  -- it is expanded, and waits: its counter stands at a line of its parent's, not behind, and it in that bucket
  waiting : (p β γ k : ℕ) → t.parent c ≡ Some p → s.base p ≡ Some β → s.base c ≡ Some γ → ¬ On fs c → Open t s.final c
      → (β + k) * width t p ≡ line t s.count c → s.count p ≤ β + k → lim c ≡ line t s.count c → Slot t p k b → Standing t s fs lim c b

-- the frames: a node, its parent and so on up to the root of the source, each visit below the top still in the bucket in which it began
pub data Stack (t : Tree) (src : ℕ) (base : ℕ → Option ℕ) (count lim : ℕ → ℕ) : List Frame → Type 0 where
  empty : Stack t src base count lim []
  bottom : (f : Frame) → Expanded base f.node → t.parent f.node ≡ None → Below t src f.node → Stack t src base count lim (f ∷ [])
  above : (f h : Frame) (fs : List Frame) → Expanded base f.node → t.parent f.node ≡ Some h.node → f.began ≡ count h.node
      → Same t count h → lim h.node ≡ line t count h.node + width t h.node
      → Stack t src base count lim (h ∷ fs) → Stack t src base count lim (f ∷ h ∷ fs)

-- the innermost visit: it goes on, or its counter has just come to the limit of the parent
pub record Top (t : Tree) (count lim : ℕ → ℕ) (f : Frame) : Type 0 where
  pub same : Same t count f → lim f.node ≡ line t count f.node + width t f.node
  pub risen : (p : ℕ) → t.parent f.node ≡ Some p → coarse t f.node p (count f.node) ≢ f.began
      → (lim f.node ≡ line t count f.node) × (lim f.node ≡ lim p)

pub record Facts (g : Network) (t : Tree) (src : ℕ) (s : Core) (fs : List Frame) (lim : ℕ → ℕ) : Type 0 where
  pub delays : Delays g t src s.final s.so_far
  pub grown : Grown t s.final s.base
  pub early : (x β : ℕ) → s.base x ≡ Some β → Early t s.final s.so_far x β
  pub limits : Limits g t src s.final s.base s.count lim
  pub stands : (c : ℕ) → Standing t s fs lim c (s.shelf.bucket c)
  pub stack : Stack t src s.base s.count lim fs
  pub top : (f : Frame) (gs : List Frame) → fs ≡ f ∷ gs → Top t s.count lim f

-- every link from a visited station to an unvisited one has been followed, but for those of v from number k on
abbrev pub LookedTo : Network → (ℕ → Option ℕ) → (ℕ → Option ℕ) → ℕ → ℕ → Type 0
LookedTo g final so_far v k = (w d u j : ℕ) → final w ≡ Some d → final u ≡ None → Hop g j w u → (w ≡ v → j < k) → Known so_far u (d + delay g j)

abbrev pub Looked : Network → (ℕ → Option ℕ) → (ℕ → Option ℕ) → Type 0
Looked g final so_far = (w d u j : ℕ) → final w ≡ Some d → final u ≡ None → Hop g j w u → Known so_far u (d + delay g j)

-- once no visit is under way, all of the source's root is visited
abbrev pub Over : Tree → ℕ → (ℕ → Option ℕ) → List Frame → Type 0
Over t src final fs = fs ≡ [] → (r : ℕ) → t.parent r ≡ None → Below t src r → ¬ Open t final r

pub record Inv (g : Network) (t : Tree) (src : ℕ) (s : State) : Type 0 where
  pub lim : ℕ → ℕ
  pub facts : Facts g t src s.core s.frames lim
  pub looked : Looked g s.core.final s.core.so_far
  pub over : Over t src s.core.final s.frames
