-- The settling walk as a relation between states. Take may hand over any item of the bucket; nothing else is left free.
use Rattle.std.specs.Prelude.{◌≡◌, ℕ, suc, ◌+◌, ◌-◌, ◌/◌, ◌^◌, ◌<◌, ◌≤◌, ◌≢◌, List, [], ◌∷◌, length, Some, None, Option}
use Rattle.network.specs.Network.{Network}
use Rattle.tree.specs.Tree.{Tree, Below, In}
use Rattle.walk.specs.declared.frame.Frame.{Frame}
use Rattle.walk.specs.State.{Shelf, Core, State, Changed, called, grown, counted, shelved}
use Rattle.walk.specs.Rules.{Belongs, Placed, Links, Call, Expand}

-- k widths of x, in widths of its parent p
abbrev pub coarse : Tree → ℕ → ℕ → ℕ → ℕ
coarse t x p k = k / 2 ^ (t.level p - t.level x)

-- x has an unvisited station
pub record Open (t : Tree) (final : ℕ → Option ℕ) (x : ℕ) : Type 0 where
  pub u : ℕ
  pub inside : In t u x
  pub unvisited : final u ≡ None

-- rule 5: the counter is still in the bucket of the parent in which it was as the visit began
abbrev pub Same : Tree → (ℕ → ℕ) → Frame → Type 0
Same t count f = (p : ℕ) → t.parent f.node ≡ Some p → coarse t f.node p (count f.node) ≡ f.began

-- rule 5: the visit goes on
pub record Going (t : Tree) (s : Core) (f : Frame) : Type 0 where
  pub more : Open t s.final f.node
  pub same : Same t s.count f

-- rule 5: the visit ends
pub data Ended (t : Tree) (s : Core) (f : Frame) : Type 0 where
  through : ¬ Open t s.final f.node → Ended t s f
  risen : (p : ℕ) → t.parent f.node ≡ Some p → coarse t f.node p (s.count f.node) ≢ f.began → Ended t s f

-- rule 4: the counter of x stands at its bucket k
pub record Now (s : Core) (x k : ℕ) : Type 0 where
  pub start : ℕ
  pub based : s.base x ≡ Some start
  pub spot : s.count x ≡ start + k

-- rule 4: take hands over c from that bucket
pub record Taken (t : Tree) (s : Core) (x c : ℕ) (h' : Shelf) : Type 0 where
  pub k : ℕ
  pub now : Now s x k
  pub item : s.shelf.bucket c ≡ Some (t.first x + k)
  pub off : Changed s.shelf.bucket c None h'.bucket
  pub puts : h'.puts ≡ s.shelf.puts

-- rules 4 and 6: the station v is taken and visited, and its links below number k are followed
pub record Visiting (g : Network) (t : Tree) (s : State) (v d k : ℕ) (s₁ : Core) : Type 0 where
  pub f : Frame
  pub fs : List Frame
  pub top : s.frames ≡ f ∷ fs
  pub going : Going t s.core f
  pub h' : Shelf
  pub taken : Taken t s.core f.node v h'
  pub station : v < t.stations
  pub final' : ℕ → Option ℕ
  pub so_far' : ℕ → Option ℕ
  pub call : Call s.core v d final' so_far'
  pub links : Links g t v d (called s.core final' so_far' h') k s₁

-- a visit to c begins
abbrev pub entered : State → ℕ → ℕ → (ℕ → Option ℕ) → (ℕ → ℕ) → Shelf → State
entered s c began base count shelf = record { core = grown s.core base count shelf; frames = record { node = c; began = began } ∷ s.frames }

-- the innermost visit is over
abbrev pub left : State → Shelf → List Frame → State
left s shelf frames = record { core = shelved s.core shelf; frames = frames }

pub data Step (g : Network) (t : Tree) (s : State) : State → Type 0 where
  -- rules 4 and 6: a station is taken and visited
  visit : (v d : ℕ) (s₁ : Core) → Visiting g t s v d (length g.rows) s₁ → Step g t s (record { core = s₁; frames = s.frames })
  -- rules 4 and 2: an inner node is taken and visited for the first time
  expand : (f : Frame) (fs : List Frame) (c d : ℕ) (h : Shelf) (base' : ℕ → Option ℕ) (count' : ℕ → ℕ) (h' : Shelf)
      → s.frames ≡ f ∷ fs → Going t s.core f → Taken t s.core f.node c h → t.stations ≤ c → s.core.base c ≡ None
      → Expand t s.core c d h base' count' h' → Step g t s (entered s c (coarse t c f.node (count' c)) base' count' h')
  -- rule 4: an inner node is taken and visited again
  again : (f : Frame) (fs : List Frame) (c β : ℕ) (h : Shelf)
      → s.frames ≡ f ∷ fs → Going t s.core f → Taken t s.core f.node c h → t.stations ≤ c → s.core.base c ≡ Some β
      → Step g t s (entered s c (coarse t c f.node (s.core.count c)) s.core.base s.core.count h)
  -- rule 4: the bucket is empty, and the counter rises by one
  rise : (f : Frame) (fs : List Frame) (k : ℕ) (count' : ℕ → ℕ)
      → s.frames ≡ f ∷ fs → Going t s.core f → Now s.core f.node k
      → ((c : ℕ) → s.core.shelf.bucket c ≢ Some (t.first f.node + k))
      → Changed s.core.count f.node (suc (s.core.count f.node)) count'
      → Step g t s (record { core = counted s.core count'; frames = s.frames })
  -- rules 5 and 4: the visit of a child ends, and it is put again by rule 3
  leave : (f : Frame) (fs : List Frame) (p : ℕ) (b : Option ℕ) (h' : Shelf)
      → s.frames ≡ f ∷ fs → Ended t s.core f → t.parent f.node ≡ Some p
      → Belongs t s.core.so_far s.core.base f.node b → Placed t f.node b s.core.shelf h' → Step g t s (left s h' fs)
  -- rule 5: the visit of the root ends
  end : (f : Frame) (fs : List Frame) → s.frames ≡ f ∷ fs → Ended t s.core f → t.parent f.node ≡ None → Step g t s (left s s.core.shelf fs)

-- rule 1: nothing is visited or expanded, nothing stands on the shelf, and the keeper has the source at 0 and no other station
pub record Blank (source : ℕ) (s : State) : Type 0 where
  pub final : (u : ℕ) → s.core.final u ≡ None
  pub so_far : Changed (λ (u : ℕ). None) source (Some 0) s.core.so_far
  pub base : (x : ℕ) → s.core.base x ≡ None
  pub count : (x : ℕ) → s.core.count x ≡ 0
  pub bucket : (c : ℕ) → s.core.shelf.bucket c ≡ None
  pub puts : s.core.shelf.puts ≡ 0
  pub frames : s.frames ≡ []

-- rule 1: the root that holds the source is visited
pub data Begin (g : Network) (t : Tree) (source : ℕ) (s : State) : State → Type 0 where
  -- it is the source itself
  alone : (final' so_far' : ℕ → Option ℕ) (s₁ : Core) → Blank source s → t.parent source ≡ None → Call s.core source 0 final' so_far'
      → Links g t source 0 (called s.core final' so_far' s.core.shelf) (length g.rows) s₁
      → Begin g t source s (record { core = s₁; frames = s.frames })
  -- it is an inner node
  root : (r d : ℕ) (base' : ℕ → Option ℕ) (count' : ℕ → ℕ) (h' : Shelf) → Blank source s → t.stations ≤ r → Below t source r → t.parent r ≡ None
      → Expand t s.core r d s.core.shelf base' count' h' → Begin g t source s (entered s r 0 base' count' h')

-- the states that a walk from the source comes to, each with the number of its steps
pub data Walk (g : Network) (t : Tree) (source : ℕ) : ℕ → State → Type 0 where
  begin : {s s₁ : State} → Begin g t source s s₁ → Walk g t source 0 s₁
  then : {k : ℕ} {s s₁ : State} → Walk g t source k s → Step g t s s₁ → Walk g t source (suc k) s₁
