-- The parts of the walk's rules: where a child belongs, how it is put there, what a visited station does.
use Rattle.std.specs.Prelude.{◌≡◌, ℕ, suc, ◌+◌, ◌/◌, ◌<◌, ◌≤◌, ◌≢◌, List, [], ◌∷◌, Some, None, Option}
use Rattle.network.specs.Network.{Network, Hop, delay}
use Rattle.tree.specs.Tree.{Tree, Below, In, width, buckets_in_all}
use Rattle.walk.specs.State.{Shelf, Core, Changed, lowered}

-- the least of the node x is d: the smallest delay that the keeper has of its stations
pub record Lowest (t : Tree) (so_far : ℕ → Option ℕ) (x d : ℕ) : Type 0 where
  pub at : ℕ
  pub inside : In t at x
  pub known : so_far at ≡ Some d
  pub least : (u y : ℕ) → In t u x → so_far u ≡ Some y → d ≤ y

-- x has no least
abbrev pub Nothing : Tree → (ℕ → Option ℕ) → ℕ → Type 0
Nothing t so_far x = (u : ℕ) → In t u x → so_far u ≡ None

-- rule 3: x, the parent of c, is expanded, and the least of c falls into its bucket k: measured in the width of x, not of c
pub record Falls (t : Tree) (so_far base : ℕ → Option ℕ) (c x k : ℕ) : Type 0 where
  pub parent : t.parent c ≡ Some x
  pub start : ℕ
  pub based : base x ≡ Some start
  pub least : ℕ
  pub lowest : Lowest t so_far c least
  pub spot : least / width t x ≡ start + k

-- rule 3: the bucket k of x, counted from its first; past the last: nowhere
pub data Slot (t : Tree) (x k : ℕ) (b : Option ℕ) : Type 0 where
  within : k < t.buckets x → b ≡ Some (t.first x + k) → Slot t x k b
  past : t.buckets x ≤ k → b ≡ None → Slot t x k b

-- rule 3: c belongs in the bucket b, or nowhere
pub data Belongs (t : Tree) (so_far base : ℕ → Option ℕ) (c : ℕ) (b : Option ℕ) : Type 0 where
  falls : (x k : ℕ) → Falls t so_far base c x k → Slot t x k b → Belongs t so_far base c b
  unknown : Nothing t so_far c → b ≡ None → Belongs t so_far base c b

-- the shelf does not refuse to put c, which stands nowhere, into the bucket b: both exist, and it was put on less than 65,535 times
pub record Granted (t : Tree) (puts c b : ℕ) : Type 0 where
  pub item : c < t.nodes
  pub bucket : b < buckets_in_all t
  pub few : puts < 65535

-- what it adds to the count to put c, which stands nowhere, into b
pub data Counted (t : Tree) (c : ℕ) (b : Option ℕ) (puts puts' : ℕ) : Type 0 where
  nothing : b ≡ None → puts' ≡ puts → Counted t c b puts puts'
  one : (k : ℕ) → b ≡ Some k → Granted t puts c k → puts' ≡ suc puts → Counted t c b puts puts'

-- rules 2 and 4: c stands nowhere, and is put into b
pub record Placed (t : Tree) (c : ℕ) (b : Option ℕ) (h h' : Shelf) : Type 0 where
  pub free : h.bucket c ≡ None
  pub set : Changed h.bucket c b h'.bucket
  pub counted : Counted t c b h.puts h'.puts

-- rule 6: c is moved to b, unless it is there; a move is one put more, and none if it ends nowhere
pub data Moved (t : Tree) (c : ℕ) (b : Option ℕ) (h h' : Shelf) : Type 0 where
  there : h.bucket c ≡ b → h' ≡ h → Moved t c b h h'
  moved : h.bucket c ≢ b → Changed h.bucket c b h'.bucket → Counted t c b h.puts h'.puts → Moved t c b h h'

-- rule 6: the one unexpanded node that holds u and whose parent is expanded
pub record Front (t : Tree) (base : ℕ → Option ℕ) (u c : ℕ) : Type 0 where
  pub holds : Below t u c
  pub shut : base c ≡ None
  pub x : ℕ
  pub parent : t.parent c ≡ Some x
  pub start : ℕ
  pub based : base x ≡ Some start

-- rule 6: the link k of the station v, whose delay is d
pub data Link (g : Network) (t : Tree) (v d k : ℕ) (s : Core) : Core → Type 0 where
  -- it is not in service, or no link of v, or leads to a visited station
  skip : ((u : ℕ) → Hop g k v u → s.final u ≢ None) → Link g t v d k s s
  -- it leads to an unvisited station that is as near already
  keep : (u y : ℕ) → Hop g k v u → s.final u ≡ None → s.so_far u ≡ Some y → y ≤ d + delay g k → Link g t v d k s s
  -- it lowers an unvisited station
  lower : (u c : ℕ) (b : Option ℕ) (so_far' : ℕ → Option ℕ) (h' : Shelf) → Hop g k v u → s.final u ≡ None
      → ((y : ℕ) → s.so_far u ≡ Some y → d + delay g k < y) → Changed s.so_far u (Some (d + delay g k)) so_far'
      → Front t s.base u c → Belongs t so_far' s.base c b → Moved t c b s.shelf h'
      → Link g t v d k s (lowered s so_far' h')

-- rule 6: the links of v below number k, in their order
pub data Links (g : Network) (t : Tree) (v d : ℕ) (s : Core) : ℕ → Core → Type 0 where
  begun : Links g t v d s 0 s
  next : {k : ℕ} {s₁ s₂ : Core} → Links g t v d s k s₁ → Link g t v d k s₁ s₂ → Links g t v d s (suc k) s₂

-- rule 6: the least of the station v becomes final, and its place is retired
pub record Call (s : Core) (v d : ℕ) (final' so_far' : ℕ → Option ℕ) : Type 0 where
  pub known : s.so_far v ≡ Some d
  pub final : Changed s.final v (Some d) final'
  pub so_far : Changed s.so_far v None so_far'

-- rule 2: the children cs are put by rule 3, one after the other
pub data Puts (t : Tree) (so_far base : ℕ → Option ℕ) : List ℕ → Shelf → Shelf → Type 0 where
  done : {h : Shelf} → Puts t so_far base [] h h
  put : {c : ℕ} {cs : List ℕ} {h h₁ h₂ : Shelf} (b : Option ℕ)
      → Belongs t so_far base c b → Placed t c b h h₁ → Puts t so_far base cs h₁ h₂ → Puts t so_far base (c ∷ cs) h h₂

-- rule 2: x is expanded; d is its least
pub record Expand (t : Tree) (s : Core) (x d : ℕ) (h : Shelf) (base' : ℕ → Option ℕ) (count' : ℕ → ℕ) (h' : Shelf) : Type 0 where
  pub lowest : Lowest t s.so_far x d
  pub base : Changed s.base x (Some (d / width t x)) base'
  pub count : Changed s.count x (d / width t x) count'
  pub puts : Puts t s.so_far base' (t.children x) h h'
