-- What a walk may rely on before it acts: what code that walks has to know.
use Rattle.std.specs.Prelude.{◌≡◌, ℕ, ◌+◌, ◌/◌, ◌<◌, ◌≤◌, length, Some, None, Option}
use Rattle.network.specs.Network.{Network, Hop, delay}
use Rattle.tree.specs.Tree.{Tree, Inner, width}
use Rattle.walk.specs.declared.frame.Frame.{Frame}
use Rattle.walk.specs.State.{Core, Changed}
use Rattle.walk.specs.Rules.{Lowest, Nothing, Front, Links}
use Rattle.walk.specs.Steps.{Open, Now}

-- the parent of c is expanded, and the least of c is not below its base: so it can be told where c belongs
pub record Ready (t : Tree) (so_far base : ℕ → Option ℕ) (c : ℕ) : Type 0 where
  pub x : ℕ
  pub parent : t.parent c ≡ Some x
  pub start : ℕ
  pub based : base x ≡ Some start
  pub above : (d : ℕ) → Lowest t so_far c d → start ≤ d / width t x

-- some unexpanded node holds u and has an expanded parent
pub record Fronted (t : Tree) (base : ℕ → Option ℕ) (u : ℕ) : Type 0 where
  pub c : ℕ
  pub front : Front t base u c

-- the link k of the station v, whose delay is d, can be followed
pub record Apt (g : Network) (t : Tree) (s : Core) (v d k : ℕ) : Type 0 where
  pub visited : s.final v ≡ Some d
  pub few : s.shelf.puts < 65535
  pub shut : (u : ℕ) → u < t.stations → s.base u ≡ None
  pub front : (u : ℕ) → Hop g k v u → s.final u ≡ None → Fronted t s.base u
  pub ready : (u c : ℕ) (so_far' : ℕ → Option ℕ) → Hop g k v u → s.final u ≡ None
      → Changed s.so_far u (Some (d + delay g k)) so_far' → Front t s.base u c → Ready t so_far' s.base c

-- each link of v can be followed in its turn
abbrev pub Safe : Network → Tree → Core → ℕ → ℕ → Type 0
Safe g t s v d = (k : ℕ) (s₁ : Core) → Links g t v d s k s₁ → Apt g t s₁ v d k

-- c stands in the bucket k of x, at which the counter of x is
pub record DueNow (t : Tree) (s : Core) (x c : ℕ) : Type 0 where
  pub k : ℕ
  pub now : Now s x k
  pub item : s.shelf.bucket c ≡ Some (t.first x + k)

-- a step can be taken from s, whose innermost visit is f, a visit of the expanded node x = f.node
pub record Able (t : Tree) (s : Core) (f : Frame) : Type 0 where
  pub inner : Inner t f.node
  pub start : ℕ
  pub based : s.base f.node ≡ Some start
  -- the keeper knows unvisited stations only, and if it knows none of x, then x has no unvisited station
  pub fresh : (u y : ℕ) → s.so_far u ≡ Some y → s.final u ≡ None
  pub done : Nothing t s.so_far f.node → ¬ Open t s.final f.node
  -- the counter is at a bucket of x
  pub from : start ≤ s.count f.node
  pub within : Open t s.final f.node → s.count f.node < start + t.buckets f.node
  -- x stands nowhere, and can be put where it belongs
  pub free : s.shelf.bucket f.node ≡ None
  pub ready : (p : ℕ) → t.parent f.node ≡ Some p → Ready t s.so_far s.base f.node
  pub few : s.shelf.puts < 65535
  -- what take hands over is a child of x with a least
  pub child : (c : ℕ) → Open t s.final f.node → DueNow t s f.node c → t.parent c ≡ Some f.node
  pub known : (c : ℕ) → Open t s.final f.node → DueNow t s f.node c → ¬ Nothing t s.so_far c
  -- the children of an unexpanded node stand nowhere, and there is room to put them all
  pub kids_free : (x c : ℕ) → s.base x ≡ None → t.parent c ≡ Some x → s.shelf.bucket c ≡ None
  pub kids_few : (x : ℕ) → s.base x ≡ None → s.shelf.puts + length (t.children x) ≤ 65535
