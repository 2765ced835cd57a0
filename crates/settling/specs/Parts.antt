-- What the parts of a step ask of each other, and what they promise.
use Rattle.std.specs.Prelude.{◌≡◌, ℕ, ◌+◌, ◌<◌, ◌≤◌, ◌≢◌, length, Some, None, Option}
use Rattle.tree.specs.Tree.{Tree, Among, Distinct}
use Rattle.walk.specs.State.{Shelf, Core, grown}
use Rattle.walk.specs.Rules.{Nothing, Expand}
use Rattle.walk.specs.Steps.{Open, Now}

-- the children of x can be put: each is listed once, stands nowhere, and there is room in the shelf's count
pub record Kids (t : Tree) (x : ℕ) (h : Shelf) : Type 0 where
  pub child : (c : ℕ) → Among c (t.children x) → t.parent c ≡ Some x
  pub once : Distinct (t.children x)
  pub free : (c : ℕ) → t.parent c ≡ Some x → h.bucket c ≡ None
  pub few : h.puts + length (t.children x) ≤ 65535

-- x was expanded: rule 2
pub record Grown (t : Tree) (x : ℕ) (s s' : Core) : Type 0 where
  pub d : ℕ
  pub expand : Expand t s x d s.shelf s'.base s'.count s'.shelf
  pub rest : s' ≡ grown s s'.base s'.count s'.shelf

-- the keeper knows unvisited stations only, and if it knows none of x, then x has no unvisited station
pub record Watch (t : Tree) (final so_far : ℕ → Option ℕ) (x : ℕ) : Type 0 where
  pub fresh : (u y : ℕ) → so_far u ≡ Some y → final u ≡ None
  pub done : Nothing t so_far x → ¬ Open t final x

-- the counter of x is at one of its buckets
pub record Counting (t : Tree) (s : Core) (x : ℕ) : Type 0 where
  pub start : ℕ
  pub based : s.base x ≡ Some start
  pub from : start ≤ s.count x
  pub within : s.count x < start + t.buckets x

-- that bucket was found empty
pub record FoundEmpty (t : Tree) (s : Core) (x : ℕ) (h' : Shelf) : Type 0 where
  pub k : ℕ
  pub now : Now s x k
  pub bare : (c : ℕ) → s.shelf.bucket c ≢ Some (t.first x + k)
  pub same : h' ≡ s.shelf
