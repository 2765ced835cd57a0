-- What stands in memory while the links are looked at.
use Rattle.std.specs.Prelude.{◌≡◌, ℕ, ◌+◌, ◌<◌, ◌≤◌, ◌≢◌, List, length}
use Rattle.network.specs.declared.row.Row.{Row}
use Rattle.network.specs.Network.{Network, Proper}
use Rattle.network.specs.Laws.{Bounded}
use Rattle.tree.proofs.Growing.{Grouped}
use Rattle.tree.proofs.Making.{Part}
use Rattle.tree.proofs.Marks.{Merged}
use Rattle.making.specs.declared.groups.Member.{Member}
use Rattle.making.specs.Members.{label_of, before_of, sum_of}

-- what is asked of a network: rows that describe links, and not too many of them, so that every sum of delays fits
pub record Fit (g : Network) : Type 0 where
  pub proper : Proper g
  pub bounded : Bounded g
  pub few : length g.rows ≤ 2048
  pub marked : length g.service ≡ length g.rows

-- the links `seen` have been looked at: the label of a station is the lowest station of its group, and the sum of a label is how long the
-- joining links inside its group take together
pub record Grown (g : Network) (seen : ℕ → Type 0) (members : List Member) : Type 0 where
  pub all : length members ≡ g.stations
  pub joins : List ℕ
  pub grouped : Grouped g seen (label_of members) joins
  pub low : (u : ℕ) → label_of members u ≤ u
  pub self : (u : ℕ) → label_of members (label_of members u) ≡ label_of members u
  pub part : (s : ℕ) → label_of members s ≡ s → Part g (label_of members) joins s (sum_of members s)

-- the group lo has taken in the group hi by a link of ns: the labels hi have become lo, and its sum is all that both had, and the link
pub record TakenIn (members : List Member) (lo hi ns : ℕ) (members' : List Member) : Type 0 where
  pub size : length members' ≡ length members
  pub merged : Merged (label_of members) hi lo (label_of members')
  pub sum : sum_of members' lo ≡ ns + (sum_of members lo + sum_of members hi)
  pub others : (s : ℕ) → s ≢ lo → sum_of members' s ≡ sum_of members s
  pub before : (u : ℕ) → before_of members' u ≡ before_of members u

-- of the groups of the two ends of a link the lower one has taken in the other; where they are one, all is as it was
pub record Linked (members : List Member) (r : Row) (members' : List Member) : Type 0 where
  pub onward : label_of members r.from < label_of members r.to → TakenIn members (label_of members r.from) (label_of members r.to) r.ns members'
  pub back : label_of members r.to < label_of members r.from → TakenIn members (label_of members r.to) (label_of members r.from) r.ns members'
  pub inside : label_of members r.from ≡ label_of members r.to → members' ≡ members
