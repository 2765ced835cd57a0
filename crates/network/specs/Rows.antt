-- Which rows describe a link, and which refusal another row gets.
use Rattle.std.specs.Prelude.{◌≡◌, ℕ, ◌<◌, ◌≤◌}
use Rattle.network.specs.declared.row.Row.{Row}
use Rattle.network.specs.declared.refusal.RowRefusal.{RowRefusal}
use Rattle.network.specs.declared.refusal.RowRefusal.TheVariants.{EndOutside, EqualEnds, NoDelay}
use Rattle.network.specs.Refusals.{shown}

-- both ends of the row are stations: their numbers are below n
abbrev pub Within : ℕ → Row → Type 0
Within n r = (r.from < n) × (r.to < n)

-- its ends differ
abbrev pub Apart : Row → Type 0
Apart r = r.from ≡ r.to → ⊥

-- the row describes a link of a network of n stations
abbrev pub Sound : ℕ → Row → Type 0
Sound n r = Within n r × Apart r × (1 ≤ r.ns)

-- why the row is refused, in the order of the causes: a later cause is given only where no earlier one holds
abbrev pub Why : ℕ → Row → RowRefusal → Type 0
Why n r (EndOutside back) = Within n r → ⊥
Why n r (EqualEnds back) = Within n r × (r.from ≡ r.to)
Why n r (NoDelay back) = Within n r × Apart r × (r.ns ≡ 0)

-- the row is refused so, and handed back
abbrev pub Refused : ℕ → Row → RowRefusal → Type 0
Refused n r e = Why n r e × ((shown e).row ≡ r)
