-- The tables of a sheet and the names of their columns.
use Rattle.std.specs.Prelude.{◌≡◌, ℕ, ◌<◌, List, [], ◌∷◌, length, codes, slice_index, slice_index_or}
use Rattle.text.specs.declared.table.Table.{Table}
use Rattle.text.specs.declared.table.Table.TheVariants.{Book, Links}

abbrev pub names : Table → List (List ℕ)
names Book = codes "book" ∷ codes "stations" ∷ []
names Links = codes "from" ∷ codes "to" ∷ codes "ns" ∷ codes "state" ∷ []

-- how many columns the table has
abbrev pub width : Table → ℕ
width t = length (names t)

-- the word is the name of one of the table's columns
abbrev pub Named : Table → List ℕ → Type 0
Named t w = (i : ℕ) × ((i < width t) × (slice_index_or (names t) i [] ≡ w))

-- where the state stands among the words of a line of values; past all of them where the table has none
abbrev pub state_at : Table → List ℕ → ℕ
state_at Book places = 4
state_at Links places = slice_index places 3
