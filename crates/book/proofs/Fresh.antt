-- The links of a book as it is opened.
use Rattle.std.proofs.Common.{◌≡◌, ℕ, zero, suc, ◌<◌, true, false, List, length, get_or, map, replicate, vec_len, Vec, Global, ap, arith}
use Rattle.std.proofs.lemmas.List.{get_or-map, length-map}
use Rattle.network.specs.Network.{no_row}
use Rattle.network.specs.Entries.{no_entry}
use Rattle.network.specs.declared.entry.Entry.{Entry}
use Rattle.network.specs.declared.row.Row.{Row}
use Rattle.book.specs.Matter.{fresh}

-- what holds of every row holds of the row of every link
pub of_each : (P : Row → Type 0) (rows : List Row) (links : Vec Entry Global) → links.items ≡ map fresh rows
    → ((k : ℕ) → k < length rows → P (get_or rows k no_row)) → (k : ℕ) → k < vec_len links → P (get_or links.items k no_entry).row
of_each P rows links e all k h =
    let below : k < length rows = omega (arith, length-map rows fresh, ap length e, links.ok.0, h) in
    rw e (rw (get_or-map fresh rows k no_row no_entry below) (all k below))

-- none is struck
pub none_struck : (n k : ℕ) → get_or (replicate n false) k false ≡ true → ⊥
none_struck zero k h = let z : ◌≡◌ {A = ℕ} 0 1 = cc in omega arith
none_struck (suc n) zero h = let z : ◌≡◌ {A = ℕ} 0 1 = cc in omega arith
none_struck (suc n) (suc k) h = none_struck n k h
