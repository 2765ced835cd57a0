-- What each call does to a book, for every input and every refusal: relations between the book before, what is asked, the answer and
-- the book after.
use Rattle.std.specs.Prelude.{◌≡◌, ℕ, ◌<◌, ◌≤◌, true, false, List, length, Ok, Err, Result, ◌≢◌, slice_index_or}
use Rattle.network.specs.Network.{no_row}
use Rattle.network.specs.Rows.{Sound, Refused}
use Rattle.network.specs.declared.entry.Standing.{Standing}
use Rattle.network.specs.declared.row.Row.{Row}
use Rattle.network.specs.declared.refusal.RowRefusal.{RowRefusal}
use Rattle.book.specs.declared.permit.Permit.{Permit}
use Rattle.book.specs.declared.refusal.Refusal.{Refusal}
use Rattle.book.specs.declared.refusal.Refusal.TheVariants.{Stations, TooManyRows, BadRow, NoSuchLink, NotInService, MapStands, NoMap, NothingSettled, NoMemory}
use Rattle.book.specs.declared.refusal.PermitRefusal.{PermitRefusal}
use Rattle.book.specs.declared.refusal.PermitRefusal.TheVariants.{OtherBook, NotOut, StillGood}
use Rattle.book.specs.Matter.{Matter, links, In, Struck, serviced, stricken, stood, opened}

-- 1 to 512 stations
abbrev pub FairNumber : ℕ → Type 0
FairNumber stations = (1 ≤ stations) × (stations ≤ 512)

-- the first k rows describe links
abbrev pub AllSound : ℕ → List Row → ℕ → Type 0
AllSound stations rows k = (i : ℕ) → i < k → Sound stations (slice_index_or rows i no_row)

-- the first k rows have delays that fit the type of a link record
abbrev pub AllBounded : List Row → ℕ → Type 0
AllBounded rows k = (i : ℕ) → i < k → (slice_index_or rows i no_row).ns ≤ 4294967295

-- the first row that describes no link is refused so
pub record FirstBad (stations : ℕ) (rows : List Row) (why : RowRefusal) : Type 0 where
  pub k : ℕ
  pub listed : k < length rows
  pub before : AllSound stations rows k
  pub refused : Refused stations (slice_index_or rows k no_row) why

-- opening
abbrev pub NotOpened : ℕ → List Row → Refusal → Type 0
NotOpened stations rows Stations = FairNumber stations → ⊥
NotOpened stations rows TooManyRows = FairNumber stations × (2048 < length rows)
NotOpened stations rows (BadRow why) = FairNumber stations × (length rows ≤ 2048) × FirstBad stations rows why
NotOpened stations rows NoMemory = FairNumber stations × (length rows ≤ 2048) × AllSound stations rows (length rows)
NotOpened stations rows NoSuchLink = ⊥
NotOpened stations rows NotInService = ⊥
NotOpened stations rows MapStands = ⊥
NotOpened stations rows NoMap = ⊥
NotOpened stations rows NothingSettled = ⊥

abbrev pub Opens : Matter → ℕ → ℕ → List Row → Result (Unit {0}) Refusal → Matter → Type 0
Opens b number stations rows (Ok done) b' = FairNumber stations × (length rows ≤ 2048) × AllSound stations rows (length rows) × (b' ≡ opened number stations rows)
Opens b number stations rows (Err why) b' = NotOpened stations rows why × (b' ≡ b)

-- withdrawing a link
abbrev pub NotWithdrawn : Matter → ℕ → Refusal → Type 0
NotWithdrawn b link NoSuchLink = links b ≤ link
NotWithdrawn b link NotInService = (link < links b) × (In b link → ⊥)
NotWithdrawn b link Stations = ⊥
NotWithdrawn b link TooManyRows = ⊥
NotWithdrawn b link (BadRow why) = ⊥
NotWithdrawn b link MapStands = ⊥
NotWithdrawn b link NoMap = ⊥
NotWithdrawn b link NothingSettled = ⊥
NotWithdrawn b link NoMemory = ⊥

abbrev pub Withdraws : Matter → ℕ → Result Permit Refusal → Matter → Type 0
Withdraws b link (Ok p) b' = (link < links b) × In b link × (p.book ≡ b.number) × (p.link ≡ link) × (p.spent ≡ false) × (b' ≡ serviced b link false)
Withdraws b link (Err why) b' = NotWithdrawn b link why × (b' ≡ b)

-- the link k is out, and may come back
pub record Out (b : Matter) (k : ℕ) : Type 0 where
  pub listed : k < links b
  pub out : In b k → ⊥
  pub back : Struck b k → ⊥

-- giving the permit back would do
pub record Good (b : Matter) (p : Permit) : Type 0 where
  pub same : p.book ≡ b.number
  pub out : Out b p.link

-- why a permit is neither given back nor struck
abbrev pub NotGood : Matter → Permit → PermitRefusal → Type 0
NotGood b p (OtherBook q) = (q ≡ p) × (p.book ≢ b.number)
NotGood b p (NotOut q) = (q ≡ p) × (p.book ≡ b.number) × (Out b p.link → ⊥)
NotGood b p (StillGood q) = ⊥

-- ending a permit that could be given back, whose link then stands so
abbrev pub Ends : Matter → Permit → Standing → Result (Unit {0}) PermitRefusal → Matter → Type 0
Ends b p standing (Ok done) b' = Good b p × (b' ≡ stood b p.link standing)
Ends b p standing (Err why) b' = NotGood b p why × (b' ≡ b)

-- giving a permit back, which restores its link
abbrev pub GivesBack : Matter → Permit → Result (Unit {0}) PermitRefusal → Matter → Type 0
GivesBack b p (Ok done) b' = Good b p × (b' ≡ serviced b p.link true)
GivesBack b p (Err why) b' = NotGood b p why × (b' ≡ b)

-- striking a permit, which leaves its link out for good
abbrev pub Strikes : Matter → Permit → Result (Unit {0}) PermitRefusal → Matter → Type 0
Strikes b p (Ok done) b' = Good b p × (b' ≡ stricken b p.link)
Strikes b p (Err why) b' = NotGood b p why × (b' ≡ b)

-- annulling a permit, granted exactly where giving it back would be refused
abbrev pub Annuls : Matter → Permit → Result (Unit {0}) PermitRefusal → Type 0
Annuls b p (Ok done) = Good b p → ⊥
Annuls b p (Err (StillGood q)) = (q ≡ p) × Good b p
Annuls b p (Err (OtherBook q)) = ⊥
Annuls b p (Err (NotOut q)) = ⊥
