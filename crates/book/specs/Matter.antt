-- What a book says, in the words of its subject.
use Rattle.std.specs.Prelude.{◌≡◌, ℕ, Bool, true, false, List, [], length, replicate, slice_index_or, slice_set}
use Rattle.network.specs.Network.{Network}
use Rattle.network.specs.Schemes.{network_of, struck_of, served}
use Rattle.network.specs.Entries.{is_in, is_struck}
use Rattle.network.specs.declared.entry.Entry.{Entry}
use Rattle.network.specs.declared.entry.Standing.{Standing}
use Rattle.network.specs.declared.entry.Standing.TheVariants.{In as Serving}
use Rattle.network.specs.declared.row.Row.{Row}
use Rattle.book.specs.declared.book.Book.{Book}
use Rattle.book.specs.declared.stage.Stage.{Stage}
use Rattle.book.specs.declared.stage.Stage.TheVariants.{Bare}

-- a book: its number, its network with the links in service, which links are struck, and its stage
pub record Matter : Type 0 where
  pub number : ℕ
  pub network : Network
  pub struck : List Bool
  pub stage : Stage

-- what the program's book says
abbrev pub matter : Book → Matter
matter b =
    record {
      number = b.number;
      network = network_of b.scheme;
      struck = struck_of b.scheme;
      stage = b.stage;
    }

-- how many links it has
abbrev pub links : Matter → ℕ
links b = length b.network.rows

-- the link k is in service; it is struck, out for good
abbrev pub In : Matter → ℕ → Type 0
In b k = slice_index_or b.network.service k false ≡ true

abbrev pub Struck : Matter → ℕ → Type 0
Struck b k = slice_index_or b.struck k false ≡ true

-- the same book, bare, but for the link k: in service or not, struck or not
abbrev pub serviced : Matter → ℕ → Bool → Matter
serviced b k v =
    record {
      number = b.number;
      network = record { stations = b.network.stations; rows = b.network.rows; service = slice_set b.network.service k v };
      struck = b.struck;
      stage = Bare;
    }

abbrev pub stricken : Matter → ℕ → Matter
stricken b k = record { number = b.number; network = b.network; struck = slice_set b.struck k true; stage = Bare }

-- the same book, bare, but for the link k, which stands so
abbrev pub stood : Matter → ℕ → Standing → Matter
stood b k standing =
    record {
      number = b.number;
      network = served b.network k (is_in standing);
      struck = slice_set b.struck k (is_struck standing);
      stage = Bare;
    }

-- the link that a row describes as its book is opened: in service
abbrev pub fresh : Row → Entry
fresh r = record { row = r; standing = Serving }

-- a book as it is opened: bare, all links in service
abbrev pub opened : ℕ → ℕ → List Row → Matter
opened number stations rows =
    record {
      number = number;
      network = record { stations = stations; rows = rows; service = replicate (length rows) true };
      struck = replicate (length rows) false;
      stage = Bare;
    }

-- what a place holds before its first opening: number 0, one station and no link
abbrev pub unopened : Matter
unopened = opened 0 1 []
