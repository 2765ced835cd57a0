-- Histories of a book: calls with their answers after a granted opening, and what each must be, read off the entries before it alone.
use Rattle.std.specs.Prelude.{◌≡◌, ℕ, ◌<◌, ◌≤◌, Bool, true, false, cond, List, [], ◌∷◌, length, Ok, Err, Result, ◌==◌, ◌≢◌}
use Rattle.network.specs.declared.row.Row.{Row}
use Rattle.book.specs.declared.permit.Permit.{Permit}
use Rattle.book.specs.declared.refusal.Refusal.{Refusal}
use Rattle.book.specs.declared.refusal.Refusal.TheVariants.{Stations, TooManyRows, BadRow, NoSuchLink, NotInService, MapStands, NoMap, NothingSettled, NoMemory}
use Rattle.book.specs.declared.refusal.PermitRefusal.{PermitRefusal}
use Rattle.book.specs.declared.refusal.PermitRefusal.TheVariants.{OtherBook, NotOut, StillGood}
use Rattle.book.specs.Matter.{Matter}
use Rattle.book.specs.Calls.{Opens, Withdraws, GivesBack, Strikes, Annuls}

-- a call on the book, what was asked and what was answered
pub data Entry : Type 0 where
  withdraw : ℕ → Result Permit Refusal → Entry
  give_back : Permit → Result (Unit {0}) PermitRefusal → Entry
  strike : Permit → Result (Unit {0}) PermitRefusal → Entry
  annul : Permit → Result (Unit {0}) PermitRefusal → Entry

-- the granted opening that a history begins with
pub record Opening : Type 0 where
  pub number : ℕ
  pub stations : ℕ
  pub rows : List Row

-- whether the link k is in service after these entries, the newest first: unless a granted withdraw took it out and no granted give back restored
-- it since
abbrev pub in_service : List Entry → ℕ → Bool
in_service [] k = true
in_service (withdraw link (Ok permit) ∷ es) k = cond (k == link) false (in_service es k)
in_service (withdraw link (Err why) ∷ es) k = in_service es k
in_service (give_back permit (Ok done) ∷ es) k = cond (k == permit.link) true (in_service es k)
in_service (give_back permit (Err why) ∷ es) k = in_service es k
in_service (strike permit answer ∷ es) k = in_service es k
in_service (annul permit answer ∷ es) k = in_service es k

-- whether it is struck: a granted strike left it out for good
abbrev pub is_struck : List Entry → ℕ → Bool
is_struck [] k = false
is_struck (withdraw link answer ∷ es) k = is_struck es k
is_struck (give_back permit answer ∷ es) k = is_struck es k
is_struck (strike permit (Ok done) ∷ es) k = cond (k == permit.link) true (is_struck es k)
is_struck (strike permit (Err why) ∷ es) k = is_struck es k
is_struck (annul permit answer ∷ es) k = is_struck es k

-- the link is out, and not for good
pub record OutThen (o : Opening) (es : List Entry) (k : ℕ) : Type 0 where
  pub listed : k < length o.rows
  pub out : in_service es k ≡ false
  pub back : is_struck es k ≡ false

-- giving the permit back would do
pub record GoodThen (o : Opening) (es : List Entry) (p : Permit) : Type 0 where
  pub same : p.book ≡ o.number
  pub out : OutThen o es p.link

-- a permit is given back or struck, or refused, as the table of causes and its order say
abbrev pub RightPermit : Opening → List Entry → Permit → Result (Unit {0}) PermitRefusal → Type 0
RightPermit o es p (Ok done) = GoodThen o es p
RightPermit o es p (Err (OtherBook q)) = (q ≡ p) × (p.book ≢ o.number)
RightPermit o es p (Err (NotOut q)) = (q ≡ p) × (p.book ≡ o.number) × (OutThen o es p.link → ⊥)
RightPermit o es p (Err (StillGood q)) = ⊥

-- an entry, after these entries, is granted or refused as the table of causes and its order say
abbrev pub Right : Opening → List Entry → Entry → Type 0
Right o es (withdraw link (Ok p)) = (link < length o.rows) × (in_service es link ≡ true) × (p.book ≡ o.number) × (p.link ≡ link)
Right o es (withdraw link (Err NoSuchLink)) = length o.rows ≤ link
Right o es (withdraw link (Err NotInService)) = (link < length o.rows) × (in_service es link ≡ false)
Right o es (withdraw link (Err Stations)) = ⊥
Right o es (withdraw link (Err TooManyRows)) = ⊥
Right o es (withdraw link (Err (BadRow why))) = ⊥
Right o es (withdraw link (Err MapStands)) = ⊥
Right o es (withdraw link (Err NoMap)) = ⊥
Right o es (withdraw link (Err NothingSettled)) = ⊥
Right o es (withdraw link (Err NoMemory)) = ⊥
Right o es (give_back p answer) = RightPermit o es p answer
Right o es (strike p answer) = RightPermit o es p answer
Right o es (annul p (Ok done)) = GoodThen o es p → ⊥
Right o es (annul p (Err (StillGood q))) = (q ≡ p) × GoodThen o es p
Right o es (annul p (Err (OtherBook q))) = ⊥
Right o es (annul p (Err (NotOut q))) = ⊥

-- the entry is what its call's own contract allows between the book before and the book after
abbrev pub Does : Matter → Entry → Matter → Type 0
Does b (withdraw link answer) b' = Withdraws b link answer b'
Does b (give_back p answer) b' = GivesBack b p answer b'
Does b (strike p answer) b' = Strikes b p answer b'
Does b (annul p answer) b' = Annuls b p answer × (b' ≡ b)

-- the calls' contracts link these entries, the newest first, up from the granted opening; nothing else changes the book
pub data Linked (o : Opening) : List Entry → Matter → Type 0 where
  opened : (b b' : Matter) → Opens b o.number o.stations o.rows (Ok tt) b' → Linked o [] b'
  then : {es : List Entry} {b : Matter} (e : Entry) (b' : Matter) → Linked o es b → Does b e b' → Linked o (e ∷ es) b'

-- each entry is right after those before it
abbrev pub AllRight : Opening → List Entry → Type 0
AllRight o [] = Unit {0}
AllRight o (e ∷ es) = Right o es e × AllRight o es

abbrev pub EveryHistoryIsRight : Type 0
EveryHistoryIsRight = (o : Opening) (es : List Entry) (b : Matter) → Linked o es b → AllRight o es
