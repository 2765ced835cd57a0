-- What the links that were read tell of the whole memory.
use Rattle.std.proofs.Common.{◌≡◌, ℕ, ◌<◌, ◌≤◌, List, length, take, subst, arith}
use Rattle.std.proofs.lemmas.List.{get_or-take, length-take-le}
use Rattle.network.specs.Rows.{Sound, Refused}
use Rattle.text.specs.Opening.{AllSound, BookRefused, unfair, row}
use Rattle.text.specs.Sheet.{no_link}
use Rattle.text.specs.declared.sheet.SheetLink.{SheetLink}
use Rattle.word.specs.declared.fault.Fault.{Fault}

module _ (links : List SheetLink) (n : ℕ) (within : n ≤ length links) where
  read : length (take n links) ≡ n
  read = length-take-le n links within

  pub sound_all : (stations : ℕ) → AllSound stations (take n links) (length (take n links)) → AllSound stations links n
  sound_all stations h = λ k below. subst (λ (l : SheetLink). Sound stations l.row) (get_or-take n links k no_link below) (h k (omega (arith, read)))

  pub refused_all : (text book_places places : List ℕ) (stations : ℕ) (f : Fault)
      → BookRefused text book_places places stations (take n links) (length (take n links)) f → BookRefused text book_places places stations links n f
  refused_all text book_places places stations f (unfair u c s) = unfair u c s
  refused_all text book_places places stations f (row fair r) =
      let below : r.k < n = omega (arith, r.below, read) in
      row fair (record {
        k = r.k;
        below = below;
        before = λ j l. subst (λ (l : SheetLink). Sound stations l.row) (get_or-take n links j no_link (omega arith)) (r.before j l);
        why = r.why;
        refused = subst (λ (l : SheetLink). Refused stations l.row r.why) (get_or-take n links r.k no_link below) r.refused;
        cause = r.cause;
        word = r.word;
        at_fault = r.at_fault;
        shown = r.shown;
      })
