use Rattle.std.proofs.Common.{◌≡◌, ℕ, ◌+◌, ◌≤◌, List, [], length, sym, ap, ◌∙◌, subst, arith}
use Rattle.std.proofs.lemmas.Result.{err_from_is_err_and}
use Rattle.text.specs.Split.{lines}
use Rattle.text.specs.Due.{AtLine}
use Rattle.text.specs.Cursors.{text_of}
use Rattle.text.specs.Sheet.{Headed, HeadingFault, RowFault, RowsRead, longest, room}
use Rattle.text.specs.Opening.{BookRefused}
use Rattle.text.specs.Read.{heading, row, book}
use Rattle.text.specs.declared.source.Source.{Source}
use Rattle.text.proofs.Rowing.{no_rows}
use Rattle.text.proofs.Reading.{sound_all, refused_all}
use Rattle.text.proofs.read.read_tables.Goals as goal

pub returns-in_err-heading : goal.returns-in_err-heading
returns-in_err-heading c =
    let p = err_from_is_err_and c.from_residual-in_err-heading.result c.from_residual-in_err-heading.ensures.1 in
    let f = c.in_err-heading.field-0.0 in
    let at_start : text_of c.new-cursor.result ≡ c.args.text.now = ap (λ (s : Source). s.bytes.now) c.new-cursor.ensures.0 ∙ c.in_ok-source.ensures in
    let short : length c.args.text.now ≤ longest = omega (arith, c.in_ok-source.source.short, ap length c.in_ok-source.ensures) in
    let none : 0 ≡ c.args.count.now = sym c.requires in
    rw (p.1, p.2) (record {
      places = [];
      memory = subst (λ (n : ℕ). RowsRead c.args.text.now [] c.args.links.now c.args.links.now n) none (no_rows c.args.text.now [] c.args.links.now);
      outcome = heading short c.requires (subst (λ (t : List ℕ). HeadingFault t f) at_start c.in_err-heading.ensures);
    })

pub returns-in_err-read_rows : goal.returns-in_err-read_rows
returns-in_err-read_rows c =
    let p = err_from_is_err_and c.from_residual-in_err-read_rows.result c.from_residual-in_err-read_rows.ensures.1 in
    let f = c.in_err-read_rows.field-0.0 in
    let at_start : text_of c.new-cursor.result ≡ c.args.text.now = ap (λ (s : Source). s.bytes.now) c.new-cursor.ensures.0 ∙ c.in_ok-source.ensures in
    let later : text_of c.read_heading.new.self ≡ c.args.text.now = ap (λ (s : Source). s.bytes.now) c.in_ok-heading.ensures.2 ∙ at_start in
    let found = c.in_ok-heading.heading in
    let places = found.link_places.places in
    let headed = subst (λ (t : List ℕ). Headed t found.book_places places found.head) at_start c.in_ok-heading.ensures.0 in
    let read = subst (λ (t : List ℕ). RowsRead t places c.args.links.now c.read_rows.new.links c.read_rows.new.count) later c.in_err-read_rows.ensures.read in
    let short : length c.args.text.now ≤ longest = omega (arith, c.in_ok-source.source.short, ap length c.in_ok-source.ensures) in
    let count = c.read_rows.new.count in
    let told = subst (λ (t : List ℕ). AtLine (4 + count) f (RowFault t places (room c.args.links.now ≤ count) (4 + count))) later c.in_err-read_rows.ensures.end in
    rw (p.1, p.2) (record { places = places; memory = read; outcome = row short _ _ _ headed read.rows told })

pub returns-in_err-check_book : goal.returns-in_err-check_book
returns-in_err-check_book c =
    let p = err_from_is_err_and c.from_residual-in_err-check_book.result c.from_residual-in_err-check_book.ensures.1 in
    let f = c.in_err-check_book.field-0.0 in
    let at_start : text_of c.new-cursor.result ≡ c.args.text.now = ap (λ (s : Source). s.bytes.now) c.new-cursor.ensures.0 ∙ c.in_ok-source.ensures in
    let later : text_of c.read_heading.new.self ≡ c.args.text.now = ap (λ (s : Source). s.bytes.now) c.in_ok-heading.ensures.2 ∙ at_start in
    let found = c.in_ok-heading.heading in
    let places = found.link_places.places in
    let headed = subst (λ (t : List ℕ). Headed t found.book_places places found.head) at_start c.in_ok-heading.ensures.0 in
    let read = subst (λ (t : List ℕ). RowsRead t places c.args.links.now c.read_rows.new.links c.read_rows.new.count) later c.in_ok-read_rows.ensures.read in
    let short : length c.args.text.now ≤ longest = omega (arith, c.in_ok-source.source.short, ap length c.in_ok-source.ensures) in
    let end : length (lines c.args.text.now) ≡ 4 + c.read_rows.new.count = subst (λ (t : List ℕ). length (lines t) ≡ 4 + c.read_rows.new.count) later c.in_ok-read_rows.ensures.end in
    let within : c.read_rows.new.count ≤ length c.read_rows.new.links = omega (arith, read.few, read.same) in
    let told = refused_all c.read_rows.new.links c.read_rows.new.count within _ _ _ _ _ c.in_err-check_book.ensures in
    let refused = subst (λ (t : List ℕ). BookRefused t found.book_places places found.head.stations c.read_rows.new.links c.read_rows.new.count f) c.in_ok-source.ensures told in
    rw (p.1, p.2) (record { places = places; memory = read; outcome = book _ _ _ (record { short = short; headed = headed; rows = read.rows; end = end }) refused })

pub returns : goal.returns
returns c =
    let at_start : text_of c.new-cursor.result ≡ c.args.text.now = ap (λ (s : Source). s.bytes.now) c.new-cursor.ensures.0 ∙ c.in_ok-source.ensures in
    let later : text_of c.read_heading.new.self ≡ c.args.text.now = ap (λ (s : Source). s.bytes.now) c.in_ok-heading.ensures.2 ∙ at_start in
    let found = c.in_ok-heading.heading in
    let places = found.link_places.places in
    let headed = subst (λ (t : List ℕ). Headed t found.book_places places found.head) at_start c.in_ok-heading.ensures.0 in
    let read = subst (λ (t : List ℕ). RowsRead t places c.args.links.now c.read_rows.new.links c.read_rows.new.count) later c.in_ok-read_rows.ensures.read in
    let short : length c.args.text.now ≤ longest = omega (arith, c.in_ok-source.source.short, ap length c.in_ok-source.ensures) in
    let end : length (lines c.args.text.now) ≡ 4 + c.read_rows.new.count = subst (λ (t : List ℕ). length (lines t) ≡ 4 + c.read_rows.new.count) later c.in_ok-read_rows.ensures.end in
    let within : c.read_rows.new.count ≤ length c.read_rows.new.links = omega (arith, read.few, read.same) in
    let told = c.in_ok-check_book.ensures in
    record {
      places = places;
      memory = read;
      outcome = record {
        book_places = found.book_places;
        places = places;
        spelled = record { short = short; headed = headed; rows = read.rows; end = end };
        fair = told.0;
        sound = sound_all c.read_rows.new.links c.read_rows.new.count within _ told.1;
      };
    }
