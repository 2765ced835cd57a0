use Rattle.std.proofs.Common.{ℕ, List, ◌∙◌, subst}
use Rattle.std.proofs.lemmas.Result.{MatchResult-weaker}
use Rattle.text.specs.Split.{words}
use Rattle.text.specs.Columns.{Ordered, NamesFault}
use Rattle.text.specs.Due.{faulty}
use Rattle.text.proofs.cursor.Cursor.names_line.Goals as goal

pub returns : goal.returns
returns c =
    let told = c.in_ok-due_line.ensures in
    MatchResult-weaker c.read_names.result c.read_names.ensures
    (λ places read. (told.0.stands, subst (λ (bytes : List ℕ). Ordered c.args.table (words bytes) places) told.0.bytes read, told.1))
    (λ f wrong. (wrong.0 ∙ told.0.number, faulty told.0.stands (subst (λ (bytes : List ℕ). NamesFault c.args.table bytes f.cause f.column) told.0.bytes wrong.1)))
