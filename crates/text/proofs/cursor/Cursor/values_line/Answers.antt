use Rattle.std.proofs.Common.{ℕ, List, ◌∙◌, subst}
use Rattle.std.proofs.lemmas.Result.{MatchResult-weaker}
use Rattle.text.specs.Split.{words}
use Rattle.text.specs.Tables.{width, state_at}
use Rattle.text.specs.Values.{ValuesRead, ValuesFault}
use Rattle.text.specs.Due.{faulty}
use Rattle.text.proofs.cursor.Cursor.values_line.Goals as goal

pub returns : goal.returns
returns c =
    let told = c.in_ok-due_line.ensures in
    let columns = width c.args.table in
    let state = state_at c.args.table c.args.places in
    MatchResult-weaker c.read_values.result c.read_values.ensures
    (λ values read. (told.0.stands, subst (λ (bytes : List ℕ). ValuesRead columns state (words bytes) values) told.0.bytes read, told.1))
    (λ f wrong. (wrong.0 ∙ told.0.number, faulty told.0.stands (subst (λ (bytes : List ℕ). ValuesFault columns state bytes f.cause f.column) told.0.bytes wrong.1)))
