use Rattle.text.proofs.One.{one_sheet}
use Rattle.text.proofs.laws.one_sheet.Goals as goal

pub returns : goal.returns
returns c = one_sheet
