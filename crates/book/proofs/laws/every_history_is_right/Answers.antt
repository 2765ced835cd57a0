use Rattle.book.proofs.Histories.{every_history}
use Rattle.book.proofs.laws.every_history_is_right.Goals as goal

pub returns : goal.returns
returns c = λ o es b l. every_history l
