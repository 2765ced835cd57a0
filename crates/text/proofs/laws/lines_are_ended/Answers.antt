use Rattle.word.specs.Bytes.{line_feed}
use Rattle.std.proofs.Common.{[]}
use Rattle.text.proofs.Joins.{lines_ended, lines_unended, pieces_free}
use Rattle.text.proofs.laws.lines_are_ended.Goals as goal

pub returns : goal.returns
returns c = record { free = λ text. pieces_free line_feed [] tt text; only = lines_ended; unended = lines_unended }
