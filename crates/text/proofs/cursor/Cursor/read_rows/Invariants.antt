use Rattle.std.proofs.Common.{◌≡◌, ◌+◌, ◌-◌, length}
use Rattle.text.specs.Split.{lines}
use Rattle.text.specs.Cursors.{text_of}
use Rattle.text.specs.Sheet.{RowsRead}
use Rattle.text.proofs.cursor.Cursor.read_rows.Given as goal

abbrev pub invariant-loop-link : goal.invariant-loop-link
invariant-loop-link l = (l.self.source ≡ l.initial.self.source) × (l.self.line ≡ 4 + l.count) × RowsRead (text_of l.self) l.places.places l.initial.links l.links l.count

abbrev pub decreases-loop-link : goal.decreases-loop-link
decreases-loop-link l = length (lines (text_of l.self)) - l.self.line
