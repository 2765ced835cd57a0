-- The faults of a sheet: for each cause its number, its layer and how the layer is spelled.
use Rattle.std.specs.Prelude.{ℕ, List, ◌++◌, codes, decimal}
use Rattle.network.specs.Refusals.{shown}
use Rattle.word.specs.declared.fault.Cause.{Cause}
use Rattle.word.specs.declared.fault.Cause.TheVariants.{InWord, InLine, InTable, TextTooLong, InBook}
use Rattle.word.specs.declared.fault.WordFault.TheVariants.{Empty, NotANumber, TooLarge, BadState}
use Rattle.word.specs.declared.fault.LineFault.TheVariants.{WordCount, BadName}
use Rattle.word.specs.declared.fault.TableFault.TheVariants.{LineDue, TooManyLines}
use Rattle.word.specs.declared.fault.BookFault.TheVariants as book
use Rattle.word.specs.declared.fault.Fault.{Fault}
use Rattle.word.specs.declared.fault.Layer.{Layer}
use Rattle.word.specs.declared.fault.Layer.TheVariants as layer

abbrev pub number_of : Cause → ℕ
number_of (InWord Empty) = 21
number_of (InWord NotANumber) = 22
number_of (InWord TooLarge) = 23
number_of (InWord BadState) = 24
number_of (InLine WordCount) = 25
number_of (InLine BadName) = 26
number_of (InTable LineDue) = 27
number_of (InTable TooManyLines) = 28
number_of TextTooLong = 29
number_of (InBook book.Stations) = 1
number_of (InBook (book.Row refusal)) = (shown refusal).number

abbrev pub layer_of : Cause → Layer
layer_of (InWord fault) = layer.Word
layer_of (InLine fault) = layer.Line
layer_of (InTable fault) = layer.Table
layer_of TextTooLong = layer.Text
layer_of (InBook fault) = layer.Book

abbrev pub spelled : Layer → List ℕ
spelled layer.Word = codes "word"
spelled layer.Line = codes "line"
spelled layer.Table = codes "table"
spelled layer.Text = codes "text"
spelled layer.Book = codes "book"

-- how a fault is written: number, layer, line and column, with `;` between them
abbrev pub fault_text : Fault → List ℕ
fault_text f =
    decimal (number_of f.cause) ++ (codes ";" ++ (spelled (layer_of f.cause) ++ (codes ";" ++ (decimal f.line ++ (codes ";" ++ decimal f.column)))))
