-- The stages of a book, and what each call makes of them.
use Rattle.std.specs.Prelude.{Ok, Err, Result}
use Rattle.book.specs.declared.stage.Stage.{Stage}
use Rattle.book.specs.declared.stage.Stage.TheVariants.{Bare, Mapped, Settled}
use Rattle.book.specs.declared.stage.Asked.{Asked}
use Rattle.book.specs.declared.stage.Asked.TheVariants.{Change, Map, Settle, ReadMap, ReadDelays}
use Rattle.book.specs.declared.refusal.Refusal.{Refusal}
use Rattle.book.specs.declared.refusal.Refusal.TheVariants.{MapStands, NoMap, NothingSettled}

-- the stage after a granted call, or the refusal that the stage alone decides
abbrev pub next_stage : Stage → Asked → Result Stage Refusal
next_stage Bare Change = Ok Bare
next_stage Bare Map = Ok Mapped
next_stage Bare (Settle source) = Err NoMap
next_stage Bare ReadMap = Err NoMap
next_stage Bare ReadDelays = Err NothingSettled
next_stage Mapped Change = Ok Bare
next_stage Mapped Map = Err MapStands
next_stage Mapped (Settle source) = Ok (Settled source)
next_stage Mapped ReadMap = Ok Mapped
next_stage Mapped ReadDelays = Err NothingSettled
next_stage (Settled source) Change = Ok Bare
next_stage (Settled source) Map = Err MapStands
next_stage (Settled source) (Settle another) = Ok (Settled another)
next_stage (Settled source) ReadMap = Ok (Settled source)
next_stage (Settled source) ReadDelays = Ok (Settled source)
