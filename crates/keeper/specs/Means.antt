-- What a table keeps.
use Rattle.std.specs.Prelude.{vec_items, vec_len}
use Rattle.keeper.specs.Keeps.{Keeps}
use Rattle.keeper.specs.declared.table.Table.{Table}

abbrev pub table_keeps : Table → Keeps
table_keeps s = record { places = vec_len s.delays; delays = vec_items s.delays }
