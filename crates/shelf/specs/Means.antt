-- What a shelf of marks holds.
use Rattle.std.specs.Prelude.{vec_items, vec_len}
use Rattle.shelf.specs.Holds.{Holds}
use Rattle.shelf.specs.declared.marks.Marks.{Marks}

abbrev pub marks_hold : Marks → Holds
marks_hold s = record { items = vec_len s.marks; buckets = s.buckets; at = vec_items s.marks; puts = s.puts }
