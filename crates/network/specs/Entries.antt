-- What the standing of a link says.
use Rattle.std.specs.Prelude.{Bool, true, false}
use Rattle.network.specs.declared.entry.Standing.{Standing}
use Rattle.network.specs.declared.entry.Standing.TheVariants.{In, Out, Struck}
use Rattle.network.specs.declared.entry.Entry.{Entry}
use Rattle.network.specs.Network.{no_row}

-- the link is in service; it is struck, out for good
abbrev pub is_in : Standing → Bool
is_in In = true
is_in Out = false
is_in Struck = false

abbrev pub is_struck : Standing → Bool
is_struck In = false
is_struck Out = false
is_struck Struck = true

-- what stands past the last link
abbrev pub no_entry : Entry
no_entry = record { row = no_row; standing = Out }
