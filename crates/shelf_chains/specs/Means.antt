-- What a shelf of chains holds.
use Rattle.shelf.specs.Holds.{Holds}
use Rattle.shelf.specs.Means.{marks_hold}
use Rattle.shelf_chains.specs.declared.chains.Chains.{Chains}

abbrev pub chains_hold : Chains → Holds
chains_hold s = marks_hold s.marks
