-- 02 f: an exported function can return no reference, so that a caller in C is told which of the two lists it is.
use Rattle.std.specs.Prelude.{ℕ}
use Rattle.cheaper.specs.declared.Choice.{Choice}
use Rattle.cheaper.specs.declared.Choice.TheVariants.{First, Second, Refused}

abbrev pub choice_number : Choice → ℕ
choice_number First = 1
choice_number Second = 2
choice_number Refused = 19
