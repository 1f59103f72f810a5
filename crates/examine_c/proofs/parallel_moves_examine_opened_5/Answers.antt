-- `parallel_moves_examine_opened_5` meets its contract: that of `examine_call` with the function's L, told.
use native.Mathlib.Omega.{arith}
use borrow.Author.Rules.{rules}
use Rattle.function.proofs.Laws.{low-limit}
use Rattle.examine_c.proofs.parallel_moves_examine_opened_5.Goals as goal

pub examine_call-r-requires : goal.examine_call-r-requires
examine_call-r-requires c = (c.requires, omega (arith, c.slot_limit-most.ensures, low-limit _ _ c.requires.function))

pub returns : goal.returns
returns c = record { told_as = rw (c.examine_call-r.ensures.result_value, c.slot_limit-most.ensures) at c.told.ensures; anything = (tt, tt, tt, tt, tt, tt, tt, tt) }
