-- `parallel_moves_examine_formula_5` meets its contract: the limit, then that of `examine_call`, told.
use borrow.Author.Rules.{rules}
use borrow.Author.Tests.{lt-ltb, le-ltb}
use Rattle.examine_c.specs.Call.{examine_call_in}
use Rattle.examine_c.proofs.parallel_moves_examine_formula_5.Goals as goal

pub returns-then-limit-gt2048 : goal.returns-then-limit-gt2048
unfolding examine_call_in
returns-then-limit-gt2048 c = record { told_as = rw (lt-ltb 2048 c.args.limit c.if-limit-gt2048.true) c.told.ensures; anything = (tt, tt, tt, tt, tt, tt, tt, tt) }

pub returns : goal.returns
unfolding examine_call_in
returns c = record { told_as = rw (le-ltb 2048 c.args.limit c.if-limit-gt2048.false) (rw c.examine_call-r.ensures.result_value at c.told-2.ensures); anything = (tt, tt, tt, tt, tt, tt, tt, tt) }
