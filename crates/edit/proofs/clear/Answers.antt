-- `clear` meets its contract: with a count of 0 there is no word.
use native.Mathlib.Omega.{arith}
use lib.Seq.{get_or-set_same}
use Rattle.edit.proofs.Laws.{cleared}
use Rattle.edit.proofs.clear.Goals as goal

pub returns : goal.returns
returns c = cleared _ (get_or-set_same c.args.e.now 0 0 0 (omega (arith, c.told-e)))
