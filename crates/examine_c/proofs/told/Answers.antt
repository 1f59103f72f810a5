-- `told` meets its contract: by the answer.
use mathlib.Core.Path.{refl}
use borrow.Author.Rules.{rules}
use Rattle.examine_c.proofs.told.Goals as goal

pub returns-in-Yes : goal.returns-in-Yes
returns-in-Yes c = rw c.in-Yes.is (refl, refl)

pub returns-in-No : goal.returns-in-No
returns-in-No c = rw c.in-No.is (refl, refl)

pub returns-in-Refused : goal.returns-in-Refused
returns-in-Refused c = rw c.in-Refused.is (refl, refl)
