-- `parallel_moves_take_5` meets its contract.
use Rattle.asking_c.proofs.Asking.{was-taken, was-late}
use borrow.Author.Rules.{rules}
use Rattle.asking_c.proofs.parallel_moves_take_5.Goals as goal

pub returns-in-Yes : goal.returns-in-Yes
returns-in-Yes c =
    let args = c.args in
    was-taken (record { made = args.made; position = 0; stamp = args.stamp }) args.slots.now args.cache.now _ (rw c.in-Yes.is at c.take.ensures)

pub returns-in-Refused : goal.returns-in-Refused
returns-in-Refused c =
    let args = c.args in
    was-late (record { made = args.made; position = 0; stamp = args.stamp }) args.slots.now args.cache.now _ _ (rw c.in-Refused.is at c.take.ensures)
