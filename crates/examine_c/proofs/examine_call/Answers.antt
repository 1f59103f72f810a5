-- `examine_call` meets its contract: refused for its free units or its entries, or what is said of the patch.
use Rattle.examine_c.proofs.Calling.{free-refused, entries-refused, patch-examined}
use borrow.Author.Rules.{rules}
use Rattle.examine_c.proofs.examine_call.Goals as goal

pub returns-in-Refused : goal.returns-in-Refused
returns-in-Refused c =
    let a = c.args in
    record { result_value = free-refused a.t.now a.f.now a.free.now a.numbers.now a.list.now _ a.most _ (rw c.in-Refused.is at c.take_free.ensures); anything = (tt, tt, tt, tt, tt, tt, tt, tt) }

pub add_entries-requires : goal.add_entries-requires
add_entries-requires c = (c.requires.0, c.new_parallel_move.ensures.1 _ _)

pub returns-in-Refused-add_entries : goal.returns-in-Refused-add_entries
returns-in-Refused-add_entries c =
    let a = c.args in
    let free = rw c.in_default.is at c.take_free.ensures in
    record { result_value = entries-refused a.t.now a.f.now a.free.now a.numbers.now a.list.now _ a.most free _ _ _ c.new_parallel_move.ensures.0 _ (rw c.in-Refused-add_entries.is at c.add_entries.ensures); anything = (tt, tt, tt, tt, tt, tt, tt, tt) }

pub returns : goal.returns
returns c =
    let a = c.args in
    let free = rw c.in_default.is at c.take_free.ensures in
    let added = rw c.in_default-add_entries.is at c.add_entries.ensures in
    record { result_value = patch-examined a.t.now a.f.now a.free.now a.numbers.now a.list.now _ a.most free _ _ _ c.new_parallel_move.ensures.0 _ added c.examine_patch.ensures.0; anything = (tt, tt, tt, tt, tt, tt, tt, tt) }
