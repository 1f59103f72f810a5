-- `parallel_moves_resolve_groups_5` meets its contract.
use lib.ListN.{length}
use Rattle.reginfo.specs.Table.{reg_info_of}
use Rattle.function.specs.Table.{function_of}
use Rattle.slots.specs.Stacks.{cache_of}
use Rattle.group_calls.specs.Call.{call_by_groups}
use Rattle.groups_c.proofs.Calling.{gave-edits, gave-number}
use borrow.Author.Rules.{rules}
use Rattle.groups_c.proofs.parallel_moves_resolve_groups_5.Goals as goal

pub resolve_groups-requires : goal.resolve_groups-requires
resolve_groups-requires c = let pre = c.requires in (pre.0, pre.1)

pub returns-in-Edits : goal.returns-in-Edits
returns-in-Edits c =
    let a = c.args in
    record { called_as = gave-edits a.function.now a.position.now a.list.now _ a.cache.now _ (call_by_groups (reg_info_of a.target.now) (function_of a.function.now) a.free.now a.numbers.now (length a.list.now) (cache_of a.cache.now)) _ _ (rw c.in-Edits.is at c.resolve_groups.ensures.gives); anything = (tt, tt, tt, tt, tt, tt, tt, tt, tt, tt); anything_2 = (tt, tt, tt, tt, tt, tt) }

pub returns-in-Refused : goal.returns-in-Refused
returns-in-Refused c =
    let a = c.args in
    record { called_as = gave-number a.function.now a.position.now a.list.now _ a.cache.now _ (call_by_groups (reg_info_of a.target.now) (function_of a.function.now) a.free.now a.numbers.now (length a.list.now) (cache_of a.cache.now)) _ (rw c.in-Refused.is at c.resolve_groups.ensures.gives); anything = (tt, tt, tt, tt, tt, tt, tt, tt, tt, tt); anything_2 = (tt, tt, tt, tt, tt, tt) }
