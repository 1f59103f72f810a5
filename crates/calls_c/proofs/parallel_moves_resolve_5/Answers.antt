use lib.ListN.{length}
use Rattle.reginfo.specs.Table.{reg_info_of}
use Rattle.function.specs.Table.{function_of}
use Rattle.slots.specs.Stacks.{cache_of}
use Rattle.calls.specs.Call.{call_of}
use Rattle.calls_c.proofs.Calling.{gave-edits, gave-number}
use borrow.Author.Rules.{rules}
use Rattle.calls_c.proofs.parallel_moves_resolve_5.Goals as goal

pub returns-in-Edits : goal.returns-in-Edits
returns-in-Edits c = let a = c.args in record { called_as = gave-edits a.function.now a.position.now a.list.now _ a.cache.now _ (call_of (reg_info_of a.target.now) (function_of a.function.now) a.free.now a.numbers.now (length a.list.now) (cache_of a.cache.now)) _ _ (rw c.in-Edits.is at c.resolve.ensures.gives); anything = search rules }

pub returns-in-Refused : goal.returns-in-Refused
returns-in-Refused c = let a = c.args in record { called_as = gave-number a.function.now a.position.now a.list.now _ a.cache.now _ (call_of (reg_info_of a.target.now) (function_of a.function.now) a.free.now a.numbers.now (length a.list.now) (cache_of a.cache.now)) _ (rw c.in-Refused.is at c.resolve.ensures.gives); anything = search rules }
