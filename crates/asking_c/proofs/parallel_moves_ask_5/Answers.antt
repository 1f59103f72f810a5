-- `parallel_moves_ask_5` meets its contract.
use lib.ListN.{length}
use Rattle.reginfo.specs.Table.{reg_info_of}
use Rattle.function.specs.Table.{function_of}
use Rattle.slots.specs.Stacks.{cache_of}
use Rattle.calls.specs.Call.{call_of}
use Rattle.asking_c.proofs.Asking.{gave-preview, gave-number}
use borrow.Author.Rules.{rules}
use Rattle.asking_c.proofs.parallel_moves_ask_5.Goals as goal

pub returns-in-Ready : goal.returns-in-Ready
returns-in-Ready c =
    let args = c.args in
    record { asked_as = gave-preview args.function.now args.made.now args.position.now args.stamp.now args.list.now _ args.cache.now _ (call_of (reg_info_of args.target.now) (function_of args.function.now) args.free.now args.numbers.now (length args.list.now) (cache_of args.cache.now)) _ _ (rw c.in-Ready.is at c.ask.ensures.asks); anything = search rules }

pub returns-in-Refused : goal.returns-in-Refused
returns-in-Refused c =
    let args = c.args in
    record { asked_as = gave-number args.function.now args.made.now args.position.now args.stamp.now args.list.now _ args.cache.now _ (call_of (reg_info_of args.target.now) (function_of args.function.now) args.free.now args.numbers.now (length args.list.now) (cache_of args.cache.now)) _ (rw c.in-Refused.is at c.ask.ensures.asks); anything = search rules }
