-- `ask` meets its contract: what is granted is the function's own.
use Rattle.function.proofs.Laws.{low-limit}
use Rattle.function.specs.Table.{function_of}
use Rattle.scratch.specs.State.{T}
use Rattle.parallel_moves.proofs.Resolving.{own-ok}
use Rattle.calls.proofs.Freeing.{asked-own}
use borrow.Author.Rules.{rules}
use Rattle.calls.proofs.ask.Goals as goal

pub own_grant-g-requires : goal.own_grant-g-requires
own_grant-g-requires c =
    let args = c.args in
    low-limit (T args.t.now) (function_of args.f.now) c.requires.0.function

pub ask_granted-requires : goal.ask_granted-requires
ask_granted-requires c =
    let pre = c.requires in
    let own-grant = c.own_grant-g in
    let args = c.args in
    (pre.0, rw own-grant.ensures (own-ok args.t.now args.f.now args.cache.now pre.0 pre.1))

pub returns : goal.returns
returns c =
    let own-grant = c.own_grant-g in
    let args = c.args in
    record { asks = asked-own own-grant.result args.t.now args.f.now args.free.now args.numbers.now args.list.now args.cache.now own-grant.ensures _ _ _ c.ask_granted.ensures.asks; anything = search rules }
