-- `resolve_available` meets its contract: what is granted is the function's own.
use Rattle.function.proofs.Laws.{low-limit}
use Rattle.function.specs.Table.{function_of}
use Rattle.scratch.specs.State.{T}
use Rattle.entries.specs.Known.{free_in}
use Rattle.parallel_moves.proofs.Resolving.{own-ok, own-resolves}
use borrow.Author.Rules.{rules}
use Rattle.parallel_moves.proofs.resolve_available.Goals as goal

pub own_grant-g-requires : goal.own_grant-g-requires
own_grant-g-requires c =
    let args = c.args in
    low-limit (T args.t.now) (function_of args.f.now) c.requires.0.function

pub resolve_granted-requires : goal.resolve_granted-requires
resolve_granted-requires c =
    let pre = c.requires in
    let own-grant = c.own_grant-g in
    let args = c.args in
    (pre.0, pre.1, rw own-grant.ensures (own-ok args.t.now args.f.now args.cache.now pre.0 pre.2))

pub returns : goal.returns
returns c =
    let args = c.args in
    let own-grant = c.own_grant-g in
    record { resolves = own-resolves args.t.now args.f.now args.cache.now (free_in args.given args.available.now) args.list.now own-grant.result own-grant.ensures _ _ _ args.e.now c.resolve_granted.ensures.resolves_granted; anything = search rules }
