-- `resolve_groups` meets its contract: what is granted is the function's own.
use Rattle.function.proofs.Laws.{low-limit}
use Rattle.function.specs.Table.{function_of}
use Rattle.scratch.specs.State.{T}
use Rattle.parallel_moves.proofs.Resolving.{own-ok}
use Rattle.grouping.proofs.Ending.{own-groups}
use Rattle.grouping.proofs.resolve_groups.Goals as goal

pub own_grant-g-requires : goal.own_grant-g-requires
own_grant-g-requires c =
    let args = c.args in
    low-limit (T args.t.now) (function_of args.f.now) c.requires.0.function

pub resolve_groups_granted-requires : goal.resolve_groups_granted-requires
resolve_groups_granted-requires c =
    let pre = c.requires in
    let own-grant = c.own_grant-g in
    let args = c.args in
    (pre.0, rw own-grant.ensures (own-ok args.t.now args.f.now args.cache.now pre.0 pre.1), pre.2)

pub returns : goal.returns
returns c =
    let args = c.args in
    let own-grant = c.own_grant-g in
    record { groups = own-groups args.t.now args.f.now args.cache.now args.free.now args.list.now own-grant.result own-grant.ensures _ _ _ args.numbers.now c.resolve_groups_granted.ensures.groups_granted; anything = (tt, tt, tt, tt, tt, tt, tt, tt, tt); anything_2 = (tt, tt, tt, tt, tt, tt) }
