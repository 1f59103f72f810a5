-- `resolve_groups` meets its contract: refused for its free units, or what the patch is answered.
use mathlib.Core.Path.{sym, ◌∙◌}
use borrow.Author.Rules.{rules}
use Rattle.calls.proofs.Freeing.{none-given}
use Rattle.group_calls.proofs.Freeing.{free-refused, free-taken}
use Rattle.group_calls.proofs.resolve_groups.Goals as goal

pub returns-in-Refused : goal.returns-in-Refused
returns-in-Refused c =
    let a = c.args in
    record { gives = free-refused a.t.now a.f.now a.free.now a.numbers.now a.list.now a.cache.now _ _ (rw c.in-Refused.is at c.take_free.ensures); anything = (tt, tt, tt, tt, tt, tt, tt, tt, tt, tt); anything_2 = (tt, tt, tt, tt, tt, tt) }

pub resolve_groups-requires : goal.resolve_groups-requires
resolve_groups-requires c =
    let pre = c.requires in
    (pre.0, pre.1, λ q. none-given _ _ _ (rw c.in_default.is at c.take_free.ensures) (sym c.some_given-given.ensures ∙ q))

pub returns : goal.returns
returns c =
    let a = c.args in
    record { gives = free-taken a.t.now a.f.now a.free.now a.numbers.now a.list.now a.cache.now _ _ _ _ (rw c.in_default.is at c.take_free.ensures) c.resolve_groups.ensures.groups; anything = (tt, tt, tt, tt, tt, tt, tt, tt, tt, tt); anything_2 = (tt, tt, tt, tt, tt, tt) }
