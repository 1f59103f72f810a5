-- `resolve_groups_granted` meets its contract: refused for its free units, or what the patch is answered.
use mathlib.Core.Path.{sym, ◌∙◌}
use borrow.Author.Rules.{rules}
use Rattle.calls.proofs.Freeing.{none-given}
use Rattle.group_calls.proofs.Freeing.{granted-refused, granted-taken}
use Rattle.group_calls.proofs.resolve_groups_granted.Goals as goal

pub returns-in-Refused : goal.returns-in-Refused
returns-in-Refused c =
    let a = c.args in
    record { gives_granted = granted-refused a.g a.t.now a.f.now a.free.now a.numbers.now a.list.now a.cache.now _ _ (rw c.in-Refused.is at c.take_free.ensures); anything = (tt, tt, tt, tt, tt, tt, tt, tt, tt, tt); anything_2 = (tt, tt, tt, tt, tt, tt) }

pub resolve_groups_granted-requires : goal.resolve_groups_granted-requires
resolve_groups_granted-requires c =
    let pre = c.requires in
    (pre.0, pre.1, λ q. none-given _ _ _ (rw c.in_default.is at c.take_free.ensures) (sym c.some_given-given.ensures ∙ q))

pub returns : goal.returns
returns c =
    let a = c.args in
    record { gives_granted = granted-taken a.g a.t.now a.f.now a.free.now a.numbers.now a.list.now a.cache.now _ _ _ _ (rw c.in_default.is at c.take_free.ensures) c.resolve_groups_granted.ensures.groups_granted; anything = (tt, tt, tt, tt, tt, tt, tt, tt, tt, tt); anything_2 = (tt, tt, tt, tt, tt, tt) }
