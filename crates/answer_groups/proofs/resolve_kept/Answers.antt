-- `resolve_kept` meets its contract: what a call by groups is answered, of the numbers at the front of the table.
use Prim.Native.Nat.{◌*◌}
use mathlib.Core.Path.{sym}
use native.Mathlib.Omega.{arith}
use lib.ListN.{length}
use lib.Seq.{length-take-le}
use Rattle.reginfo.specs.Table.{reg_info_of}
use Rattle.function.specs.Table.{function_of}
use Rattle.slots.specs.Stacks.{cache_of}
use Rattle.group_rules.specs.Groups.{resolve_by_groups}
use Rattle.job.proofs.Stepping.{call-refused, call-edits}
use Rattle.answer_groups.proofs.Reading.{some-given}
use borrow.Author.Rules.{rules}
use Rattle.answer_groups.proofs.resolve_kept.Goals as goal

pub slice_bounds-resolve_groups-end : goal.slice_bounds-resolve_groups-end
slice_bounds-resolve_groups-end c =
    sym (length-take-le (c.args.n * 4) c.args.numbers.now (omega (arith, c.requires.3)))

pub resolve_groups-requires : goal.resolve_groups-requires
resolve_groups-requires c =
    let pre = c.requires in
    (pre.0, pre.1, λ q u. some-given q)

pub returns-in-Refused : goal.returns-in-Refused
returns-in-Refused c =
    let a = c.args in
    record { call_at = λ p num. call-refused a.f.now a.after a.list.now _ a.cache.now _ (resolve_by_groups (reg_info_of a.t.now) (function_of a.f.now) p (length a.list.now) (cache_of a.cache.now)) _ (rw c.in-Refused.is at (c.resolve_groups.ensures.groups p num)); anything = (tt, tt, tt, tt, tt, tt, tt, tt, tt); anything_2 = (tt, tt, tt, tt, tt, tt) }

pub returns-in-Edits : goal.returns-in-Edits
returns-in-Edits c =
    let a = c.args in
    record { call_at = λ p num. call-edits a.f.now a.after a.list.now _ a.cache.now _ (resolve_by_groups (reg_info_of a.t.now) (function_of a.f.now) p (length a.list.now) (cache_of a.cache.now)) _ _ (rw c.in-Edits.is at (c.resolve_groups.ensures.groups p num)); anything = (tt, tt, tt, tt, tt, tt, tt, tt, tt); anything_2 = (tt, tt, tt, tt, tt, tt) }
