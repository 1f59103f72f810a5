-- `resolve_read` meets its contract: the second reading ends as the first, with the numbers of the entries.
use native.Mathlib.Omega.{arith}
use Rattle.reginfo.specs.Table.{reg_info_of}
use Rattle.function.specs.Table.{function_of}
use Rattle.answer_groups.proofs.Reading.{not-refused, numbered}
use borrow.Author.Rules.{rules}
use Rattle.answer_groups.proofs.resolve_read.Goals as goal

pub resolve_kept-requires : goal.resolve_kept-requires
resolve_kept-requires c =
    let pre = c.requires in
    let k = rw c.in-Is.is at c.read_numbers.ensures in
    (pre.0, pre.1, k.few, omega (arith, k.few, c.told-numbers))

pub returns-in-Refused : goal.returns-in-Refused
returns-in-Refused c =
    let a = c.args in
    record { call_at = λ p rest q is. absurd (not-refused (reg_info_of a.t.now) (function_of a.f.now) a.s.now a.at _ p rest q _ (rw c.in-Refused.is at c.read_numbers.ensures)); anything = (tt, tt, tt, tt, tt, tt, tt, tt, tt); anything_2 = (tt, tt, tt, tt, tt, tt, tt) }

pub returns-in-Is : goal.returns-in-Is
returns-in-Is c =
    let a = c.args in
    record { call_at = λ p rest q is. c.resolve_kept.ensures.call_at p (numbered (reg_info_of a.t.now) (function_of a.f.now) a.s.now a.at _ p rest q _ _ a.free.now (rw c.in-Is.is at c.read_numbers.ensures) is); anything = (tt, tt, tt, tt, tt, tt, tt, tt, tt); anything_2 = (tt, tt, tt, tt, tt, tt, tt) }
