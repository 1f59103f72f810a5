-- `answer_patch` meets its contract.
use lib.ListN.{drop}
use Rattle.reginfo.specs.Table.{reg_info_of}
use Rattle.function.specs.Table.{function_of}
use Rattle.group_rules.specs.Groups.{resolve_by_groups}
use Rattle.job_patch.specs.Patches.{patch}
use Rattle.job.proofs.Stepping.{step-refused, step-got}
use borrow.Author.Rules.{rules}
use Rattle.answer_groups.proofs.answer_patch.Goals as goal

pub returns-in-Refused : goal.returns-in-Refused
returns-in-Refused c =
    let a = c.args in
    let read = c.read_patch in
    record { step_at = step-refused a.t.now a.f.now a.s.now (patch (reg_info_of a.t.now) (function_of a.f.now) (drop a.at a.s.now)) read.new.free read.new.e read.new.w resolve_by_groups _ a.list.now a.cache.now (rw c.in-Refused.is at read.ensures); anything = (tt, tt, tt, tt, tt, tt, tt, tt, tt, tt); anything_2 = (tt, tt, tt, tt, tt, tt, tt) }

pub returns-in-At : goal.returns-in-At
returns-in-At c =
    let a = c.args in
    let read = c.read_patch in
    record { step_at = step-got a.t.now a.f.now a.s.now (patch (reg_info_of a.t.now) (function_of a.f.now) (drop a.at a.s.now)) read.new.free read.new.e read.new.w resolve_by_groups _ _ a.list.now _ a.cache.now _ (rw c.in-At.is at read.ensures) (λ p rest q h. c.resolve_read.ensures.call_at p rest q h.free-is); anything = (tt, tt, tt, tt, tt, tt, tt, tt, tt, tt); anything_2 = (tt, tt, tt, tt, tt, tt, tt) }
