use mathlib.Core.Path.{refl}
use lib.ListN.{drop}
use Rattle.reginfo.specs.Table.{reg_info_of}
use Rattle.function.specs.Table.{function_of}
use Rattle.job_patch.specs.Patches.{patch}
use Rattle.rules.specs.Patch.{resolve}
use Rattle.job.proofs.Stepping.{entries-there, step-refused, step-read}
use borrow.Author.Rules.{rules}
use Rattle.job.proofs.answer_patch.Goals as goal

pub resolve_before-requires : goal.resolve_before-requires
resolve_before-requires c =
    let a = c.args in
    let pre = c.requires in
    let read = c.read_patch in
    (pre.0, entries-there a.t.now a.f.now a.s.now (patch (reg_info_of a.t.now) (function_of a.f.now) (drop a.at a.s.now)) read.new.free read.new.e read.new.w _ (rw c.in-At.is at read.ensures), pre.1)

pub returns-in-Refused : goal.returns-in-Refused
returns-in-Refused c =
    let a = c.args in
    let read = c.read_patch in
    record { step_at = step-refused a.t.now a.f.now a.s.now (patch (reg_info_of a.t.now) (function_of a.f.now) (drop a.at a.s.now)) read.new.free read.new.e read.new.w resolve _ a.list.now a.cache.now (rw c.in-Refused.is at read.ensures); anything = search rules }

pub returns-in-At : goal.returns-in-At
returns-in-At c =
    let a = c.args in
    let read = c.read_patch in
    record { step_at = step-read a.t.now a.f.now a.s.now (patch (reg_info_of a.t.now) (function_of a.f.now) (drop a.at a.s.now)) read.new.free read.new.e read.new.w a.at _ _ a.list.now _ a.cache.now _ refl (rw c.in-At.is at read.ensures) c.resolve_before.ensures.by_index; anything = search rules }
