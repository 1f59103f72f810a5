use Rattle.reginfo.specs.Table.{reg_info_of}
use Rattle.function.specs.Function.{num_values}
use Rattle.function.specs.Table.{function_of}
use Rattle.rules.specs.Patch.{remat}
use Rattle.number.specs.Read.{got, then}
use Rattle.reading.specs.Reading.{below}
use Rattle.job_patch.specs.Patches.{place}
use Rattle.job_patch.proofs.Adding.{part-refused, part-read}
use Rattle.job_patch.proofs.read_remat.Goals as goal

pub returns-in-Refused : goal.returns-in-Refused
returns-in-Refused c =
    let a = c.args in
    let h = rw c.in-Refused.is at c.read_place.ensures in
    part-refused a.t.now a.f.now a.s.now a.e.now a.w.now a.at (place (reg_info_of a.t.now) (function_of a.f.now)) (λ d q. then (below (num_values (function_of a.f.now)) q) (λ v p. got (remat d v) p)) _ h.reads

pub returns-in-Is : goal.returns-in-Is
returns-in-Is c =
    let a = c.args in
    let h = rw c.in-Is.is at c.read_place.ensures in
    part-read a.t.now a.f.now a.s.now a.e.now a.w.now a.at (place (reg_info_of a.t.now) (function_of a.f.now)) (λ d q. then (below (num_values (function_of a.f.now)) q) (λ v p. got (remat d v) p)) _ _ _ _ _ h.reads h.onward c.read_remat_of.ensures
