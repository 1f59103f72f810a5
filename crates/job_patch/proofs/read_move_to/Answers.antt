use Rattle.entity.specs.Place.{place_at}
use Rattle.reginfo.specs.Table.{reg_info_of}
use Rattle.function.specs.Function.{num_values}
use Rattle.function.specs.Table.{function_of}
use Rattle.rules.specs.Patch.{move}
use Rattle.number.specs.Read.{got, then}
use Rattle.reading.specs.Reading.{below}
use Rattle.job_patch.specs.Patches.{place}
use Rattle.job_patch.proofs.Adding.{part-refused, part-read}
use Rattle.job_patch.proofs.read_move_to.Goals as goal

pub returns-in-Refused : goal.returns-in-Refused
returns-in-Refused c =
    let a = c.args in
    let h = rw c.in-Refused.is at c.read_place.ensures in
    part-refused a.t.now a.f.now a.s.now a.e.now a.w.now a.at (place (reg_info_of a.t.now) (function_of a.f.now)) (λ d p. then (below (num_values (function_of a.f.now)) p) (λ v o. got (move (place_at a.source) d v) o)) _ h.reads

pub returns-in-Is : goal.returns-in-Is
returns-in-Is c =
    let a = c.args in
    let h = rw c.in-Is.is at c.read_place.ensures in
    part-read a.t.now a.f.now a.s.now a.e.now a.w.now a.at (place (reg_info_of a.t.now) (function_of a.f.now)) (λ d p. then (below (num_values (function_of a.f.now)) p) (λ v o. got (move (place_at a.source) d v) o)) _ _ _ _ _ h.reads h.onward c.read_move_of.ensures
