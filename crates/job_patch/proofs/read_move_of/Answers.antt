use Rattle.entity.specs.Place.{place_at}
use Rattle.function.specs.Function.{num_values}
use Rattle.function.specs.Table.{function_of}
use Rattle.rules.specs.Patch.{move}
use Rattle.number.specs.Read.{got}
use Rattle.reading.specs.Reading.{below}
use Rattle.function.proofs.Laws.{few-values}
use Rattle.job_patch.proofs.Adding.{part-refused, entry-added}
use Rattle.job_patch.proofs.read_move_of.Goals as goal

pub read_value-requires : goal.read_value-requires
read_value-requires c = few-values _ _ c.requires.0.function

pub returns-in-Refused : goal.returns-in-Refused
returns-in-Refused c =
    let a = c.args in
    let h = rw c.in-Refused.is at c.read_value.ensures in
    part-refused a.t.now a.f.now a.s.now a.e.now a.w.now a.at (below (num_values (function_of a.f.now))) (λ v o. got (move (place_at a.source) (place_at a.dest) v) o) _ h.reads

pub returns-in-Is : goal.returns-in-Is
returns-in-Is c =
    let a = c.args in
    let h = rw c.in-Is.is at c.read_value.ensures in
    rw c.added.ensures (entry-added a.t.now a.f.now a.s.now a.e.now _ _ _ a.at _ _ (below (num_values (function_of a.f.now))) (λ v. move (place_at a.source) (place_at a.dest) v) _ h.reads h.onward c.add_move-r.ensures)
