use mathlib.Core.Path.{sym, ◌∙◌}
use native.Mathlib.Omega.{arith}
use Rattle.entity.specs.Place.{place_at}
use Rattle.reginfo.specs.RegInfo.{place_units}
use Rattle.reginfo.specs.Table.{reg_info_of}
use Rattle.entity.proofs.Laws.{has_get_d}
use Rattle.visits.specs.Marks.{states_of}
use Rattle.visits.proofs.Writers.{source-writable, open-writers, open_step, open-end}
use Rattle.visits.proofs.has_open_writer.Goals as goal

pub is_open-requires : goal.is_open-requires
is_open-requires c =
    let a = c.args in
    let p = c.kept_source-p.result in
    (c.requires.0.linked, rw c.place_unit.ensures ((source-writable _ _ _ _ c.requires.0 c.kept_source-p.ensures c.requires.1).low _ (has_get_d (place_units (reg_info_of a.t.now) (place_at p.0)) c.loop-j.j (omega arith))))

pub returns-then-is_open : goal.returns-then-is_open
returns-then-is_open c =
    let a = c.args in
    let l = c.loop-j in
    let u = c.place_unit in
    λ f. sym (l.invariant.0 ∙ open_step a.w.now (states_of a.marks.now) _ l.j u.result.0 c.is_open.result (omega arith) u.ensures c.is_open.ensures ∙ rw c.if-is_open.true) ∙ open-writers _ _ _ _ c.requires.0 c.kept_source-p.ensures (states_of a.marks.now) f

pub loop-j-preserved : goal.loop-j-preserved
loop-j-preserved c =
    let a = c.args in
    let l = c.loop-j in
    let u = c.place_unit in
    (l.invariant.0 ∙ open_step a.w.now (states_of a.marks.now) _ l.j u.result.0 c.is_open.result (omega arith) u.ensures c.is_open.ensures ∙ rw c.if-is_open.false, omega arith)

pub returns : goal.returns
returns c =
    let a = c.args in
    let l = c.loop-j in
    λ f. sym (l.invariant.0 ∙ open-end a.w.now (states_of a.marks.now) _ l.j (omega arith)) ∙ open-writers _ _ _ _ c.requires.0 c.kept_source-p.ensures (states_of a.marks.now) f
