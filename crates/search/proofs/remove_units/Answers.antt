use mathlib.Core.Path.{sym, ◌∙◌}
use native.Mathlib.Omega.{arith}
use Rattle.entity.specs.Place.{Place, reg, slot}
use Rattle.reginfo.specs.Table.{reg_info_of}
use Rattle.reginfo.proofs.Laws.{by_kind}
use Rattle.small_set.specs.Set.{set_of, removed_all}
use Rattle.search.specs.Search.{without_units}
use Rattle.search.proofs.Laws.{remove-step, walk_end, without-units, unit-below}
use Rattle.search.proofs.remove_units.Goals as goal

pub returns-in_default : goal.returns-in_default
unfolding removed_all
returns-in_default c =
    let a = c.args in
    let t = reg_info_of a.t.now in
    without-units t (slot 0) (set_of a.s.now) ∙ by_kind (λ (q : Place). without_units t q (set_of a.s.now)) c.kind.ensures c.in_default.is

pub remove-requires : goal.remove-requires
remove-requires c =
    let l = c.loop-j in
    unit-below _ _ l.j c.reg_unit.result.0 l.invariant.known (omega arith) c.reg_unit.ensures

pub loop-j-preserved : goal.loop-j-preserved
loop-j-preserved c =
    let l = c.loop-j in
    let u = c.reg_unit in
    remove-step _ _ l.j u.result.0 _ (set_of l.s) (set_of c.remove.new.s) l.invariant (omega arith) u.ensures c.remove.ensures.0

pub returns : goal.returns
unfolding removed_all
returns c =
    let l = c.loop-j in
    let a = c.args in
    let t = reg_info_of a.t.now in
    sym (walk_end removed_all t c.in-PhysReg.r.0 l.j (set_of a.s.now) (set_of l.s) l.invariant (omega arith)) ∙ without-units t (reg c.in-PhysReg.r.0) (set_of a.s.now) ∙ by_kind (λ (q : Place). without_units t q (set_of a.s.now)) c.kind.ensures c.in-PhysReg.is
