use mathlib.Core.Path.{sym, ◌∙◌}
use native.Mathlib.Omega.{arith}
use Rattle.entity.specs.Place.{Place, reg, slot}
use Rattle.reginfo.specs.Table.{reg_info_of}
use Rattle.reginfo.proofs.Laws.{by_kind}
use Rattle.small_set.specs.Set.{set_of, inserted_all}
use Rattle.search.specs.Search.{with_units}
use Rattle.search.proofs.Laws.{insert-step, walk_end, with-units, unit-below}
use Rattle.search.proofs.insert_units.Goals as goal

pub returns-in_default : goal.returns-in_default
unfolding inserted_all
returns-in_default c =
    let a = c.args in
    let t = reg_info_of a.t.now in
    with-units t (slot 0) (set_of a.s.now) ∙ by_kind (λ (q : Place). with_units t q (set_of a.s.now)) c.kind.ensures c.in_default.is

pub insert-requires : goal.insert-requires
insert-requires c =
    let l = c.loop-j in
    unit-below _ _ l.j c.reg_unit.result.0 l.invariant.known (omega arith) c.reg_unit.ensures

pub loop-j-preserved : goal.loop-j-preserved
loop-j-preserved c =
    let l = c.loop-j in
    let u = c.reg_unit in
    insert-step _ _ l.j u.result.0 _ (set_of l.s) (set_of c.insert.new.s) l.invariant (omega arith) u.ensures c.insert.ensures.0

pub returns : goal.returns
unfolding inserted_all
returns c =
    let l = c.loop-j in
    let a = c.args in
    let t = reg_info_of a.t.now in
    sym (walk_end inserted_all t c.in-PhysReg.r.0 l.j (set_of a.s.now) (set_of l.s) l.invariant (omega arith)) ∙ with-units t (reg c.in-PhysReg.r.0) (set_of a.s.now) ∙ by_kind (λ (q : Place). with_units t q (set_of a.s.now)) c.kind.ensures c.in-PhysReg.is
