use native.Mathlib.Omega.{arith}
use Rattle.entity.specs.Place.{place_at}
use Rattle.reginfo.specs.RegInfo.{place_units}
use Rattle.reginfo.specs.Table.{reg_info_of}
use Rattle.entity.proofs.Laws.{has_get_d}
use Rattle.rules.specs.Order.{carry, writers}
use Rattle.visits.specs.Marks.{moves_of, states_of}
use Rattle.visits.proofs.Writers.{source-writable}
use Rattle.visits.proofs.Carrying.{carry-writers, carrying-none, carrying-step, carrying-end}
use Rattle.visits.proofs.carry.Goals as goal

pub loop-j-init : goal.loop-j-init
loop-j-init c = carrying-none _ _ _ _ _

pub carry_one-added-requires : goal.carry_one-added-requires
carry_one-added-requires c =
    let a = c.args in
    let l = c.loop-j in
    let p = c.kept_source-p.result in
    let ok = source-writable _ _ _ _ c.requires.0 c.kept_source-p.ensures c.requires.1 in
    (c.requires.0.linked, rw c.place_unit.ensures (ok.low _ (has_get_d (place_units (reg_info_of a.t.now) (place_at p.0)) l.j (omega arith))), omega (arith, c.requires.2, l.invariant.did.count, l.invariant.did.few, ok.few))

pub loop-j-preserved : goal.loop-j-preserved
loop-j-preserved c =
    let l = c.loop-j in
    carrying-step _ _ _ _ _ l.c c.carry_one-added.new.c l.added c.carry_one-added.result l.j c.place_unit.result.0 l.invariant (omega arith) c.place_unit.ensures c.carry_one-added.ensures

pub returns : goal.returns
returns c =
    let a = c.args in
    let l = c.loop-j in
    let v = c.kept_value-v.result.0 in
    let s = states_of a.marks.now in
    λ f. rw (← c.kept_value-v.ensures)
    (carrying-end _ _ _ _ _ l.c l.added l.j (carry v s (writers (reg_info_of a.t.now) f (moves_of a.e.now) a.m)) l.invariant (omega arith) (source-writable _ _ _ _ c.requires.0 c.kept_source-p.ensures c.requires.1).few (carry-writers _ _ _ _ c.requires.0 c.kept_source-p.ensures f v s))
