use native.Mathlib.Omega.{arith}
use Rattle.entity.specs.Place.{place_at}
use Rattle.entity.proofs.Laws.{has_get_d}
use Rattle.reginfo.specs.RegInfo.{place_units}
use Rattle.reginfo.specs.Table.{reg_info_of}
use Rattle.groups.proofs.Noting.{to_start, to-more, to_end}
use Rattle.groups.proofs.note_place.Goals as goal

pub num_place_units-n-requires : goal.num_place_units-n-requires
num_place_units-n-requires c = c.requires.0.known

pub loop-j-init : goal.loop-j-init
loop-j-init c = (omega arith, c.num_place_units-n.ensures, to_start _ (place_units (reg_info_of c.args.t.now) (place_at c.args.p.0)) _ _ _)

pub place_unit-requires : goal.place_unit-requires
place_unit-requires c = let l = c.loop-j in (c.requires.0.known, omega (arith, l.invariant.1, c.loop-j-test.true))

pub note_unit-requires : goal.note_unit-requires
note_unit-requires c =
    let pre = c.requires in
    let args = c.args in
    let l = c.loop-j in (rw c.place_unit.ensures (pre.0.low _ (has_get_d (place_units (reg_info_of args.t.now) (place_at args.p.0)) l.j (omega (arith, l.invariant.1, c.loop-j-test.true)))), pre.1)

pub loop-j-preserved : goal.loop-j-preserved
loop-j-preserved c =
    let loop-test = c.loop-j-test in
    let args = c.args in
    let pre = c.requires in
    let l = c.loop-j in (omega (arith, loop-test.true), l.invariant.1, to-more _ (place_units (reg_info_of args.t.now) (place_at args.p.0)) _ l.j _ _ l.owners l.labels _ _ pre.1 (omega (arith, l.invariant.1, loop-test.true)) (pre.0.low _ (has_get_d (place_units (reg_info_of args.t.now) (place_at args.p.0)) l.j (omega (arith, l.invariant.1, loop-test.true)))) (rw (← c.place_unit.ensures) c.note_unit.ensures) l.invariant.2)

pub returns : goal.returns
returns c =
    let args = c.args in
    let l = c.loop-j in to_end _ (place_units (reg_info_of args.t.now) (place_at args.p.0)) _ l.j _ _ l.owners l.labels (omega (arith, l.invariant.1, c.loop-j-test.false)) l.invariant.2
