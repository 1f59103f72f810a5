-- `place_unit` meets its contract: a register's unit, or the slot's only one.
use native.Mathlib.Omega.{arith}
use lib.ListN.{get_or, length}
use Rattle.entity.specs.Place.{Place}
use Rattle.entity.proofs.Laws.{has_get_d}
use Rattle.reginfo.specs.RegInfo.{place_units, reg_units}
use Rattle.reginfo.specs.Table.{reg_info_of}
use Rattle.reginfo.proofs.Laws.{by_kind, known-kind}
use Rattle.reginfo.proofs.place_unit.Goals as goal

pub reg-requires : goal.reg-requires
reg-requires c =
    let k = known-kind (reg_info_of c.args.t.now) c.requires.0 c.kind.ensures c.in-PhysReg.is in
    let e = by_kind (λ (q : Place). length (place_units (reg_info_of c.args.t.now) q)) c.kind.ensures c.in-PhysReg.is in
    let us = reg_units (reg_info_of c.args.t.now) c.in-PhysReg.r.0 in
    let h = k.low (get_or us c.args.j 0) (has_get_d us c.args.j (omega arith)) in
    omega arith
