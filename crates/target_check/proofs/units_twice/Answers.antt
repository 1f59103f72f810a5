-- A register's units are cells of the table.
use native.Mathlib.Omega.{arith}
use Rattle.reginfo.specs.Table.{reg_info_of}
use Rattle.target_limits.proofs.Laws.{units-cells}
use Rattle.target_limits.proofs.Limits.{reg_known, width_few}
use Rattle.target_check.proofs.units_twice.Goals as goal

pub units_from-at-requires : goal.units_from-at-requires
units_from-at-requires c = omega (arith, reg_known (reg_info_of c.args.t.now) c.requires.0 c.args.r.0 c.requires.1)

pub num_reg_units-n-requires : goal.num_reg_units-n-requires
num_reg_units-n-requires c = reg_known (reg_info_of c.args.t.now) c.requires.0 c.args.r.0 c.requires.1

pub cells_twice-requires : goal.cells_twice-requires
cells_twice-requires c =
    let start = c in
    omega (arith, width_few (reg_info_of start.args.t.now) start.requires.0 start.args.r.0 start.requires.1, reg_known (reg_info_of start.args.t.now) start.requires.0 start.args.r.0 start.requires.1)

pub returns : goal.returns
returns c =
    let start = c in
    rw (c.units_from-at.ensures, c.num_reg_units-n.ensures, ← units-cells start.args.t.now start.args.r.0 start.requires.1) at c.cells_twice.ensures
