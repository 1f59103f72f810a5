-- `reg_unit` meets its contract: the unit list stands in the table.
use native.Mathlib.Omega.{arith}
use Rattle.shipped.proofs.Rule.{list_inside, unit-is}
use Rattle.shipped.proofs.reg_unit.Goals as goal

pub overflow_add-at : goal.overflow_add-at
overflow_add-at c = omega (arith, list_inside c.args.r.0 c.requires.0)

pub entry-requires : goal.entry-requires
entry-requires c = omega (arith, list_inside c.args.r.0 c.requires.0)

pub returns : goal.returns
returns c = rw (c.entry.ensures, c.unit_start.ensures) (unit-is c.args.r.0 c.requires.0 c.args.j c.requires.1)
