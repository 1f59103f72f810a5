-- `put_reg` meets its contract.
use native.Mathlib.Omega.{arith}
use Rattle.shipped.specs.Writes.{written, reg_writes}
use Rattle.shipped.proofs.Rule.{list_inside}
use Rattle.shipped.proofs.put_reg.Goals as goal

pub overflow_cast-n : goal.overflow_cast-n
overflow_cast-n c = rw c.num_reg_units-count.ensures (omega (arith, list_inside c.args.r.0 c.requires))

pub put_units-requires : goal.put_units-requires
put_units-requires c = (c.requires, c.num_reg_units-count.ensures, omega (arith, c.requires, c.from-i.ensures, c.num_reg_units-count.ensures, list_inside c.args.r.0 c.requires))

pub returns : goal.returns
unfolding written reg_writes
returns c = rw (c.put_units.ensures, c.num_reg_units-count.ensures, c.from-i.ensures)
