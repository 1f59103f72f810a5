-- `remat_cost` meets its contract.
use Rattle.function.proofs.Table.{cost-is}
use Rattle.function.proofs.remat_cost.Goals as goal

pub returns : goal.returns
returns c = rw (c.from.ensures, cost-is c.args.f.now c.args.v.0 c.requires.is, c.from-i.ensures)
