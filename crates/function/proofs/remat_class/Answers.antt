-- `remat_class` meets its contract.
use Rattle.function.proofs.Table.{class-is}
use Rattle.function.proofs.remat_class.Goals as goal

pub returns : goal.returns
returns c = rw (class-is c.args.f.now c.args.v.0 c.requires.is, c.from-i.ensures)
