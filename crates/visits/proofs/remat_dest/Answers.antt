-- `remat_dest` meets its contract.
use Rattle.entries.specs.Table.{remat_at}
use Rattle.visits.proofs.Marks.{remat-is}
use Rattle.visits.proofs.remat_dest.Goals as goal

pub returns : goal.returns
unfolding remat_at
returns c = rw (remat-is c.args.e.now c.args.i c.requires.0)
