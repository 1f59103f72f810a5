-- `remat_with_scratch_dest` meets its contract.
use Rattle.entries.specs.Table.{remat_at}
use Rattle.entries.proofs.Table.{scratch-is}
use Rattle.rules.specs.Order.{no_remat}
use Rattle.visits.proofs.remat_with_scratch_dest.Goals as goal

pub returns : goal.returns
unfolding remat_at
returns c = rw (scratch-is c.args.e.now c.args.i no_remat c.requires.0)
