-- `rebuild_in` meets its contract: with scratch where the class has not the destination.
use Rattle.entries.proofs.new_remat_in.Goals as goal

pub returns : goal.returns
returns c = rw (← c.class_has-direct.ensures) c.new_remat.ensures
