use Rattle.parallel_moves.proofs.Adding.{as-move, as-remat, as-nothing}
use Rattle.parallel_moves.proofs.numbered.add_entry.Goals as goal

pub returns-in-0 : goal.returns-in-0
returns-in-0 c = as-move _ _ _ _ _ _ _ _ _ _ _ c.in-0.is c.add_move.ensures

pub returns-in-1 : goal.returns-in-1
returns-in-1 c = as-remat _ _ _ _ _ _ _ _ _ _ _ c.in-1.is c.add_remat.ensures

pub returns-in_default : goal.returns-in_default
returns-in_default c = as-nothing _ _ _ _ _ _ _ _ _ _ _ c.in_default.in_default-own.rest.0.1 c.in_default.in_default-own.rest.1 c.add_remat-in_default.ensures
