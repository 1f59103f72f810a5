-- `settle` meets its contract.
use Rattle.parallel_moves.proofs.Running.{settled-none, settled-given}
use Rattle.parallel_moves.proofs.settle.Goals as goal

pub returns-then-given : goal.returns-then-given
returns-then-given c = settled-given _ _ c.if-given.true

pub returns : goal.returns
returns c = settled-none _ _ _ c.if-given.false c.clear.ensures.0
