-- `take_given` meets its contract.
use Rattle.calls.proofs.Freeing.{none-taken, some-taken}
use Rattle.calls.proofs.take_given.Goals as goal

pub returns-then-free-eq0 : goal.returns-then-free-eq0
returns-then-free-eq0 c = none-taken _ _ _ c.if-free-eq0.true

pub returns : goal.returns
returns c = some-taken _ _ _ _ c.if-free-eq0.false c.take_free.ensures
