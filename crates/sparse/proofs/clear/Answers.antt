-- `clear` meets its contract: with a count of 0 whatever the table holds is an empty map.
use Rattle.sparse.proofs.Laws.{forgotten}
use Rattle.sparse.proofs.clear.Goals as goal

pub returns : goal.returns
returns c = forgotten c.args.t.now c.told-t
