-- `remat_word` meets its contract: a place is packed by its code.
use Rattle.entity.proofs.Laws.{code-there}
use Rattle.edit.proofs.remat_word.Goals as goal

pub returns : goal.returns
returns c = rw (code-there c.args.to.0) c.pack.ensures
