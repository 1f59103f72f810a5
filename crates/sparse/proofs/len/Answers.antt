-- `len` meets its contract: the count is the number of keys.
use mathlib.Core.Path.{◌∙◌, sym}
use Rattle.sparse.proofs.Laws.{length-keys}
use Rattle.sparse.proofs.len.Goals as goal

pub returns : goal.returns
returns c = c.from.ensures ∙ sym (length-keys c.args.t.now)
