-- `word_at` meets its contract: it stands at its cell.
use mathlib.Core.Path.{sym}
use Rattle.cells.proofs.Laws.{word_of}
use Rattle.cells.proofs.word_at.Goals as goal

pub returns : goal.returns
returns c = let s = c in sym (word_of s.args.c.now s.args.u s.requires)
