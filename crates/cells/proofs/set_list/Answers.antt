-- `set_list` meets its contract: the words are stored behind a mark.
use mathlib.Core.Path.{◌≡◌}
use lib.ListN.{length}
use borrow.Author.Rules.{rules}
use Rattle.cells.proofs.Laws.{list_put, list-short}
use Rattle.cells.proofs.set_list.Goals as goal

pub returns : goal.returns
returns c = let s = c in let n : length c.store.new.c ≡ 67072 = search rules in rw c.from.ensures (list_put s.args.c.now _ s.args.b.now s.args.at n s.requires.1 s.requires.2 c.store.ensures s.requires.0, list-short s.args.c.now _ s.args.b.now s.args.at n s.requires.1 s.requires.2 c.store.ensures s.requires.0)
