use Rattle.calls.specs.Opening as calls
use Rattle.calls_c.proofs.Calling.{opened, not_opened}
use borrow.Author.Rules.{rules}
use Rattle.calls_c.proofs.parallel_moves_open_5.Goals as goal

pub returns-in-Yes : goal.returns-in-Yes
returns-in-Yes c = let a = c.args in opened _ _ a.cache.now _ (calls.opened a.kept_evictions a.bytes.now) (rw c.in-Yes.is at c.open.ensures)

pub returns-in-Refused : goal.returns-in-Refused
returns-in-Refused c = let a = c.args in not_opened _ _ a.cache.now _ (calls.opened a.kept_evictions a.bytes.now) _ (rw c.in-Refused.is at c.open.ensures)
