-- `put_table` meets its contract: the parts one after the other.
use borrow.Author.Rules.{rules}
use Rattle.print.proofs.Putting.{then-put}
use Rattle.try_settings.proofs.put_table.Goals as goal

pub returns : goal.returns
returns c = then-put c.put_head-a.ensures.0 (then-put c.put_first-b.ensures.0 (then-put c.put_second-c.ensures.0 c.put_refusals.ensures))
