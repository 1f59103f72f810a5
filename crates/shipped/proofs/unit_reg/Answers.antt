-- `unit_reg` meets its contract: the row stands in the table.
use Rattle.shipped.proofs.Rule.{reg-is}
use Rattle.shipped.proofs.unit_reg.Goals as goal

pub returns : goal.returns
returns c = rw (c.entry.ensures, c.from.ensures) (reg-is c.args.u.0 c.args.k c.requires.0 c.requires.1)
