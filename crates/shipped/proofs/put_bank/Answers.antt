-- `put_bank` meets its contract, part by part.
use Rattle.shipped.proofs.Writes.{bank-written}
use Rattle.shipped.proofs.put_bank.Goals as goal

pub returns : goal.returns
returns c = rw (bank-written, c.put_class-2.ensures, c.put_class.ensures, c.from-i.ensures)
