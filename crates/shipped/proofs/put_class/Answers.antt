-- `put_class` meets its contract, part by part.
use Rattle.shipped.proofs.Writes.{class-written}
use Rattle.shipped.proofs.put_class.Goals as goal

pub returns : goal.returns
returns c = rw (class-written, c.put_rising-3.ensures, c.put_rising-2.ensures, c.put_rising.ensures, c.from-first.ensures, c.from-i.ensures)
