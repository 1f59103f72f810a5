-- `fill` meets its contract: the table is the one that was lent after the writes of the shipped target.
use Rattle.shipped.proofs.Writes.{shipped-written}
use Rattle.shipped.proofs.Filled.{filled_is, filled_indexed}
use Rattle.shipped.proofs.fill.Goals as goal

pub returns : goal.returns
returns c =
    let t = c.args.t.now in
    let s = c.told-t in
    rw (c.put_regs.ensures, c.put_bank-3.ensures, c.put_bank-2.ensures, c.put_bank.ensures)
    (rw (shipped-written t) at (filled_is t s), rw (shipped-written t) at (filled_indexed t s))
