-- `value_bank` meets its contract.
use Rattle.function.proofs.Table.{value-bank-is}
use Rattle.function.proofs.value_bank.Goals as goal

pub returns : goal.returns
returns c = rw (value-bank-is c.args.f.now c.args.v.0 c.requires.is, c.from-i.ensures)
