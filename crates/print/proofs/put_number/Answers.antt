-- `put_number` meets its contract: `io::decimal` spells the number so.
use Rattle.print.proofs.Decimal.{spelled}
use Rattle.print.proofs.put_number.Goals as goal

pub put_text-requires : goal.put_text-requires
put_text-requires c = let d = c.decimal-k in rw (d.ensures.digits, spelled _ _ d.ensures.len) c.requires

pub returns : goal.returns
returns c =
    let t = c in
    let d = t.decimal-k in
    rw (d.ensures.digits, spelled _ _ d.ensures.len) at t.put_text.ensures
