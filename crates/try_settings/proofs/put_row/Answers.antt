-- `put_row` meets its contract.
use native.Mathlib.Omega.{arith}
use borrow.Author.Rules.{rules}
use Rattle.print.proofs.Putting.{then-put}
use Rattle.try_settings.proofs.put_row.Goals as goal

pub returns : goal.returns
returns c =
    let a = c.put_label-i.ensures in
    let b = c.put_cell-j.ensures in
    let d = c.put_cell-k.ensures in
    let e = c.put_text.ensures in
    (then-put a.0 (then-put b.0 (then-put d.0 e)), omega (arith, a.1, b.1, d.1, e.next))
