-- `put_first` meets its contract: row by row.
use native.Mathlib.Omega.{arith}
use borrow.Author.Rules.{rules}
use Rattle.print.proofs.Putting.{then-put}
use Rattle.try_settings.proofs.put_first.Goals as goal

pub returns : goal.returns
returns c =
    let a = c.put_row-a.ensures in
    let b = c.put_row-b.ensures in
    let d = c.put_row-c.ensures in
    let e = c.put_row.ensures in
    (then-put a.0 (then-put b.0 (then-put d.0 e.0)), omega (arith, a.1, b.1, d.1, e.1))
