-- `reopen_unit` meets its contract.
use mathlib.Core.Path.{sym}
use borrow.Author.Tests.{not-true, not-false}
use Rattle.groups.proofs.reopen_unit.Goals as goal

pub returns-then-not-contains : goal.returns-then-not-contains
returns-then-not-contains c = rw (sym c.contains.ensures, not-true c.contains.result c.if-not-contains.true-raw)

pub returns : goal.returns
returns c =
    let contains = c.contains in
    rw (sym contains.ensures, not-false contains.result c.if-not-contains.false-raw) c.insert.ensures.0
