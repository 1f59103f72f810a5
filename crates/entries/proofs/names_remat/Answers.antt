-- `names_remat` meets its contract.
use borrow.Author.Tests.{not-true, not-false}
use Rattle.entries.proofs.names_remat.Goals as goal

pub returns-then-not-names_place : goal.returns-then-not-names_place
returns-then-not-names_place c = rw (← c.names_place.ensures, not-true c.names_place.result c.if-not-names_place.true-raw)

pub returns : goal.returns
returns c = rw (← c.names_place.ensures, not-false c.names_place.result c.if-not-names_place.false-raw, c.num_values.ensures)
