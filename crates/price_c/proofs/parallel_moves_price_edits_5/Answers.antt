-- Meets its contract: the numbers in their order.
use mathlib.Core.Path.{sym, ◌∙◌}
use borrow.Author.Tests.{lt-ltb, le-ltb}
use lib.ListN.{length}
use Rattle.price.specs.Price.{prices_in}
use Rattle.price_c.specs.Priced.{few_edits}
use Rattle.price_c.proofs.Laws.{gives-19, gives-2}
use Rattle.price_c.proofs.parallel_moves_price_edits_5.Goals as goal

pub returns-then-is_outside : goal.returns-then-is_outside
returns-then-is_outside c =
    let a = c.args in
    let out = rw c.prices_of-p.ensures at (sym c.is_outside.ensures ∙ c.if-is_outside.true) in
    gives-19 (prices_in a.prices.now) a.runs (few_edits a.list.now) a.total.now a.runs_as_double.now a.product.now out

pub returns-then-list-gt1024 : goal.returns-then-list-gt1024
returns-then-list-gt1024 c =
    let a = c.args in
    let out = rw c.prices_of-p.ensures at (sym c.is_outside.ensures ∙ c.if-is_outside.false) in
    gives-2 (prices_in a.prices.now) a.runs (few_edits a.list.now) a.total.now a.runs_as_double.now a.product.now out
    (rw (lt-ltb 1024 (length a.list.now) c.if-list-gt1024.true))

pub put_price-requires : goal.put_price-requires
put_price-requires c = (sym c.is_outside.ensures ∙ c.if-is_outside.false, c.if-list-gt1024.false)

pub returns : goal.returns
returns c = rw (le-ltb 1024 _ c.if-list-gt1024.false) (rw c.prices_of-p.ensures at c.put_price.ensures)
