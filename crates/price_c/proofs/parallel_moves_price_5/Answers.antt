-- Meets its contract: the numbers in their order, then the price of the words found.
use mathlib.Core.Path.{sym, ◌∙◌}
use native.Mathlib.Omega.{arith}
use Rattle.edges.specs.Patches.{patch_numbered}
use Rattle.edges.proofs.Laws.{nothing-found, found, part-is, part-long, part-few}
use Rattle.price.specs.Price.{prices_in}
use Rattle.price_c.proofs.Laws.{gives-19, gives-2}
use Rattle.price_c.proofs.parallel_moves_price_5.Goals as goal

pub returns-then-is_outside : goal.returns-then-is_outside
returns-then-is_outside c =
    let a = c.args in
    let out = rw c.prices_of-p.ensures at (sym c.is_outside.ensures ∙ c.if-is_outside.true) in
    gives-19 (prices_in a.prices.now) a.runs (patch_numbered a.patch a.words.now) a.total.now a.runs_as_double.now a.product.now out

pub offset_bounds-words-from : goal.offset_bounds-words-from
offset_bounds-words-from c =
    let a = c.args in
    let f = found a.words.now (patch_numbered a.patch a.words.now) _ _ (rw c.in-Some.is at c.find.ensures) in
    omega (arith, f.1)

pub slice_bounds-behind-count : goal.slice_bounds-behind-count
slice_bounds-behind-count c =
    let a = c.args in
    let f = found a.words.now (patch_numbered a.patch a.words.now) _ _ (rw c.in-Some.is at c.find.ensures) in
    omega (arith, f.1)

pub slice_bounds-put_price-end : goal.slice_bounds-put_price-end
slice_bounds-put_price-end c =
    let a = c.args in
    let f = found a.words.now (patch_numbered a.patch a.words.now) _ _ (rw c.in-Some.is at c.find.ensures) in
    part-long a.words.now _ _ f.1

pub put_price-requires : goal.put_price-requires
put_price-requires c =
    let a = c.args in
    let f = found a.words.now (patch_numbered a.patch a.words.now) _ _ (rw c.in-Some.is at c.find.ensures) in
    (sym c.is_outside.ensures ∙ c.if-is_outside.false, part-few a.words.now _ _ f.2)

pub returns-in-None : goal.returns-in-None
returns-in-None c =
    let a = c.args in
    let out = rw c.prices_of-p.ensures at (sym c.is_outside.ensures ∙ c.if-is_outside.false) in
    let e = nothing-found a.words.now (patch_numbered a.patch a.words.now) (rw c.in-None.is at c.find.ensures) in
    gives-2 (prices_in a.prices.now) a.runs (patch_numbered a.patch a.words.now) a.total.now a.runs_as_double.now a.product.now out e

pub returns-in-Some : goal.returns-in-Some
returns-in-Some c =
    let a = c.args in
    let f = found a.words.now (patch_numbered a.patch a.words.now) _ _ (rw c.in-Some.is at c.find.ensures) in
    rw f.0 (rw (c.prices_of-p.ensures, part-is a.words.now _ _) at c.put_price.ensures)
