-- By the number of formulas.
use Rattle.reading.specs.declared.Next.TheVariants as X
use Rattle.frame.proofs.Opening.{there-is, there-is-none}
use Rattle.frame.proofs.open_if_there.Goals as goal

pub returns-then-i-number : goal.returns-then-i-number
returns-then-i-number c =
    let a = c.args in
    let n = c.number in
    let o = c.open_formula in
    there-is a.frame.now o.new.frame a.i n.result n.ensures a.s.now a.at o.result o.new.t o.new.f a.cache.now o.new.cache c.if-i-number.true o.ensures

pub returns : goal.returns
returns c =
    let a = c.args in
    let n = c.number in
    there-is-none a.frame.now a.frame.now a.i n.result n.ensures a.s.now a.at (X.At a.at) a.t.now a.f.now a.cache.now a.cache.now c.if-i-number.false
