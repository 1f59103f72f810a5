use Rattle.schedule.proofs.Reading.{listing_step, listing-refused, listing-end}
use Rattle.schedule.proofs.read_numbers.Goals as goal

pub returns-in-Refused : goal.returns-in-Refused
returns-in-Refused c =
    let a = c.args in
    let l = c.loop-i in
    listing-refused a.s.now a.from a.n l.numbers l.at l.i l.invariant c.loop-i-test.true c.read.result c.read.ensures _ c.in-Refused.is

pub loop-i-preserved : goal.loop-i-preserved
loop-i-preserved c =
    let a = c.args in
    let l = c.loop-i in
    listing_step a.s.now a.from a.n l.numbers l.at l.i l.invariant c.loop-i-test.true c.read.result c.read.ensures c.requires _ _ c.in-Is.is

pub returns : goal.returns
returns c =
    let a = c.args in
    let l = c.loop-i in
    listing-end a.s.now a.from a.n l.numbers l.at l.i l.invariant c.loop-i-test.false
