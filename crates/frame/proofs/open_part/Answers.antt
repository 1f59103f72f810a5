-- The bytes from the offset on, as many as were counted.
use Rattle.frame.proofs.Opening.{too_short, not-open, is_open}
use Rattle.frame.proofs.open_part.Goals as goal

pub returns-then-s-at : goal.returns-then-s-at
returns-then-s-at c =
    let a = c.args in
    too_short a.frame.now a.frame.now a.i a.kept_evictions a.n a.s.now a.at a.t.now a.f.now a.cache.now a.cache.now c.if-s-at.true

pub returns-in-Refused : goal.returns-in-Refused
returns-in-Refused c =
    let a = c.args in
    let o = c.open_in in
    not-open a.frame.now o.new.frame a.i a.kept_evictions a.n a.s.now a.at o.new.t o.new.f a.cache.now o.new.cache c.if-s-at.false c.requires.1 o.result o.ensures _ c.in-Refused.is

pub returns-in-Yes : goal.returns-in-Yes
returns-in-Yes c =
    let a = c.args in
    let o = c.open_in in
    is_open a.frame.now o.new.frame a.i a.kept_evictions a.n a.s.now a.at o.new.t o.new.f a.cache.now o.new.cache c.if-s-at.false c.requires.1 o.result o.ensures c.in-Yes.is
