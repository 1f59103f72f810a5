-- The setting, then the length, then the opening.
use Rattle.frame.proofs.Opening.{no-setting, no_length, a-formula}
use mathlib.Core.Path.{refl}
use Rattle.frame.proofs.open_formula.Goals as goal

pub returns-in-Refused : goal.returns-in-Refused
returns-in-Refused c =
    let a = c.args in
    let r = c.read in
    no-setting a.frame.now a.frame.now a.i a.s.now a.at a.t.now a.f.now a.cache.now a.cache.now r.result r.ensures _ c.in-Refused.is

pub returns-in-Refused-read : goal.returns-in-Refused-read
returns-in-Refused-read c =
    let a = c.args in
    let r = c.read in
    let q = c.read-in-Is in
    no_length a.frame.now a.frame.now a.i a.s.now a.at a.t.now a.f.now a.cache.now a.cache.now r.result r.ensures _ _ c.in-Is.is q.result q.ensures _ c.in-Refused-read.is

pub returns-in-Is-read : goal.returns-in-Is-read
returns-in-Is-read c =
    let a = c.args in
    let r = c.read in
    let q = c.read-in-Is in
    let o = c.open_part in
    a-formula a.frame.now o.new.frame a.i a.s.now a.at o.new.t o.new.f a.cache.now o.new.cache r.result r.ensures _ _ c.in-Is.is q.result q.ensures _ _ c.in-Is-read.is _ refl o.result o.ensures
