-- The limit, then the shares.
use mathlib.Core.Path.{refl}
use Rattle.frame.proofs.Opening.{no-limit, no-shares, a-frame}
use Rattle.frame.proofs.open_shares.Goals as goal

pub returns-in-Refused : goal.returns-in-Refused
returns-in-Refused c =
    let a = c.args in
    let r = c.read in
    no-limit a.s.now r.result r.ensures a.frame.now _ c.in-Refused.is

pub returns-in-Refused-read_list : goal.returns-in-Refused-read_list
returns-in-Refused-read_list c =
    let a = c.args in
    let r = c.read in
    let l = c.read_list in
    no-shares a.s.now r.result r.ensures a.frame.now _ _ c.in-Is.is l.new.numbers l.result l.ensures _ c.in-Refused-read_list.is

pub returns-in-Is-read_list : goal.returns-in-Is-read_list
returns-in-Is-read_list c =
    let a = c.args in
    let r = c.read in
    let l = c.read_list in
    let o = c.open_few in
    a-frame a.s.now r.result r.ensures o.new.frame _ _ c.in-Is.is l.new.numbers l.result l.ensures _ _ c.in-Is-read_list.is _ refl o.result o.ensures
