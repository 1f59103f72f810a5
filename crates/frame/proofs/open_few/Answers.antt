-- By what the frame answers, and by the number of shares.
use Rattle.frame.proofs.Opening.{refused-frame, many-formulas, few-formulas}
use Rattle.frame.proofs.open_few.Goals as goal

pub returns-then-shares-gt2 : goal.returns-then-shares-gt2
returns-then-shares-gt2 c =
    let a = c.args in
    let o = c.open_frame in
    many-formulas a.limit a.shares.now a.frame.now o.new.frame a.next o.result o.ensures c.if-shares-gt2.true

pub returns-in-Refused : goal.returns-in-Refused
returns-in-Refused c =
    let a = c.args in
    let o = c.open_frame in
    refused-frame a.limit a.shares.now a.frame.now o.new.frame a.next o.result o.ensures _ c.in-Refused.is

pub returns-else-shares-gt2 : goal.returns-else-shares-gt2
returns-else-shares-gt2 c =
    let a = c.args in
    let o = c.open_frame in
    few-formulas a.limit a.shares.now a.frame.now o.new.frame a.next o.result o.ensures c.in-Yes.is c.if-shares-gt2.false
