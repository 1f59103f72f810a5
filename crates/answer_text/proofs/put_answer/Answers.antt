use Rattle.answer_text.proofs.Lines.{none-printed, one-printed, none-fits, all-printed}
use Rattle.answer_text.proofs.put_answer.Goals as goal

pub loop-i-init : goal.loop-i-init
loop-i-init c = none-printed _ _

pub returns-in_default : goal.returns-in_default
returns-in_default c =
    let p = c in
    let t = p in
    let l = t.loop-i in
    let a = t.args in
    none-fits _ _ l.out l.n l.k l.i l.invariant t.loop-i-test.true p.put_word.new.out a.refusal
    p.put_word.result p.put_word.ensures c.in_default.is

pub loop-i-preserved : goal.loop-i-preserved
loop-i-preserved c =
    let e = c in
    let p = e in
    let t = p in
    let l = t.loop-i in
    one-printed _ _ l.out l.n l.k l.i l.invariant t.loop-i-test.true p.put_word.new.out _ _
    p.put_word.result p.put_word.ensures e.in-Some.is c.next_number-k.ensures

pub returns : goal.returns
returns c =
    let p = c in
    let t = p in
    let l = t.loop-i in
    let a = t.args in
    all-printed _ _ l.out l.n l.k l.i l.invariant p.put_refusal.new.out a.refusal
    p.put_refusal.result t.loop-i-test.false p.put_refusal.ensures
