-- The formula that is named stands, and the other stays.
use Prim.Native.Nat.{ℕ, ◌+◌}
use lib.ListN.{length-replicate}
use native.Mathlib.Omega.{arith}
use Rattle.frame.proofs.Running.{exchanged, own-stands, called, ended, named}
use Rattle.frame.proofs.next_call.Goals as goal

pub call-r-requires : goal.call-r-requires
call-r-requires c =
    let a = c.args in
    let n = c.number in
    let b = c.between in
    let w = named a.s.now a.p.at n.result b.result b.ensures _ _ c.in-Is.is in
    (c.requires.0.ok, omega (arith, n.ensures, w.low, w.high), own-stands a.frame.now a.s.now a.p.at a.p.calls 0 a.t1.now a.f1.now a.cache1.now a.slots1.now a.p.one 1 a.t2.now a.f2.now a.cache2.now a.slots2.now a.p.two c.requires.0 _ w.ahead (omega (arith, n.ensures, w.low, w.high)), rw (length-replicate {A = ℕ} 20480 0) (omega arith), w.within)

pub returns-then-formula-eq1 : goal.returns-then-formula-eq1
returns-then-formula-eq1 c =
    let a = c.args in
    let n = c.number in
    let b = c.between in
    let w = named a.s.now a.p.at n.result b.result b.ensures _ _ c.in-Is.is in
    let k = c.call-r in
    called a.frame.now a.s.now a.p.at a.p.calls 0 a.t1.now a.f1.now a.cache1.now a.slots1.now a.p.one 1 a.t2.now a.f2.now a.cache2.now a.slots2.now a.p.two c.requires.0 _ w.ahead k.new.frame k.new.cache k.new.slots k.result.left k.result.at k.ensures.frame_ok

pub call-r-requires-in-Is : goal.call-r-requires-in-Is
call-r-requires-in-Is c =
    let a = c.args in
    let n = c.number in
    let b = c.between in
    let w = named a.s.now a.p.at n.result b.result b.ensures _ _ c.in-Is.is in
    (c.requires.0.ok, omega (arith, n.ensures, w.low, w.high, c.if-formula-eq1.false), own-stands a.frame.now a.s.now a.p.at a.p.calls 1 a.t2.now a.f2.now a.cache2.now a.slots2.now a.p.two 0 a.t1.now a.f1.now a.cache1.now a.slots1.now a.p.one (exchanged a.frame.now a.s.now a.p.at a.p.calls 0 a.t1.now a.f1.now a.cache1.now a.slots1.now a.p.one 1 a.t2.now a.f2.now a.cache2.now a.slots2.now a.p.two c.requires.0) _ w.ahead (omega (arith, n.ensures, w.low, w.high, c.if-formula-eq1.false)), rw (length-replicate {A = ℕ} 20480 0) (omega arith), w.within)

pub returns-in-Refused : goal.returns-in-Refused
returns-in-Refused c =
    let a = c.args in
    let q = c.refuse in
    let e = q.ensures in
    rw (e.1, e.2, e.3) (ended a.frame.now a.s.now a.p.at a.p.calls 0 a.t1.now a.f1.now a.cache1.now a.slots1.now a.p.one 1 a.t2.now a.f2.now a.cache2.now a.slots2.now a.p.two c.requires.0 q.result.at c.requires.1 e.0)

pub returns-else-formula-eq1 : goal.returns-else-formula-eq1
returns-else-formula-eq1 c =
    let a = c.args in
    let n = c.number in
    let b = c.between in
    let w = named a.s.now a.p.at n.result b.result b.ensures _ _ c.in-Is.is in
    let k = c.call-r-in-Is in
    let y = called a.frame.now a.s.now a.p.at a.p.calls 1 a.t2.now a.f2.now a.cache2.now a.slots2.now a.p.two 0 a.t1.now a.f1.now a.cache1.now a.slots1.now a.p.one (exchanged a.frame.now a.s.now a.p.at a.p.calls 0 a.t1.now a.f1.now a.cache1.now a.slots1.now a.p.one 1 a.t2.now a.f2.now a.cache2.now a.slots2.now a.p.two c.requires.0) _ w.ahead k.new.frame k.new.cache k.new.slots k.result.left k.result.at k.ensures.frame_ok in
    (exchanged k.new.frame a.s.now k.result.at (a.p.calls + 1) 1 a.t2.now a.f2.now k.new.cache k.new.slots k.result.left 0 a.t1.now a.f1.now a.cache1.now a.slots1.now a.p.one y.0, y.1)
