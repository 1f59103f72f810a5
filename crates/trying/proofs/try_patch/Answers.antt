use Prim.Native.Nat.{◌+◌, ◌-◌, ◌<◌}
use native.Mathlib.Omega.{arith}
use mathlib.Core.Path.{◌≡◌}
use Rattle.reginfo.specs.Table.{reg_info_of}
use Rattle.function.specs.Table.{function_of}
use Rattle.slots.specs.Stacks.{cache_of}
use Rattle.trying.specs.Tried.{tries}
use Rattle.trying.proofs.Trying.{room-less, drawn-over-by, taken-by, ready-again, left_out}
use Rattle.trying.proofs.try_patch.Goals as goal

pub try_once-requires : goal.try_once-requires
try_once-requires c =
    let s = c in
    let l = c.loop-done in
    (l.invariant.1, room-less l.tally 1 (0 + (9 - l._done)) (omega (arith, c.loop-done-test.true)) (l.invariant.0.room 0 s.requires.1))

pub returns-in-Accepted : goal.returns-in-Accepted
returns-in-Accepted c =
    let s = c in
    let l = c.loop-done in
    let o = c.try_once in
    let h : 0 < 9 - l._done = omega (arith, c.loop-done-test.true) in
    let r = tries (reg_info_of s.args.t.now) (function_of s.args.f.now) 9 s.args.seed (cache_of s.args.cache.now) in
    record { value = taken-by s.args.t.now s.args.f.now s.args.p r 9 s.args.tally.now l.s (9 - l._done) l.tally l.cache o.new.tally o.new.cache o.result _ l.invariant.0 h o.ensures.once c.in-Accepted.is; anything = (tt, tt, tt, tt, tt, tt, tt, tt, tt, tt, tt) }

pub loop-done-preserved : goal.loop-done-preserved
loop-done-preserved c =
    let s = c in
    let l = c.loop-done in
    let o = c.try_once in
    let h : 0 < 9 - l._done = omega (arith, c.loop-done-test.true) in
    let r = tries (reg_info_of s.args.t.now) (function_of s.args.f.now) 9 s.args.seed (cache_of s.args.cache.now) in
    let e : 9 - (l._done + 1) ≡ 9 - l._done - 1 = omega arith in
    (rw e (drawn-over-by s.args.t.now s.args.f.now s.args.p r 9 s.args.tally.now l.s (9 - l._done) l.tally l.cache o.new.tally o.new.cache o.result _ l.invariant.0 h o.ensures.once c.in-Refused.is), ready-again s.args.t.now s.args.f.now s.args.p l.cache o.new.cache l.numbers o.new.numbers l.list o.new.list l.invariant.1 o.ensures.once.ok o.auto.numbers o.auto.list)

pub returns : goal.returns
returns c =
    let s = c in
    let l = c.loop-done in
    let r = tries (reg_info_of s.args.t.now) (function_of s.args.f.now) 9 s.args.seed (cache_of s.args.cache.now) in
    record { value = left_out s.args.t.now s.args.f.now s.args.p r 9 s.args.tally.now l.s (9 - l._done) l.tally l.cache l.invariant.0 (omega (arith, c.loop-done-test.false)) l.invariant.1.ok; anything = (tt, tt, tt, tt, tt, tt, tt, tt, tt, tt, tt) }
