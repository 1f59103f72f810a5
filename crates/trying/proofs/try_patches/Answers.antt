use Prim.Native.Nat.{◌+◌, ◌-◌, ◌*◌}
use native.Mathlib.Omega.{arith}
use mathlib.Core.Path.{◌≡◌}
use Rattle.reginfo.specs.Table.{reg_info_of}
use Rattle.function.specs.Table.{function_of}
use Rattle.slots.specs.Stacks.{cache_of}
use Rattle.trying.specs.Tried.{drawings}
use Rattle.trying.proofs.Trying.{room-less, patch-done, ready-again, all_done}
use Rattle.trying.proofs.try_patches.Goals as goal

pub try_patch-s-requires : goal.try_patch-s-requires
try_patch-s-requires c =
    let s = c in
    let l = c.loop-done in
    (l.invariant.1, room-less l.tally 9 (0 + (s.args.count - l._done) * 9) (omega (arith, c.loop-done-test.true)) (l.invariant.0.room 0 (room-less s.args.tally.now (0 + s.args.count * 9) (s.args.count * 9) (omega arith) s.requires.1)))

pub loop-done-preserved : goal.loop-done-preserved
loop-done-preserved c =
    let s = c in
    let l = c.loop-done in
    let o = c.try_patch-s in
    let r = drawings (reg_info_of s.args.t.now) (function_of s.args.f.now) s.args.count s.args.seed (cache_of s.args.cache.now) in
    let e : s.args.count - (l._done + 1) ≡ s.args.count - l._done - 1 = omega arith in (
      rw e (patch-done s.args.t.now s.args.f.now s.args.p r (s.args.count * 9) s.args.tally.now l.s (s.args.count - l._done) o.result l.tally l.cache o.new.tally o.new.cache l.invariant.0 (omega (arith, c.loop-done-test.true)) o.ensures.value.0 o.ensures.value.1),
      ready-again s.args.t.now s.args.f.now s.args.p l.cache o.new.cache l.numbers o.new.numbers l.list o.new.list l.invariant.1 o.ensures.value.1.ok o.auto.numbers o.auto.list,
    )

pub returns : goal.returns
returns c =
    let s = c in
    let l = c.loop-done in
    let r = drawings (reg_info_of s.args.t.now) (function_of s.args.f.now) s.args.count s.args.seed (cache_of s.args.cache.now) in
    record { many = all_done s.args.t.now s.args.f.now s.args.p r (s.args.count * 9) s.args.tally.now l.s (s.args.count - l._done) l.tally l.cache l.invariant.0 (omega (arith, c.loop-done-test.false)) l.invariant.1.ok; anything = (tt, tt, tt, tt, tt, tt, tt, tt, tt, tt, tt) }
