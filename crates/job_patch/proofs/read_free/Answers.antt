use native.Mathlib.Omega.{arith}
use Prim.Native.Nat.{◌+◌, ◌-◌}
use mathlib.Core.Path.{◌≡◌}
use Rattle.reginfo.proofs.Accepted.{units-fit}
use Rattle.job_patch.proofs.Freeing.{freeing-refused, freeing-fallen, freeing_step, freeing-end, read_below}
use Rattle.job_patch.proofs.read_free.Goals as goal

pub overflow_cast-units : goal.overflow_cast-units
overflow_cast-units c = omega (arith, c.num_units-units.ensures, (units-fit _ c.requires.0).1)

pub returns-in-Refused : goal.returns-in-Refused
returns-in-Refused c = let l = c.loop-done in rw (← c.num_units-units.ensures) (freeing-refused _ _ _ _ l.q l.least (c.args.n - l._done) _ l.invariant _ (omega arith) (rw c.in-Refused.is at c.below.ensures))

pub returns-then-u-least : goal.returns-then-u-least
returns-then-u-least c = let l = c.loop-done in rw (← c.num_units-units.ensures) (freeing-fallen _ _ _ _ l.q l.least (c.args.n - l._done) _ l.invariant _ _ (omega arith) (rw c.in-Is.is at c.below.ensures) c.if-u-least.true)

pub overflow_cast-u : goal.overflow_cast-u
overflow_cast-u c = omega (arith, read_below _ _ _ _ _ (rw c.in-Is.is at c.below.ensures), c.num_units-units.ensures, (units-fit _ c.requires.0).1)

pub insert-requires : goal.insert-requires
insert-requires c = omega (arith, read_below _ _ _ _ _ (rw c.in-Is.is at c.below.ensures), c.num_units-units.ensures, (units-fit _ c.requires.0).1)

pub overflow_add-least : goal.overflow_add-least
overflow_add-least c = omega (arith, read_below _ _ _ _ _ (rw c.in-Is.is at c.below.ensures), c.num_units-units.ensures, (units-fit _ c.requires.0).1)

pub loop-done-preserved : goal.loop-done-preserved
loop-done-preserved c =
    let l = c.loop-done in
    let e : c.args.n - (l._done + 1) ≡ c.args.n - l._done - 1 = omega arith in
    rw e (freeing_step _ _ _ _ l.q l.least (c.args.n - l._done) _ l.invariant _ _ _ (omega arith) (rw c.in-Is.is at c.below.ensures) c.if-u-least.false c.insert.ensures.0)

pub returns : goal.returns
returns c = let l = c.loop-done in rw (← c.num_units-units.ensures) (freeing-end _ _ _ _ l.q l.least (c.args.n - l._done) _ l.invariant (omega arith))
