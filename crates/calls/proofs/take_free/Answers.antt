use native.Mathlib.Omega.{arith}
use Rattle.reginfo.proofs.Accepted.{units-fit}
use Rattle.calls.proofs.Freeing.{freeing-start, no-unit, not-rising, freeing_step, freeing-end}
use Rattle.calls.proofs.take_free.Goals as goal

pub overflow_cast-units : goal.overflow_cast-units
overflow_cast-units c = omega (arith, c.num_units-units.ensures, (units-fit _ c.requires).1)

pub loop-u-init : goal.loop-u-init
loop-u-init c = freeing-start _ _ _ c.clear.ensures.0

pub returns-then-units-u : goal.returns-then-units-u
returns-then-units-u c = let l = c.loop-u in rw (← c.num_units-units.ensures) (no-unit _ _ l.least l.u-index _ l.invariant (omega arith) _ c.if-units-u.true)

pub returns-then-u-least : goal.returns-then-u-least
returns-then-u-least c = let l = c.loop-u in rw (← c.num_units-units.ensures) (not-rising _ _ l.least l.u-index _ l.invariant (omega arith) _ c.if-units-u.false c.if-u-least.true)

pub overflow_cast-u : goal.overflow_cast-u
overflow_cast-u c = omega (arith, c.if-units-u.false, c.num_units-units.ensures, (units-fit _ c.requires).1)

pub insert-requires : goal.insert-requires
insert-requires c = omega (arith, c.if-units-u.false, c.num_units-units.ensures, (units-fit _ c.requires).1)

pub overflow_add-least : goal.overflow_add-least
overflow_add-least c = omega (arith, c.if-units-u.false, c.num_units-units.ensures, (units-fit _ c.requires).1)

pub loop-u-preserved : goal.loop-u-preserved
loop-u-preserved c = let l = c.loop-u in freeing_step _ _ l.least l.u-index _ l.invariant (omega arith) _ c.if-units-u.false c.if-u-least.false c.insert.ensures.0

pub returns : goal.returns
returns c = let l = c.loop-u in rw (← c.num_units-units.ensures) (freeing-end _ _ l.least l.u-index _ l.invariant (omega arith))
