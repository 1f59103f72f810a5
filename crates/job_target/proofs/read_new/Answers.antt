-- A number below the limit, and whether it was seen.
use mathlib.Core.Bool.{false}
use Prim.Native.Nat.{◌<◌}
use native.Mathlib.Omega.{arith}
use lib.ListN.{length}
use Rattle.reading.proofs.Laws.{under}
use Rattle.job_target.specs.Steps.{seen_in}
use Rattle.job_target.proofs.Flags.{flag-stored}
use Rattle.job_target.proofs.Listed.{none-there, seen-before, seen-now}
use Rattle.job_target.proofs.read_new.Goals as goal

pub bounds-seen-x : goal.bounds-seen-x
bounds-seen-x c = omega (arith, under _ _ _ _ _ (rw c.in-Is.is at c.below.ensures), c.requires, c.told-seen)

pub returns-then-seen-x : goal.returns-then-seen-x
unfolding seen_in
returns-then-seen-x c = seen-before _ _ (λ _. false) _ _ _ _ (rw c.in-Is.is at c.below.ensures) c.if-seen-x.true

pub bounds-seen-x-in-Is : goal.bounds-seen-x-in-Is
bounds-seen-x-in-Is c = omega (arith, under _ _ _ _ _ (rw c.in-Is.is at c.below.ensures), c.requires, c.told-seen)

pub returns-in-Refused : goal.returns-in-Refused
returns-in-Refused c = none-there _ _ (λ _. false) _ _ _ (rw c.in-Refused.is at c.below.ensures)

pub returns-else-seen-x : goal.returns-else-seen-x
unfolding seen_in
returns-else-seen-x c =
    let b = c in
    let a = b in
    let read = rw b.in-Is.is at b.below.ensures in
    let long : b.in-Is.x < length a.args.seen.now = omega (arith, under _ _ _ _ _ read, a.requires, b.told-seen) in
    seen-now _ _ _ _ _ _ _ read c.if-seen-x.false (flag-stored a.args.seen.now b.in-Is.x long)
