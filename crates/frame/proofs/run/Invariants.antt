-- Between the calls both formulas stand.
use lib.ListN.{length}
use Prim.Native.Nat.{◌-◌}
use Rattle.frame.specs.Running.{Goes}
use Rattle.frame.proofs.run.Given as goal

abbrev pub invariant-loop-p : goal.invariant-loop-p
invariant-loop-p l =
    Goes l.frame l.t1 l.f1 l.cache1 l.slots1 l.t2 l.f2 l.cache2 l.slots2 l.s l.p

abbrev pub decreases-loop-p : goal.decreases-loop-p
decreases-loop-p l = length l.s - l.p.at
