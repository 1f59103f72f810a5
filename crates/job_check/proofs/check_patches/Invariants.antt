-- `check_patches` meets its contract: what reading gives with the patches that are left.
use Prim.Native.Nat.{◌-◌}
use mathlib.Core.Path.{◌≡◌}
use Rattle.job_check.proofs.Passing.{number}
use Rattle.job_check.proofs.check_patches.Given as goal

abbrev pub invariant-loop-done : goal.invariant-loop-done
invariant-loop-done l = number l.t l.f l.s l.count l.from ≡ number l.t l.f l.s (l.count - l._done) l.at
