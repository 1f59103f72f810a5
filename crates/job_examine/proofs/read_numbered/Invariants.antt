-- `read_numbered` meets its contract: the patch numbered from the start is the one numbered from here.
use Prim.Native.Nat.{◌-◌}
use mathlib.Core.Path.{◌≡◌}
use lib.ListN.{drop}
use Rattle.reginfo.specs.Table.{reg_info_of}
use Rattle.function.specs.Table.{function_of}
use Rattle.job_examine.specs.Job.{patch_at}
use Rattle.job_examine.proofs.read_numbered.Given as goal

abbrev pub invariant-loop-done : goal.invariant-loop-done
invariant-loop-done l = patch_at (reg_info_of l.t) (function_of l.f) l.n (drop l.at l.s) ≡ patch_at (reg_info_of l.t) (function_of l.f) (l.n - l._done) (drop l.q l.s)
