use Prim.Native.Nat.{◌-◌}
use lib.ListN.{length}
use Rattle.rules.specs.Patch.{resolve}
use Rattle.answer.specs.Whole.{rest_in}
use Rattle.answer.proofs.Going.{Going}
use Rattle.answer.proofs.answer_patches.Given as goal

abbrev pub invariant-loop-done : goal.invariant-loop-done
invariant-loop-done l = Going resolve l.t l.f l.s (rest_in resolve l.t l.f l.s l.from l.initial.cache l.count (length l.initial.words)) l.initial.words l.cache l.words l.at l.n (l.count - l._done)
