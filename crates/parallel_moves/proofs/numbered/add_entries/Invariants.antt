use Prim.Native.Nat.{◌*◌, ◌-◌}
use Rattle.parallel_moves.proofs.Adding.{Adding}
use Rattle.parallel_moves.proofs.numbered.add_entries.Given as goal

abbrev pub invariant-loop-i : goal.invariant-loop-i
invariant-loop-i l = Adding l.t l.f l.initial.e l.numbers l.e l.w (l.i * 4) (l.n - l.i * 4)
