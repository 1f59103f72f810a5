use Prim.Native.Nat.{ℕ, ◌-◌}
use mathlib.Core.List.{List}
use Rattle.rules.specs.Order.{ParallelMoves}
use Rattle.carried.specs.Carried.{count_of}
use Rattle.closing.specs.State.{work, MovesOk}
use Rattle.closing.specs.Steps.{LetsGo}
use Rattle.closing.proofs.LettingGo.{Going}
use Rattle.closing.proofs.undivert_all.Given as goal

abbrev pub invariant-loop-i : goal.invariant-loop-i
invariant-loop-i l =
    (e marks : List ℕ) (p : ParallelMoves) → MovesOk l.t l.f e → LetsGo l.t l.f l.cache e l.m 0 (count_of l.c) p l.initial.q (work l.initial.edits l.initial.available l.initial.slots l.sources l.initial.d marks l.c)
    → Going l.t l.f l.cache e l.m l.i (l.n - l.i) p (work l.initial.edits l.initial.available l.initial.slots l.sources l.initial.d marks l.c) l.q (work l.edits l.available l.slots l.sources l.d marks l.c)
