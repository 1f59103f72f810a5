-- The number of new moves falls with each visit, and a walk lies between a visit and the next.
use lib.ListN.{length}
use Rattle.entity.specs.Place.{place_at}
use Rattle.reginfo.specs.RegInfo.{place_units}
use Rattle.rules.specs.Counts.{news}
use Rattle.scratch.specs.State.{T}
use Rattle.visits.specs.Marks.{moves_of, states_of}
use Rattle.closing.specs.State.{work}
use Rattle.visiting.proofs.Walking.{Walking}
use Prim.Native.Nat.{◌+◌, ◌*◌}
use Rattle.visiting.proofs.+visit_walk.Given as goal

abbrev pub decreases-visit : goal.decreases-visit
decreases-visit l = news (length (moves_of l.e.now)) (states_of l.marks.now) * 2

abbrev pub decreases-walk : goal.decreases-walk
decreases-walk l = news (length (moves_of l.e.now)) (states_of l.marks.now) * 2 + 1

abbrev pub invariant-walk-loop-j : goal.invariant-walk-loop-j
invariant-walk-loop-j l =
    Walking l.t l.f l.cache l.e (place_units (T l.t) (place_at l.p.0)) l.initial.q (work l.initial.edits l.initial.available l.initial.slots l.initial.sources l.initial.d l.initial.marks l.initial.c) l.j l.q (work l.edits l.available l.slots l.sources l.d l.marks l.c)
