-- `remats` meets its contract: the first rebuilds are made, and the others left to do.
use Rattle.visits.specs.Marks.{remats_of}
use Rattle.remats.proofs.Direct.{Rematting}
use Rattle.remats.proofs.remats.Given as goal

abbrev pub invariant-loop-i : goal.invariant-loop-i
invariant-loop-i l = Rematting l.t l.initial.q l.initial.edits l.initial.available (remats_of l.e) l.q l.edits l.available l.i
