-- `remats_with_scratch` meets its contract: the first rebuilds are made, and the others left to do.
use Rattle.scratch.specs.Promises.{tables}
use Rattle.visits.specs.Marks.{remats_with_scratch_of}
use Rattle.remats.proofs.RemattedWithScratch.{RemattingWithScratch}
use Rattle.remats.proofs.remats_with_scratch.Given as goal

abbrev pub invariant-loop-i : goal.invariant-loop-i
invariant-loop-i l = RemattingWithScratch l.t l.f l.cache (remats_with_scratch_of l.e) l.initial.q (tables l.initial.edits l.initial.available l.initial.slots) l.q (tables l.edits l.available l.slots) l.i
