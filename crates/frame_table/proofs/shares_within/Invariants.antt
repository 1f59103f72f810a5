-- What is left of the limit from share i on.
use Rattle.frame_table.proofs.Laws.{Left}
use Rattle.frame_table.proofs.shares_within.Given as goal

abbrev pub invariant-loop-share : goal.invariant-loop-share
invariant-loop-share l = Left l.limit l.shares l.left l.share-index
