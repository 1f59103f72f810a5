-- `put_edges` meets its contract: the lines one after the other.
use Prim.Native.Nat.{◌-◌}
use lib.ListN.{length}
use Rattle.price_text.proofs.Laws.{Listed}
use Rattle.price_text.proofs.put_edges.Given as goal

abbrev pub invariant-loop-at : goal.invariant-loop-at
invariant-loop-at l = Listed l.initial.out l.p l.runs l.words l.refusal l.out l.n l.i l.at

abbrev pub decreases-loop-at : goal.decreases-loop-at
decreases-loop-at l = length l.words - l.at
