-- `put_refusal` meets its contract.
use Rattle.print.proofs.Putting.{nothing_put}
use Rattle.answer_text.proofs.Lines.{refusal-line}
use Rattle.price_text.proofs.put_refusal.Goals as goal

pub returns-then-refusal-eq0 : goal.returns-then-refusal-eq0
returns-then-refusal-eq0 c = rw c.if-refusal-eq0.true (nothing_put (rw c.if-refusal-eq0.true at c.requires))

pub put_refused-requires : goal.put_refused-requires
put_refused-requires c = rw (refusal-line _ c.if-refusal-eq0.false) at c.requires

pub returns : goal.returns
returns c = rw (refusal-line _ c.if-refusal-eq0.false) c.put_refused.ensures
