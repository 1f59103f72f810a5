-- `parallel_moves_shipped_5` meets its contract: the shipped target is accepted, and its bytes have room.
use mathlib.Core.Path.{sym}
use Rattle.shipped.proofs.Accepted.{shipped-accepted}
use Rattle.job_writer_c.proofs.Shipped.{not-over, in-front}
use borrow.Author.Rules.{rules}
use Rattle.job_writer_c.proofs.parallel_moves_shipped_5.Goals as goal

pub put_target-requires : goal.put_target-requires
put_target-requires c = rw c.fill.ensures.0 shipped-accepted

pub returns-in-Some : goal.returns-in-Some
returns-in-Some c =
    let s = c in
    let put-target = s.put_target in
    let fill = s.fill in
    let r = in-front _ _ _ fill.ensures.0 _ (rw s.in-Some.is at put-target.ensures) put-target.array_long in
    (r.0, r.1, tt)

pub returns-in-None : goal.returns-in-None
returns-in-None c =
    let put-target = c.put_target in
    let fill = c.fill in
    absurd (not-over _ _ _ fill.ensures.0 (rw c.in-None.is at put-target.ensures))
