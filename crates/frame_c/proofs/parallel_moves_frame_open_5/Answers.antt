use Rattle.frame_c.proofs.Calling.{frame-open, frame_refused}
use borrow.Author.Rules.{rules}
use Rattle.frame_c.proofs.parallel_moves_frame_open_5.Goals as goal

pub returns-in-Yes : goal.returns-in-Yes
returns-in-Yes c =
    let open-frame = c.open_frame in
    let start = c in
    frame-open start.args.limit start.args.shares.now start.args.frame.now open-frame.new.frame (rw c.in-Yes.is at open-frame.ensures)

pub returns-in-Refused : goal.returns-in-Refused
returns-in-Refused c =
    let open-frame = c.open_frame in
    let start = c in
    frame_refused start.args.limit start.args.shares.now start.args.frame.now open-frame.new.frame _ (rw c.in-Refused.is at open-frame.ensures)
