use Rattle.frame_c.proofs.Calling.{was-taken, was-late}
use Rattle.frame_c.specs.Called.{preview_of}
use borrow.Author.Rules.{rules}
use Rattle.frame_c.proofs.parallel_moves_frame_take_5.Goals as goal

pub returns-in-Yes : goal.returns-in-Yes
returns-in-Yes c =
    let take_in = c.take_in in
    let start = c in
    was-taken start.args.frame.now take_in.new.frame start.args.formula (preview_of start.args.to 0 0 start.args.stamp start.args.counter) start.args.slots.now start.args.cache.now take_in.new.cache (rw c.in-Yes.is at take_in.ensures)

pub returns-in-Refused : goal.returns-in-Refused
returns-in-Refused c =
    let take_in = c.take_in in
    let start = c in
    was-late start.args.frame.now take_in.new.frame start.args.formula (preview_of start.args.to 0 0 start.args.stamp start.args.counter) start.args.slots.now start.args.cache.now take_in.new.cache _ (rw c.in-Refused.is at take_in.ensures)
