use lib.ListN.{length}
use Rattle.frame_calls.specs.Answers.{answer_of}
use Rattle.frame_c.proofs.Calling.{gave-preview, gave-refusal}
use Rattle.frame_c.specs.Called.{preview_of}
use borrow.Author.Rules.{rules}
use Rattle.frame_c.proofs.parallel_moves_frame_ask_5.Goals as goal

pub returns-in-Ready : goal.returns-in-Ready
returns-in-Ready c =
    let ask_in = c.ask_in in
    let start = c in
    record { asked_by = gave-preview start.args.frame.now start.args.formula start.args.function.now (preview_of start.args.to.now start.args.made.now start.args.position.now start.args.stamp.now start.args.counter.now) start.args.list.now ask_in.new.list start.args.cache.now ask_in.new.slots (answer_of start.args.frame.now start.args.formula start.args.target.now start.args.function.now start.args.free.now start.args.numbers.now (length start.args.list.now) start.args.cache.now) _ _ (rw c.in-Ready.is at ask_in.ensures.asks_in); anything = ask_in.ensures.anything }

pub returns-in-Refused : goal.returns-in-Refused
returns-in-Refused c =
    let ask_in = c.ask_in in
    let start = c in
    record { asked_by = gave-refusal start.args.frame.now start.args.formula start.args.function.now (preview_of start.args.to.now start.args.made.now start.args.position.now start.args.stamp.now start.args.counter.now) start.args.list.now ask_in.new.list start.args.cache.now ask_in.new.slots (answer_of start.args.frame.now start.args.formula start.args.target.now start.args.function.now start.args.free.now start.args.numbers.now (length start.args.list.now) start.args.cache.now) _ (rw c.in-Refused.is at ask_in.ensures.asks_in); anything = ask_in.ensures.anything }
