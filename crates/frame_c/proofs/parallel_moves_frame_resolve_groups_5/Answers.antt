use lib.ListN.{length}
use Rattle.frame_groups.specs.Answer.{groups_answer}
use Rattle.frame_c.proofs.Calling.{gave-edits, gave-number}
use borrow.Author.Rules.{rules}
use Rattle.frame_c.proofs.parallel_moves_frame_resolve_groups_5.Goals as goal

pub returns-in-Edits : goal.returns-in-Edits
returns-in-Edits c =
    let resolve-groups-in = c.resolve_groups_in in
    let start = c in
    record { resolved_by = gave-edits start.args.frame.now resolve-groups-in.new.frame start.args.formula start.args.function.now start.args.position.now start.args.list.now resolve-groups-in.new.list start.args.cache.now resolve-groups-in.new.cache (groups_answer start.args.frame.now start.args.formula start.args.target.now start.args.function.now start.args.free.now start.args.numbers.now (length start.args.list.now) start.args.cache.now) _ _ (rw c.in-Edits.is at resolve-groups-in.ensures.gives_in); anything = (tt, tt, tt, tt, tt, tt, tt, tt, tt, tt); anything_2 = (tt, tt, tt, tt, tt, tt) }

pub returns-in-Refused : goal.returns-in-Refused
returns-in-Refused c =
    let resolve-groups-in = c.resolve_groups_in in
    let start = c in
    record { resolved_by = gave-number start.args.frame.now resolve-groups-in.new.frame start.args.formula start.args.function.now start.args.position.now start.args.list.now resolve-groups-in.new.list start.args.cache.now resolve-groups-in.new.cache (groups_answer start.args.frame.now start.args.formula start.args.target.now start.args.function.now start.args.free.now start.args.numbers.now (length start.args.list.now) start.args.cache.now) _ (rw c.in-Refused.is at resolve-groups-in.ensures.gives_in); anything = (tt, tt, tt, tt, tt, tt, tt, tt, tt, tt); anything_2 = (tt, tt, tt, tt, tt, tt) }
