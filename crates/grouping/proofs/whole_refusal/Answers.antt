-- `whole_refusal` meets its contract: by an entry, or by the patch.
use mathlib.Core.Path.{◌∙◌}
use Rattle.grouping.proofs.Testing.{entries-refused, entries-taken, all-given}
use Rattle.grouping.proofs.whole_refusal.Goals as goal

pub add_entries-requires : goal.add_entries-requires
add_entries-requires c =
    let pre = c.requires in
    (pre.0, c.new_parallel_move.ensures.1 _ _)

pub returns-in-Refused : goal.returns-in-Refused
returns-in-Refused c =
    let args = c.args in
    let pre = c.requires in
    let new-parallel-move = c.new_parallel_move in
    (entries-refused _ _ _ _ _ args.free.now args.numbers.now args.room pre.0 new-parallel-move.ensures.0 _ (rw c.in-Refused.is at c.add_entries.ensures), tt, tt)

pub refusal-requires : goal.refusal-requires
refusal-requires c =
    let pre = c.requires in
    (pre.0, c.add_entries.ensures.ok)

pub returns : goal.returns
returns c =
    let args = c.args in
    let pre = c.requires in
    let new-parallel-move = c.new_parallel_move in
    (entries-taken _ _ _ _ _ args.free.now args.numbers.now args.room pre.0 new-parallel-move.ensures.0 _ (rw c.in_default.is at c.add_entries.ensures) (λ p q. c.refusal.ensures p (λ u. q u ∙ all-given args.given args.free.now pre.1 u)), tt, tt)
