-- `ask_patch_granted` meets its contract: an entry is refused, or what they became is asked for.
use Rattle.entries.specs.Known.{free_in}
use Rattle.parallel_moves.proofs.Adding.{asked-refused, patch-asked}
use borrow.Author.Rules.{rules}
use Rattle.parallel_moves.proofs.asking.ask_patch_granted.Goals as goal

pub add_entries-requires : goal.add_entries-requires
add_entries-requires c =
    let pre = c.requires in
    (pre.0, c.new_parallel_move.ensures.1 _ _)

pub returns-in-Refused : goal.returns-in-Refused
returns-in-Refused c =
    let args = c.args in
    let new-parallel-move = c.new_parallel_move in
    record { asks_patch_granted = λ p q. asked-refused _ _ _ _ _ args.g (free_in args.given args.available.now) args.numbers.now args.list.now args.cache.now new-parallel-move.ensures.0 p q _ _ (rw c.in-Refused.is at c.add_entries.ensures); anything = search rules }

pub ask_granted-requires : goal.ask_granted-requires
ask_granted-requires c =
    let pre = c.requires in
    let add-entries = c.add_entries in
    (pre.0, add-entries.ensures.ok, pre.1)

pub returns : goal.returns
returns c =
    let args = c.args in
    let new-parallel-move = c.new_parallel_move in
    let add-entries = c.add_entries in
    record { asks_patch_granted = λ p q. patch-asked _ _ _ _ _ args.g (free_in args.given args.available.now) args.numbers.now args.list.now args.cache.now new-parallel-move.ensures.0 p q _ _ _ (rw c.in_default.is at add-entries.ensures) c.ask_granted.ensures.asks_granted; anything = search rules }
