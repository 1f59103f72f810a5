-- `resolve_patch_granted` meets its contract: an entry is refused, or what they became is resolved.
use Rattle.entries.specs.Known.{free_in}
use Rattle.parallel_moves.proofs.Adding.{patch-refused, patch-resolved}
use borrow.Author.Rules.{rules}
use Rattle.parallel_moves.proofs.numbered.resolve_patch_granted.Goals as goal

pub add_entries-requires : goal.add_entries-requires
add_entries-requires c =
    let pre = c.requires in
    (pre.0, c.new_parallel_move.ensures.1 _ _)

pub returns-in-Refused : goal.returns-in-Refused
returns-in-Refused c =
    let args = c.args in
    let new-parallel-move = c.new_parallel_move in
    record { resolves_patch_granted = λ p q. patch-refused _ _ _ _ _ args.g (free_in args.given args.available.now) args.numbers.now args.list.now args.cache.now new-parallel-move.ensures.0 p q _ (rw c.in-Refused.is at c.add_entries.ensures); anything = search rules }

pub resolve_granted-requires : goal.resolve_granted-requires
resolve_granted-requires c =
    let pre = c.requires in
    let add-entries = c.add_entries in
    (pre.0, add-entries.ensures.ok, pre.1)

pub returns : goal.returns
returns c =
    let args = c.args in
    let new-parallel-move = c.new_parallel_move in
    let add-entries = c.add_entries in
    record { resolves_patch_granted = λ p q. patch-resolved _ _ _ _ _ args.g (free_in args.given args.available.now) args.numbers.now args.list.now args.cache.now new-parallel-move.ensures.0 p q _ _ _ (rw c.in_default.is at add-entries.ensures) c.resolve_granted.ensures.resolves_granted; anything = search rules }
