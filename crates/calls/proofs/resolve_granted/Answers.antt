-- `resolve_granted` meets its contract: refused for its free units, or the call of its patch.
use Rattle.calls.proofs.Freeing.{refused-granted, taken-granted}
use borrow.Author.Rules.{rules}
use Rattle.calls.proofs.resolve_granted.Goals as goal

pub returns-in-Refused : goal.returns-in-Refused
returns-in-Refused c =
    let args = c.args in
    record { gives_granted = refused-granted args.g args.t.now args.f.now args.free.now args.numbers.now args.list.now args.cache.now _ _ (rw c.in-Refused.is at c.take_given.ensures); anything = search rules }

pub resolve_patch_granted-requires : goal.resolve_patch_granted-requires
resolve_patch_granted-requires c =
    let pre = c.requires in
    (pre.0, pre.1)

pub returns : goal.returns
returns c =
    let args = c.args in
    let take-given = c.take_given in
    let some-given = c.some_given-given in
    record { gives_granted = taken-granted args.g args.t.now args.f.now args.free.now args.numbers.now args.list.now args.cache.now _ _ _ _ (rw c.in_default.is at take-given.ensures) (rw some-given.ensures at c.resolve_patch_granted.ensures.resolves_patch_granted); anything = search rules }
