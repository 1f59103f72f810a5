use Rattle.calls.proofs.Freeing.{free-refused, free-taken}
use borrow.Author.Rules.{rules}
use Rattle.calls.proofs.resolve.Goals as goal

pub returns-in-Refused : goal.returns-in-Refused
returns-in-Refused c = let a = c.args in record { gives = free-refused a.t.now a.f.now a.free.now a.numbers.now a.list.now a.cache.now _ _ (rw c.in-Refused.is at c.take_given.ensures); anything = search rules }

pub returns : goal.returns
returns c =
    let args = c.args in
    let take-given = c.take_given in
    let some-given = c.some_given-given in
    record { gives = free-taken args.t.now args.f.now args.free.now args.numbers.now args.list.now args.cache.now _ _ _ _ (rw c.in_default.is at take-given.ensures) (rw some-given.ensures at c.resolve_patch.ensures.resolves_patch); anything = search rules }
