-- `part_given` meets its contract.
use borrow.Author.Tests.{not-true, not-false}
use Rattle.grouping.proofs.Adding.{part_none, part-some}
use Rattle.grouping.proofs.part_given.Goals as goal

pub returns-then-not-given : goal.returns-then-not-given
returns-then-not-given c =
    let s = c in
    let none = not-true s.args.given c.if-not-given.true-raw in
    part_none _ _ _ _ _ _ none (s.requires.3 none)

pub part_free-requires : goal.part_free-requires
part_free-requires c =
    let pre = c.requires in
    (pre.0, pre.1, pre.2)

pub returns : goal.returns
returns c =
    let s = c in
    part-some _ _ _ _ _ _ (not-false s.args.given c.if-not-given.false-raw) c.part_free.ensures
