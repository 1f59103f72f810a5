use mathlib.Core.Path.{sym}
use borrow.Author.Tests.{not-true, not-false}
use Rattle.job.proofs.Opening.{target-refused, prices-refused, target-taken}
use borrow.Author.Rules.{rules}
use Rattle.job.proofs.read_after_target.Goals as goal

pub returns-then-not-in_range : goal.returns-then-not-in_range
returns-then-not-in_range c =
    let a = c.args in
    prices-refused a.in_range a.least a.most _ a.s.now a.t.now _ _ a.at (not-true _ c.if-not-in_range.true-raw) (rw c.in-Ok.is at c.check.ensures.number)

pub read_function_within-requires : goal.read_function_within-requires
read_function_within-requires c =
    let k = c.check.ensures in
    let e = c.in-Ok.is in
    (rw k.target (sym (rw e at k.number)), c.requires.1)

pub returns-else-not-in_range : goal.returns-else-not-in_range
returns-else-not-in_range c =
    let k = c.check.ensures in
    let e = c.in-Ok.is in
    let s = c in
    let a = s.args in
    target-taken a.in_range a.least a.most _ a.s.now a.t.now _ _ a.at (not-false _ c.if-not-in_range.false-raw) s.requires.1 s.requires.0 _ (rw e at k.number) k.target (rw e at k.index) c.read_function_within.ensures

pub returns-in-Err : goal.returns-in-Err
returns-in-Err c = let a = c.args in rw c.number.ensures (target-refused a.in_range a.least a.most _ a.s.now a.t.now _ _ a.at _ (rw c.in-Err.is at c.check.ensures.number))
