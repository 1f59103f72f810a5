-- The one place where the register may stand is looked at.
use mathlib.Core.Path.{sym}
use Rattle.target_check.proofs.Index.{not-before, before}
use Rattle.target_check.proofs.stands_before.Goals as goal

pub returns-then-p-q : goal.returns-then-p-q
returns-then-p-q c =
    let start = c in
    sym (not-before start.args.t.now start.args.c.0 start.args.p start.args.r.0 c.from-q.result start.requires.3 (rw (c.index_from.ensures, c.from-j.ensures) at c.from-q.ensures) c.if-p-q.true)

pub returns : goal.returns
returns c =
    let start = c in
    rw (c.from.ensures, c.members_from.ensures, c.from-j.ensures)
    (sym (before start.args.t.now start.args.c.0 start.args.p start.args.r.0 c.from-q.result start.requires.3 (rw (c.index_from.ensures, c.from-j.ensures) at c.from-q.ensures) c.if-p-q.false))
