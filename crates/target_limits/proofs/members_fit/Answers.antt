-- A class's members are cells of the table.
use mathlib.Core.Path.{sym, ap, ◌∙◌}
use borrow.Author.Tests.{le-leb}
use Rattle.reginfo.specs.RegInfo.{num_regs}
use Rattle.reginfo.specs.Table.{reg_info_of}
use Rattle.reginfo.specs.Refused.{all_below}
use Rattle.target_limits.proofs.Laws.{members-cells}
use Rattle.target_limits.proofs.members_fit.Goals as goal

pub returns : goal.returns
returns c =
    let start = c in
    rw (le-leb _ _ (rw c.num_members-n.ensures at c.if-n-gt512.false))
    (rw (c.members_from-at.ensures, c.num_members-n.ensures, c.num_regs-bound.ensures) at c.cells_below.ensures ∙ ap (all_below (num_regs (reg_info_of start.args.t.now))) (sym (members-cells start.args.t.now start.args.c.0 start.requires.is)))
