-- A register's units are cells of the table.
use mathlib.Core.Path.{sym, ap, ◌∙◌}
use Rattle.reginfo.specs.Table.{reg_info_of}
use Rattle.reginfo.specs.Refused.{all_below}
use Rattle.target_limits.proofs.Laws.{units-cells}
use Rattle.target_limits.proofs.units_below.Goals as goal

pub returns : goal.returns
returns c =
    let start = c in
    rw (c.units_from-at.ensures, c.num_reg_units-n.ensures, c.num_units-bound.ensures) at c.cells_below.ensures ∙ ap (all_below (reg_info_of start.args.t.now).units) (sym (units-cells start.args.t.now start.args.r.0 start.requires.0.is))
