-- The widths are those of the registers below i.
use Rattle.reginfo.specs.Table.{reg_info_of}
use Rattle.target_rules.specs.Rules.{Widths}
use Rattle.target_rules.proofs.unequal_widths.Given as goal

abbrev pub invariant-loop-i : goal.invariant-loop-i
invariant-loop-i l = Widths (reg_info_of l.t) l.widths l.i
