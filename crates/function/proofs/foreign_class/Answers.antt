-- `foreign_class` meets its contract: a class that is read is one of the target's.
use mathlib.Core.Path.{◌∙◌}
use borrow.Author.Tests.{ne_eqb}
use Rattle.reginfo.specs.Table.{reg_info_of}
use Rattle.function.specs.Table.{function_of}
use Rattle.function.proofs.Laws.{fits-class}
use Rattle.function.proofs.foreign_class.Goals as goal

pub bank_for_class-bank-requires : goal.bank_for_class-bank-requires
bank_for_class-bank-requires c = let s = c in let h = fits-class (reg_info_of s.args.t.now) (function_of s.args.f.now) s.args.v.0 s.requires.2 (rw (← c.remat_cost.ensures, ne_eqb _ 0 c.if-remat_cost-eq0.false)) in record { is = rw c.remat_class.ensures h; few = s.requires.1 }
