-- `check_rest` meets its contract: nothing, or a count and its patches.
use borrow.Author.Rules.{rules}
use Rattle.reginfo.specs.Table.{reg_info_of}
use Rattle.function.specs.Table.{function_of}
use Rattle.job_tries.proofs.Opened.{rest-none, rest-uncounted, rest-counted}
use Rattle.job_tries.proofs.check_rest.Goals as goal

pub returns-then-s-at : goal.returns-then-s-at
returns-then-s-at c = let a = c.args in record { result_value = rest-none (reg_info_of a.t.now) (function_of a.f.now) a.s.now a.at c.if-s-at.true; anything = (tt, tt, tt) }

pub check_patches-requires : goal.check_patches-requires
check_patches-requires c = c.requires

pub returns-in-Refused : goal.returns-in-Refused
returns-in-Refused c = let a = c.args in record { result_value = rest-uncounted (reg_info_of a.t.now) (function_of a.f.now) a.s.now a.at _ c.if-s-at.false (rw c.in-Refused.is at c.between.ensures); anything = (tt, tt, tt) }

pub returns-in-Is : goal.returns-in-Is
returns-in-Is c = let a = c.args in record { result_value = rest-counted (reg_info_of a.t.now) (function_of a.f.now) a.s.now a.at _ _ _ c.if-s-at.false (rw c.in-Is.is at c.between.ensures) c.check_patches.ensures.result_value; anything = (tt, tt, tt) }
