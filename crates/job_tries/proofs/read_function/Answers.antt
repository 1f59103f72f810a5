-- `read_function` meets its contract: target and function, then what stands behind them.
use borrow.Author.Rules.{rules}
use Rattle.job_tries.proofs.Opened.{unbegun, begun-checked, begun}
use Rattle.job_tries.proofs.read_function.Goals as goal

pub check_rest-requires : goal.check_rest-requires
check_rest-requires c = let a = c.args in let o = c.read_priced_beginning in begun-checked a.p a.s.now o.new.t o.new.f _ (rw c.in-At.is at o.ensures)

pub returns-in-Refused : goal.returns-in-Refused
returns-in-Refused c = let a = c.args in let o = c.read_priced_beginning in record { function_at = unbegun a.p a.s.now o.new.t o.new.f _ (rw c.in-Refused.is at o.ensures); anything = (tt, tt, tt) }

pub returns-in-At : goal.returns-in-At
returns-in-At c = let a = c.args in let o = c.read_priced_beginning in record { function_at = begun a.p a.s.now o.new.t o.new.f _ _ (rw c.in-At.is at o.ensures) c.check_rest.ensures.result_value; anything = (tt, tt, tt) }
