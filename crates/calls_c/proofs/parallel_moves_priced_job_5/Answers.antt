-- Meets its contract, which is that of `read_priced_opening`.
use Rattle.price.specs.Price.{prices_in}
use Rattle.job_rules.specs.Priced.{opening_priced}
use Rattle.calls_c.proofs.Calling.{counted, not-counted}
use borrow.Author.Rules.{rules}
use Rattle.calls_c.proofs.parallel_moves_priced_job_5.Goals as goal

pub returns-in-Refused : goal.returns-in-Refused
returns-in-Refused c =
    let a = c.args in
    let o = c.read_priced_opening in
    record { counted_by = not-counted a.bytes.now o.new.t o.new.f (opening_priced (prices_in a.prices.now) a.kept_evictions a.bytes.now) _ (rw (c.in-Refused.is, c.prices_of-p.ensures) at o.ensures); anything = (tt, tt) }

pub returns-in-Is : goal.returns-in-Is
returns-in-Is c =
    let a = c.args in
    let o = c.read_priced_opening in
    record { counted_by = counted a.bytes.now o.new.t o.new.f (opening_priced (prices_in a.prices.now) a.kept_evictions a.bytes.now) _ _ (rw (c.in-Is.is, c.prices_of-p.ensures) at o.ensures); anything = (tt, tt) }
