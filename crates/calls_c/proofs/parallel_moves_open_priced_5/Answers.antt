-- Meets its contract, which is that of `open_priced`.
use Rattle.price.specs.Price.{prices_in}
use Rattle.calls.specs.Opening.{opened_priced}
use Rattle.calls_c.proofs.Calling.{opened, not_opened}
use borrow.Author.Rules.{rules}
use Rattle.calls_c.proofs.parallel_moves_open_priced_5.Goals as goal

pub returns-in-Yes : goal.returns-in-Yes
returns-in-Yes c = let a = c.args in opened _ _ a.cache.now _ (opened_priced (prices_in a.prices.now) a.kept_evictions a.bytes.now) (rw (c.in-Yes.is, c.prices_of-p.ensures) at c.open_priced.ensures)

pub returns-in-Refused : goal.returns-in-Refused
returns-in-Refused c = let a = c.args in not_opened _ _ a.cache.now _ (opened_priced (prices_in a.prices.now) a.kept_evictions a.bytes.now) _ (rw (c.in-Refused.is, c.prices_of-p.ensures) at c.open_priced.ensures)
