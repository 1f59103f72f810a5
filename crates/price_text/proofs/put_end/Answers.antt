-- `put_end` meets its contract: with a run count, or without any.
use borrow.Author.Tests.{le-ltb, lt-ltb}
use Rattle.price_text.proofs.Laws.{in-its-range}
use Rattle.price_text.proofs.put_end.Goals as goal

pub put_text-requires : goal.put_text-requires
put_text-requires c = rw (le-ltb _ _ c.if-runs-i.true) at c.requires.3

pub returns-then-runs-i : goal.returns-then-runs-i
returns-then-runs-i c = rw (le-ltb _ _ c.if-runs-i.true) c.put_text.ensures

pub product_of-requires : goal.product_of-requires
product_of-requires c = let s = c in (s.requires.0, s.requires.1, in-its-range s.args.runs.now s.args.i c.if-runs-i.false s.requires.2)

pub put_runs-requires : goal.put_runs-requires
put_runs-requires c = rw c.product_of.ensures (rw (lt-ltb _ _ c.if-runs-i.false) at c.requires.3)

pub returns : goal.returns
returns c = rw (lt-ltb _ _ c.if-runs-i.false) (rw c.product_of.ensures at c.put_runs.ensures)
