-- `arguments_fit` meets its contract.
use borrow.Author.Tests.{lt-ltb, le-ltb, lt-leb, le-leb}
use Rattle.try_settings.proofs.arguments_fit.Goals as goal

pub returns-then-seed-ge4294967296 : goal.returns-then-seed-ge4294967296
returns-then-seed-ge4294967296 c = rw (le-ltb c.args.seed 4294967296 c.if-seed-ge4294967296.true)

pub returns-then-patches-lt1 : goal.returns-then-patches-lt1
returns-then-patches-lt1 c = rw (lt-ltb c.args.seed 4294967296 c.if-seed-ge4294967296.false, lt-leb 1 c.args.patches c.if-patches-lt1.true)

pub returns : goal.returns
returns c = rw (lt-ltb c.args.seed 4294967296 c.if-seed-ge4294967296.false, le-leb 1 c.args.patches c.if-patches-lt1.false)
