use borrow.Author.Rules.{rules}
use borrow.Author.Tests.{lt-ltb, le-ltb, eq-eqb, ne_eqb}
use Rattle.resolve.proofs.setting_from.Goals as goal

pub returns-then-count-lt2 : goal.returns-then-count-lt2
returns-then-count-lt2 c = rw (lt-ltb _ 2 c.if-count-lt2.true)

pub returns-then-count-eq2 : goal.returns-then-count-eq2
returns-then-count-eq2 c = rw (le-ltb _ 2 c.if-count-lt2.false, eq-eqb _ 2 c.if-count-eq2.true) c.setting_of.ensures

pub returns : goal.returns
returns c = rw (le-ltb _ 2 c.if-count-lt2.false, ne_eqb _ 2 c.if-count-eq2.false)
