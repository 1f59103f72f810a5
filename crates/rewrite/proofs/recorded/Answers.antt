use mathlib.Core.Path.{sym, ◌∙◌}
use native.Mathlib.Omega.{arith}
use Rattle.rewrite.proofs.Rewriting.{recorded-here, recorded-later, recorded-none}
use Rattle.rewrite.proofs.recorded.Goals as goal

pub returns-then-tells : goal.returns-then-tells
returns-then-tells c = sym (c.loop-k.invariant ∙ recorded-here c.args.text.now c.loop-k.k c.tells.result c.loop-k-test.true c.tells.ensures c.if-tells.true)

pub loop-k-preserved : goal.loop-k-preserved
loop-k-preserved c = c.loop-k.invariant ∙ recorded-later c.args.text.now c.loop-k.k c.tells.result c.loop-k-test.true c.tells.ensures c.if-tells.false

pub returns : goal.returns
returns c = sym (c.loop-k.invariant ∙ recorded-none c.args.text.now c.loop-k.k (omega (arith, c.loop-k-test.false)))
