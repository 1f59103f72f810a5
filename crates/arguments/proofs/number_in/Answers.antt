use mathlib.Core.Path.{sym, ◌∙◌}
use native.Mathlib.Omega.{arith}
use Rattle.arguments.proofs.Numbers.{one-digit, no_digit, some_in}
use Rattle.arguments.proofs.number_in.Goals as goal

pub loop-i-preserved : goal.loop-i-preserved
loop-i-preserved c =
    let l = c.loop-i in
    let a = c.args in
    (l.invariant.0 ∙ one-digit a.arg.now l.i l.n c.loop-i-test.true ∙ rw c.step-n.ensures.0, c.step-n.ensures.1, omega arith)

pub returns : goal.returns
returns c =
    let l = c.loop-i in
    let s = c in
    sym (some_in s.args.arg.now c.if-arg-eq0.false ∙ l.invariant.0 ∙ no_digit s.args.arg.now l.i l.n c.loop-i-test.false)
