use mathlib.Core.Path.{sym, ◌∙◌}
use borrow.Author.Rules.{rules}
use borrow.Author.Tests.{eq-eqb, ne_eqb}
use Rattle.resolve.proofs.Setting.{other_length, one_byte}
use Rattle.resolve.proofs.setting_of.Goals as goal

pub returns-then-arg-ne1 : goal.returns-then-arg-ne1
returns-then-arg-ne1 c = other_length c.args.arg.now c.if-arg-ne1.true

pub returns-then-arg-eq49 : goal.returns-then-arg-eq49
returns-then-arg-eq49 c = sym (one_byte c.args.arg.now c.if-arg-ne1.false ∙ rw (eq-eqb _ 49 c.if-arg-eq49.true))

pub returns-then-arg-eq50 : goal.returns-then-arg-eq50
returns-then-arg-eq50 c = sym (one_byte c.args.arg.now c.if-arg-ne1.false ∙ rw (ne_eqb _ 49 c.if-arg-eq49.false, eq-eqb _ 50 c.if-arg-eq50.true))

pub returns : goal.returns
returns c = sym (one_byte c.args.arg.now c.if-arg-ne1.false ∙ rw (ne_eqb _ 49 c.if-arg-eq49.false, ne_eqb _ 50 c.if-arg-eq50.false))
