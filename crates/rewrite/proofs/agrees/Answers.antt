-- `agrees` meets its contract: case by case.
use borrow.Author.Tests.{eq-eqb, ne_eqb}
use Rattle.rewrite.proofs.agrees.Goals as goal

pub returns-then-told-eq17 : goal.returns-then-told-eq17
returns-then-told-eq17 c =
    let args = c.args in
    let if1 = c.if-told-eq17 in
    rw (eq-eqb args.told 17 if1.true)

pub returns-then-told-eq22 : goal.returns-then-told-eq22
returns-then-told-eq22 c =
    let args = c.args in
    let if1 = c.if-told-eq17 in
    let if2 = c.if-told-eq22 in
    rw (ne_eqb args.told 17 if1.false, eq-eqb args.told 22 if2.true)

pub returns : goal.returns
returns c =
    let args = c.args in
    let if1 = c.if-told-eq17 in
    let if2 = c.if-told-eq22 in
    rw (ne_eqb args.told 17 if1.false, ne_eqb args.told 22 if2.false)
