-- `put_refusal` meets its contract.
use native.Mathlib.Omega.{arith}
use mathlib.Core.Path.{sym, ◌∙◌}
use borrow.Author.Rules.{rules}
use Rattle.print.proofs.Putting.{nothing_put}
use Rattle.try_settings.proofs.put_refusal.Goals as goal

pub returns-then-are_none : goal.returns-then-are_none
returns-then-are_none c =
    let s = c in
    let e = sym c.are_none.ensures ∙ c.if-are_none.true in
    rw e (nothing_put (record { fits = omega (arith, s.requires.1) }), omega arith)

pub returns : goal.returns
returns c = let e = sym c.are_none.ensures ∙ c.if-are_none.false in rw e c.put_refused.ensures
