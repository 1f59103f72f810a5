-- `get_list` meets its contract: its unknown list where there is no mark.
use Prim.Native.Nat.{◌-◌}
use mathlib.Core.Path.{sym, ◌∙◌}
use native.Mathlib.Omega.{arith}
use Rattle.cells.proofs.Laws.{list_at, no-mark, mark}
use Rattle.cells.proofs.get_list.Goals as goal

pub returns-then-mark-eq0 : goal.returns-then-mark-eq0
returns-then-mark-eq0 c = let s = c in let a = s.args.at in (c.unknown_list.ensures.0 ∙ sym (list_at s.args.c.now a s.requires.1 ∙ no-mark s.args.c.now a (sym c.from-mark.ensures ∙ c.if-mark-eq0.true)), c.unknown_list.ensures.1)

pub returns : goal.returns
returns c = let s = c in let a = s.args.at in (c.load.ensures.0 ∙ sym (list_at s.args.c.now a s.requires.1 ∙ mark s.args.c.now a (c.from-mark.result - 1) (omega (arith, c.if-mark-eq0.false, c.from-mark.ensures)) (omega (arith, c.from-mark.ensures))), omega (arith, c.load.ensures.1, s.requires.0 a s.requires.1, c.from-mark.ensures))
