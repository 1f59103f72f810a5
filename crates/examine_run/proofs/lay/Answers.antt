use Prim.Native.Nat.{ℕ, ◌+◌, ◌-◌}
use mathlib.Core.Path.{◌≡◌, ap, ◌∙◌}
use native.Mathlib.Omega.{arith}
use lib.ListN.{drop}
use Rattle.reginfo.specs.Table.{reg_info_of}
use Rattle.function.specs.Table.{function_of}
use Rattle.entries.specs.Table.{sorted_of}
use Rattle.entries.proofs.Table.{kept-count}
use Rattle.examine_rules.specs.Examine.{laid}
use Rattle.cells.specs.Cells.{memory_of}
use Rattle.examine_run.proofs.Laws.{laid_none, laid_next}
use Rattle.examine_run.proofs.lay.Goals as goal

pub loop-m-init : goal.loop-m-init
loop-m-init c = let s = c in let e = s.args.e.now in (c.clear.ensures.0 ∙ laid_none (reg_info_of s.args.t.now) (function_of s.args.f.now) (sorted_of e).moves c.kept-m.result (omega (arith, c.kept-m.ensures, kept-count e)), c.clear.ensures.1, omega (arith, c.kept-m.ensures))

pub loop-m-preserved : goal.loop-m-preserved
loop-m-preserved c = let s = c in let l = c.loop-m in let e = s.args.e.now in let ms = (sorted_of e).moves in let t = reg_info_of s.args.t.now in let f = function_of s.args.f.now in let z : l.m ≡ l.m - 1 + 1 = omega (arith, c.loop-m-test.true) in (laid_next t f ms (l.m - 1) (memory_of l.c) _ (omega (arith, l.invariant.2, kept-count e, c.loop-m-test.true)) (l.invariant.0 ∙ ap (λ (n : ℕ). laid t f ms (drop n ms)) z) c.lay_one.ensures.0, c.lay_one.ensures.1, omega arith)
