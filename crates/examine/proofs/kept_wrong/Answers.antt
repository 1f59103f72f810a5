use Prim.Native.Nat.{◌+◌}
use mathlib.Core.Path.{sym, ap, ◌∙◌}
use mathlib.Core.Bool.{Bool}
use native.Mathlib.Omega.{arith}
use lib.ListN.{drop}
use Rattle.entity.specs.Logic.{or}
use Rattle.reginfo.specs.Table.{reg_info_of}
use Rattle.function.specs.Table.{function_of}
use Rattle.entries.specs.Table.{sorted_of}
use Rattle.examine_rules.specs.Examine.{generic_content}
use Rattle.cells.specs.Cells.{memory_of}
use Rattle.examine.specs.Ends.{kept_wrong}
use Rattle.examine.proofs.Laws.{kept_step, kept-end}
use Rattle.examine.proofs.kept_wrong.Goals as goal

pub returns-then-is_wrong : goal.returns-then-is_wrong
returns-then-is_wrong c = let s = c in let l = c.loop-m in (sym (l.invariant.0 ∙ kept_step (reg_info_of s.args.t.now) (function_of s.args.f.now) (generic_content (reg_info_of s.args.t.now) (function_of s.args.f.now) (sorted_of s.args.e.now).moves) (memory_of s.args.c.now) s.args.e.now l.m (omega (arith, l.invariant.2)) ∙ ap (λ (z : Bool). or z (kept_wrong (reg_info_of s.args.t.now) (function_of s.args.f.now) (generic_content (reg_info_of s.args.t.now) (function_of s.args.f.now) (sorted_of s.args.e.now).moves) (memory_of s.args.c.now) (drop (l.m + 1) (sorted_of s.args.e.now).moves))) (sym c.is_wrong.ensures.0 ∙ c.if-is_wrong.true)), tt, tt)

pub loop-m-preserved : goal.loop-m-preserved
loop-m-preserved c = let s = c in let l = c.loop-m in (l.invariant.0 ∙ kept_step (reg_info_of s.args.t.now) (function_of s.args.f.now) (generic_content (reg_info_of s.args.t.now) (function_of s.args.f.now) (sorted_of s.args.e.now).moves) (memory_of s.args.c.now) s.args.e.now l.m (omega (arith, l.invariant.2)) ∙ ap (λ (z : Bool). or z (kept_wrong (reg_info_of s.args.t.now) (function_of s.args.f.now) (generic_content (reg_info_of s.args.t.now) (function_of s.args.f.now) (sorted_of s.args.e.now).moves) (memory_of s.args.c.now) (drop (l.m + 1) (sorted_of s.args.e.now).moves))) (sym c.is_wrong.ensures.0 ∙ c.if-is_wrong.false), omega (arith, l.invariant.2), l.invariant.2)

pub returns : goal.returns
returns c = let s = c in let l = c.loop-m in (sym (l.invariant.0 ∙ kept-end (reg_info_of s.args.t.now) (function_of s.args.f.now) (generic_content (reg_info_of s.args.t.now) (function_of s.args.f.now) (sorted_of s.args.e.now).moves) (memory_of s.args.c.now) s.args.e.now l.m (omega (arith, l.invariant.2))), tt, tt)
