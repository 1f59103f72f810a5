use Prim.Native.Nat.{ℕ, ◌+◌, ◌*◌}
use mathlib.Core.Path.{sym, ap₂, ◌∙◌}
use native.Mathlib.Omega.{arith}
use Rattle.entity.specs.Logic.{indices}
use Rattle.entity.proofs.Laws.{length-indices}
use Rattle.reginfo.specs.Table.{reg_info_of}
use Rattle.function.specs.Table.{function_of}
use Rattle.function.proofs.Laws.{few-values}
use Rattle.examine_rules.specs.Examine.{generic_content}
use Rattle.cells.proofs.Laws.{words-list, count-is}
use Rattle.examine_run.proofs.Laws.{get_d-indices}
use Rattle.examine_run.proofs.content.Goals as goal

pub number_of-requires : goal.number_of-requires
number_of-requires c = let s = c in (s.requires.1, omega (arith, s.requires.2, few-values (reg_info_of s.args.t.now) (function_of s.args.f.now) s.requires.0.function))

pub returns : goal.returns
unfolding generic_content
returns c = let s = c in let l = c.loop-j in let t = reg_info_of s.args.t.now in let f = function_of s.args.f.now in let n = c.width-n.result in let first = 512 + 8 * c.number_of.result in (words-list l.b (indices first n) n l.invariant.0 (sym (length-indices first n)) (λ k h. l.invariant.1 k (omega arith) ∙ sym (get_d-indices first n k h)) ∙ ap₂ (λ (a : ℕ) (b : ℕ). indices (512 + 8 * a) b) c.number_of.ensures.0 c.width-n.ensures.0, count-is l.b n l.invariant.0 ∙ c.width-n.ensures.0, omega (arith, count-is l.b n l.invariant.0, c.width-n.ensures.1))
