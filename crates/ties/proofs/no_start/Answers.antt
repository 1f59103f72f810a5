use mathlib.Core.Path.{sym, ap, ◌∙◌}
use native.Mathlib.Omega.{arith}
use Rattle.reginfo.specs.Table.{reg_info_of}
use Rattle.function.specs.Table.{function_of}
use Rattle.examine_rules.specs.Examine.{width}
use Rattle.ties.specs.Ties.{value_at}
use Rattle.ties.proofs.Laws.{has-no-start, has-start}
use Rattle.ties.proofs.no_start.Goals as goal

pub returns-then-a-b : goal.returns-then-a-b
returns-then-a-b c = let s = c in let l = c.loop-i in let t = reg_info_of s.args.t.now in let f = function_of s.args.f.now in sym (has-no-start s.args.e.now s.args.x.now s.requires.1 t f l.i (omega (arith, l.invariant.2)) (λ q. c.if-a-b.true (c.width-a.ensures.0 ∙ ap (width t f) c.value_at.ensures ∙ q ∙ sym (c.width-b.ensures.0 ∙ ap (width t f) (c.value_at-in-loop-i.ensures ∙ ap (value_at s.args.e.now) c.by_source-k.ensures)))))

pub returns : goal.returns
returns c = let s = c in let l = c.loop-i in sym (has-start s.args.e.now s.args.x.now s.requires.1 (reg_info_of s.args.t.now) (function_of s.args.f.now) (λ m h. l.invariant.0 m (omega (arith, l.invariant.2))))
