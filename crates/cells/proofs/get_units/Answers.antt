use mathlib.Core.Path.{sym, ◌∙◌}
use mathlib.Core.List.{map}
use native.Mathlib.Omega.{arith}
use lib.ListN.{get_or}
use lib.ListN.{length-map}
use Rattle.entity.proofs.Laws.{has_get_d}
use Rattle.reginfo.specs.RegInfo.{reg_units}
use Rattle.reginfo.specs.Table.{reg_info_of}
use Rattle.cells.specs.Cells.{memory_of}
use Rattle.cells.proofs.Laws.{count-is, words-list}
use Rattle.cells.proofs.get_units.Goals as goal

pub word_at-requires : goal.word_at-requires
word_at-requires c = let s = c in let l = c.loop-j in let us = reg_units (reg_info_of s.args.t.now) s.args.r.0 in omega (arith, c.from.ensures, c.reg_unit-u.ensures, s.requires.low (get_or us l.j 0) (has_get_d us l.j (omega (arith, l.invariant.3))))

pub returns : goal.returns
returns c = let s = c in let l = c.loop-j in let us = reg_units (reg_info_of s.args.t.now) s.args.r.0 in let m = (memory_of s.args.c.now).word in (words-list l.b (map m us) c.num_reg_units-n.result l.invariant.0 (l.invariant.3 ∙ sym (length-map us m)) (λ k h. l.invariant.1 k (omega arith)), omega (arith, count-is l.b c.num_reg_units-n.result l.invariant.0, l.invariant.3, s.requires.few))
