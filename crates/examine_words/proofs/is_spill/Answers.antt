-- `is_spill` meets its contract: its slot and register, its word.
use Prim.Native.Nat.{◌+◌, ◌<◌}
use mathlib.Core.Path.{sym, ◌∙◌}
use native.Mathlib.Omega.{arith}
use lib.Dec.{ltb}
use borrow.Author.Tests.{not-true, not-false, ltb-true}
use Rattle.entity.proofs.Laws.{and-true}
use Rattle.reginfo.specs.RegInfo.{num_regs}
use Rattle.reginfo.specs.Table.{reg_info_of}
use Rattle.function.specs.Table.{function_of}
use Rattle.examine_rules.specs.Examine.{named}
use Rattle.examine_words.proofs.Laws.{few-regs, slots-fit}
use Rattle.examine_words.proofs.is_spill.Goals as goal

pub returns-then-not-names_both : goal.returns-then-not-names_both
unfolding named
returns-then-not-names_both c = rw (← c.names_both.ensures, not-true c.names_both.result c.if-not-names_both.true-raw)

pub spill_word-requires : goal.spill_word-requires
spill_word-requires c = let s = c in let q = and-true (ltb s.args.s.0 ((function_of s.args.f.now).slots + s.args.most)) (ltb s.args.r.0 (num_regs (reg_info_of s.args.t.now))) (sym c.names_both.ensures ∙ not-false c.names_both.result c.if-not-names_both.false-raw) in let a : s.args.s.0 < 8192 = omega (arith, ltb-true s.args.s.0 ((function_of s.args.f.now).slots + s.args.most) q.0, slots-fit s.args.t.now s.args.f.now s.requires.0 s.args.most s.requires.1) in let b : s.args.r.0 < 8192 = omega (arith, ltb-true s.args.r.0 (num_regs (reg_info_of s.args.t.now)) q.1, few-regs s.args.t.now s.args.f.now s.requires.0 s.args.most s.requires.1) in (a, b)

pub returns : goal.returns
unfolding named
returns c = rw (← c.names_both.ensures, not-false c.names_both.result c.if-not-names_both.false-raw, c.spill_word.ensures)
