-- `some_wrong` meets its contract: of one list after the other.
use mathlib.Core.Path.{sym, ap, ap₂, ◌∙◌}
use mathlib.Core.Bool.{Bool}
use native.Mathlib.Omega.{arith}
use Rattle.entity.specs.Logic.{or}
use Rattle.reginfo.specs.Table.{reg_info_of}
use Rattle.function.specs.Table.{function_of}
use Rattle.entries.specs.Table.{sorted_of}
use Rattle.examine_rules.specs.Examine.{generic_content}
use Rattle.cells.specs.Cells.{memory_of}
use Rattle.examine.specs.Ends.{kept_wrong, remats_wrong}
use Rattle.examine.proofs.Laws.{or-middle, remats-are, scratch-are, kept-ending, remats-ending, scratch-ending}
use Rattle.examine.proofs.Given.{few-of}
use Rattle.examine.proofs.some_wrong.Goals as goal

pub kept_wrong-requires : goal.kept_wrong-requires
kept_wrong-requires c = let s = c in (s.requires.0, s.requires.2, s.requires.3, kept-ending s.args.t.now s.args.f.now s.requires.0 s.args.e.now s.requires.1.sorted)

pub remats_wrong-requires : goal.remats_wrong-requires
remats_wrong-requires c = let s = c in (s.requires.0, s.requires.2, s.requires.3, omega arith, omega arith, (few-of s.args.t.now s.args.f.now s.args.e.now s.args.w.now s.requires.1).1, remats-ending s.args.t.now s.args.f.now s.requires.0 s.args.e.now s.requires.1.sorted)

pub returns-then-remats_wrong : goal.returns-then-remats_wrong
returns-then-remats_wrong c = let s = c in (or-middle (kept_wrong (reg_info_of s.args.t.now) (function_of s.args.f.now) (generic_content (reg_info_of s.args.t.now) (function_of s.args.f.now) (sorted_of s.args.e.now).moves) (memory_of s.args.c.now) (sorted_of s.args.e.now).moves) (remats_wrong (reg_info_of s.args.t.now) (function_of s.args.f.now) (generic_content (reg_info_of s.args.t.now) (function_of s.args.f.now) (sorted_of s.args.e.now).moves) (memory_of s.args.c.now) (sorted_of s.args.e.now).remats) (remats_wrong (reg_info_of s.args.t.now) (function_of s.args.f.now) (generic_content (reg_info_of s.args.t.now) (function_of s.args.f.now) (sorted_of s.args.e.now).moves) (memory_of s.args.c.now) (sorted_of s.args.e.now).remats_with_scratch) (ap (remats_wrong (reg_info_of s.args.t.now) (function_of s.args.f.now) (generic_content (reg_info_of s.args.t.now) (function_of s.args.f.now) (sorted_of s.args.e.now).moves) (memory_of s.args.c.now)) (remats-are s.args.e.now) ∙ sym c.remats_wrong.ensures.0 ∙ c.if-remats_wrong.true), tt, tt)

pub remats_wrong-requires-2 : goal.remats_wrong-requires-2
remats_wrong-requires-2 c = let s = c in (s.requires.0, s.requires.2, s.requires.3, omega arith, omega arith, (few-of s.args.t.now s.args.f.now s.args.e.now s.args.w.now s.requires.1).2, scratch-ending s.args.t.now s.args.f.now s.requires.0 s.args.e.now s.requires.1.sorted)

pub returns : goal.returns
returns c = let s = c in (c.remats_wrong-2.ensures.0 ∙ sym (ap (remats_wrong (reg_info_of s.args.t.now) (function_of s.args.f.now) (generic_content (reg_info_of s.args.t.now) (function_of s.args.f.now) (sorted_of s.args.e.now).moves) (memory_of s.args.c.now)) (scratch-are s.args.e.now)) ∙ sym (ap₂ (λ (y z : Bool). or y (or z (remats_wrong (reg_info_of s.args.t.now) (function_of s.args.f.now) (generic_content (reg_info_of s.args.t.now) (function_of s.args.f.now) (sorted_of s.args.e.now).moves) (memory_of s.args.c.now) (sorted_of s.args.e.now).remats_with_scratch))) (sym c.kept_wrong.ensures.0 ∙ c.if-kept_wrong.false) (ap (remats_wrong (reg_info_of s.args.t.now) (function_of s.args.f.now) (generic_content (reg_info_of s.args.t.now) (function_of s.args.f.now) (sorted_of s.args.e.now).moves) (memory_of s.args.c.now)) (remats-are s.args.e.now) ∙ sym c.remats_wrong.ensures.0 ∙ c.if-remats_wrong.false)), tt, tt)
