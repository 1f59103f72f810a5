-- `examine_patch` meets its contract: its number, or the answer.
use mathlib.Core.Path.{sym, ap, ◌∙◌}
use Rattle.reginfo.specs.Table.{reg_info_of}
use Rattle.function.specs.Table.{function_of}
use Rattle.rules.specs.Patch.{Sorted}
use Rattle.entries.specs.Answers.{added_of}
use Rattle.examine.proofs.Answers.{refused_as, taken_as}
use Rattle.examine.proofs.Given.{few-bound}
use Rattle.reginfo.specs.Refused.{first_of}
use Rattle.rules.specs.Patch.{patch_conditions}
use Rattle.examine.proofs.examine_patch.Goals as goal

pub returns-in-Refused : goal.returns-in-Refused
returns-in-Refused c = let s = c in (λ p fr so es. refused_as (reg_info_of s.args.t.now) (function_of s.args.f.now) p es (few-bound s.args.t.now s.args.f.now s.args.e.now s.args.w.now s.requires.1 p so) s.args.most _ s.args.list.now (sym (ap added_of c.in-Refused.is) ∙ c.refusal.ensures p fr ∙ ap (λ (a : Sorted). first_of (patch_conditions (reg_info_of s.args.t.now) (function_of s.args.f.now) p 1024 a)) so), tt, tt, tt, tt, tt)

pub returns-in-Yes : goal.returns-in-Yes
returns-in-Yes c = let s = c in (λ p fr so es. c.examine.ensures.0 p fr so ∙ taken_as (reg_info_of s.args.t.now) (function_of s.args.f.now) p es (few-bound s.args.t.now s.args.f.now s.args.e.now s.args.w.now s.requires.1 p so) s.args.most s.args.list.now (sym (ap added_of c.in-Yes.is) ∙ c.refusal.ensures p fr ∙ ap (λ (a : Sorted). first_of (patch_conditions (reg_info_of s.args.t.now) (function_of s.args.f.now) p 1024 a)) so), tt, tt, tt, tt, tt)
