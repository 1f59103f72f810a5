use mathlib.Core.Path.{sym, ◌∙◌}
use native.Mathlib.Omega.{arith}
use Rattle.entity.proofs.Laws.{no_false}
use Rattle.job.proofs.Opening.{setting-small, other-setting, too_long, beginning-refused, beginning-read}
use borrow.Author.Rules.{rules}
use Rattle.job.proofs.read_beginning_if.Goals as goal

pub returns-then-not-is_setting : goal.returns-then-not-is_setting
returns-then-not-is_setting c = other-setting _ _ _ _ _ _ _ (rw c.is_setting.ensures at c.if-not-is_setting.true-raw)

pub returns-then-s-gt65536 : goal.returns-then-s-gt65536
returns-then-s-gt65536 c = too_long _ _ _ _ _ _ _ (sym c.is_setting.ensures ∙ no_false _ c.if-not-is_setting.false-raw) c.if-s-gt65536.true

pub overflow_cast-kept_evictions-in-At : goal.overflow_cast-kept_evictions-in-At
overflow_cast-kept_evictions-in-At c = omega (arith, setting-small _ (sym c.is_setting.ensures ∙ no_false _ c.if-not-is_setting.false-raw))

pub read_after_target-requires : goal.read_after_target-requires
read_after_target-requires c = (sym c.is_setting.ensures ∙ no_false _ c.if-not-is_setting.false-raw, c.requires)

pub returns-in-Refused : goal.returns-in-Refused
returns-in-Refused c = beginning-refused _ _ _ _ _ _ _ (sym c.is_setting.ensures ∙ no_false _ c.if-not-is_setting.false-raw) _ c.if-s-gt65536.false (rw c.in-Refused.is at c.read_target.ensures)

pub returns-in-At : goal.returns-in-At
returns-in-At c = beginning-read _ _ _ _ _ c.read_target.new.t _ (sym c.is_setting.ensures ∙ no_false _ c.if-not-is_setting.false-raw) _ _ _ c.if-s-gt65536.false (rw c.in-At.is at c.read_target.ensures) c.read_after_target.ensures
