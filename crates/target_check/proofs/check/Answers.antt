-- The limits, then rule 3, which leaves the target as it was, then the others.
use mathlib.Core.Path.{refl, sym, ◌∙◌}
use Rattle.std.specs.Prelude.{Result, Ok, Err, ⊤, OnOk}
use Rattle.target_check.specs.declared.TargetError.{TargetError}
use Rattle.reginfo.specs.Refused.{first_of, target_refusal}
use Rattle.target_check.proofs.Same.{same_target}
use Rattle.target_check.proofs.check.Goals as goal

-- what holds however the check ends holds where it ends well
always : {P : Type 0} (r : Result ⊤ TargetError) → P → OnOk r P
always (Ok _) p = p
always (Err _) p = tt

pub returns-then-outside_limits : goal.returns-then-outside_limits
unfolding target_refusal first_of
returns-then-outside_limits c = record { number = rw (sym c.outside_limits.ensures ∙ c.if-outside_limits.true); kept = (λ i l. refl); target = refl; index = tt }

pub listed_twice-requires : goal.listed_twice-requires
listed_twice-requires c = (sym c.outside_limits.ensures ∙ c.if-outside_limits.false)

pub returns-then-listed_twice : goal.returns-then-listed_twice
unfolding target_refusal first_of
returns-then-listed_twice c = record { number = rw ((sym c.outside_limits.ensures ∙ c.if-outside_limits.false), sym c.listed_twice.ensures.0 ∙ c.if-listed_twice.true); kept = c.listed_twice.ensures.1; target = (same_target c.args.t.now c.listed_twice.new.t (sym c.outside_limits.ensures ∙ c.if-outside_limits.false) c.listed_twice.ensures.1); index = tt }

pub broken_rule-requires : goal.broken_rule-requires
broken_rule-requires c = (rw ((same_target c.args.t.now c.listed_twice.new.t (sym c.outside_limits.ensures ∙ c.if-outside_limits.false) c.listed_twice.ensures.1)) ((sym c.outside_limits.ensures ∙ c.if-outside_limits.false)), c.listed_twice.ensures.2 c.if-listed_twice.false)

pub returns : goal.returns
unfolding target_refusal first_of
returns c = record { number = rw ((sym c.outside_limits.ensures ∙ c.if-outside_limits.false), sym c.listed_twice.ensures.0 ∙ c.if-listed_twice.false) (rw ((same_target c.args.t.now c.listed_twice.new.t (sym c.outside_limits.ensures ∙ c.if-outside_limits.false) c.listed_twice.ensures.1)) at c.broken_rule.ensures); kept = c.listed_twice.ensures.1; target = (same_target c.args.t.now c.listed_twice.new.t (sym c.outside_limits.ensures ∙ c.if-outside_limits.false) c.listed_twice.ensures.1); index = always c.broken_rule.result (c.listed_twice.ensures.2 c.if-listed_twice.false) }
