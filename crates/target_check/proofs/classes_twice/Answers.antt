use mathlib.Core.Path.{sym, ◌∙◌}
use mathlib.Core.Bool.{true≢false}
use native.Mathlib.Omega.{arith}
use borrow.Author.Count.{below_more}
use Rattle.reginfo.specs.RegInfo.{num_classes}
use Rattle.reginfo.specs.Table.{reg_info_of}
use Rattle.target_limits.proofs.Limits.{counts_of, classes-few}
use Rattle.target_limits.proofs.Walks.{some-below, none-below}
use Rattle.target_check.specs.Checked.{twice_in}
use Rattle.target_check.proofs.Same.{same_target, index-more, indexed}
use Rattle.target_check.proofs.classes_twice.Goals as goal

pub overflow_cast-i : goal.overflow_cast-i
overflow_cast-i c = omega (arith, classes-few (reg_info_of c.args.t.now) (counts_of (reg_info_of c.args.t.now) c.requires))

pub class_twice-requires : goal.class_twice-requires
class_twice-requires c = let same = same_target c.args.t.now c.loop-i.t c.requires c.loop-i.invariant.1 in rw same (c.requires, omega arith)

pub returns-then-class_twice : goal.returns-then-class_twice
returns-then-class_twice c = let same = same_target c.args.t.now c.loop-i.t c.requires c.loop-i.invariant.1 in (
  sym (some-below (twice_in (reg_info_of c.args.t.now)) (num_classes (reg_info_of c.args.t.now)) c.loop-i.i (omega arith) (sym (rw same at c.class_twice.ensures.0) ∙ c.if-class_twice.true)),
  (λ k l. c.class_twice.ensures.1 k (omega arith) ∙ c.loop-i.invariant.1 k l),
  λ e. absurd (true≢false e),
)

pub loop-i-preserved : goal.loop-i-preserved
loop-i-preserved c = let same = same_target c.args.t.now c.loop-i.t c.requires c.loop-i.invariant.1 in (
  below_more _ _ c.loop-i.invariant.0 (sym (rw same at c.class_twice.ensures.0) ∙ c.if-class_twice.false),
  (λ k l. c.class_twice.ensures.1 k (omega arith) ∙ c.loop-i.invariant.1 k l),
  index-more c.args.t.now c.loop-i.t c.requires c.loop-i.invariant.1 c.class_twice.new.t c.loop-i.i (omega arith) c.class_twice.ensures.1 c.loop-i.invariant.2 (rw same at (c.class_twice.ensures.2 c.if-class_twice.false)),
)

pub returns : goal.returns
returns c = (
  sym (none-below (twice_in (reg_info_of c.args.t.now)) (num_classes (reg_info_of c.args.t.now)) (λ k h. c.loop-i.invariant.0 k (omega arith))),
  c.loop-i.invariant.1,
  λ f. indexed c.args.t.now c.loop-i.t c.requires c.loop-i.invariant.1 (λ k l. c.loop-i.invariant.2 k (omega arith)),
)
