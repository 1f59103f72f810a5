-- Each condition in its turn.
use mathlib.Core.Path.{refl, sym, ◌∙◌}
use borrow.Author.Tests.{not-true, not-false, leb-true, leb-false}
use Rattle.frame_table.proofs.Laws.{no-formula, too_many, limit-over, shares-above, none-refused}
use Rattle.frame_table.proofs.open_frame.Goals as goal

pub returns-then-shares-eq0 : goal.returns-then-shares-eq0
returns-then-shares-eq0 c = (no-formula _ _ c.if-shares-eq0.true, refl)

pub returns-then-shares-gt16 : goal.returns-then-shares-gt16
returns-then-shares-gt16 c = (too_many _ _ c.if-shares-eq0.false c.if-shares-gt16.true, refl)

pub returns-then-limit-gt2048 : goal.returns-then-limit-gt2048
returns-then-limit-gt2048 c = (limit-over _ _ c.if-shares-eq0.false c.if-shares-gt16.false c.if-limit-gt2048.true, refl)

pub returns-then-not-shares_within : goal.returns-then-not-shares_within
returns-then-not-shares_within c = (shares-above _ _ c.if-shares-eq0.false c.if-shares-gt16.false c.if-limit-gt2048.false (leb-false _ _ (sym c.shares_within.ensures ∙ not-true _ c.if-not-shares_within.true-raw)), refl)

pub fill-requires : goal.fill-requires
fill-requires c = (c.if-shares-gt16.false, leb-true _ _ (sym c.shares_within.ensures ∙ not-false _ c.if-not-shares_within.false-raw))

pub returns : goal.returns
returns c = (
  none-refused _ _ c.if-shares-eq0.false c.if-shares-gt16.false c.if-limit-gt2048.false (leb-true _ _ (sym c.shares_within.ensures ∙ not-false _ c.if-not-shares_within.false-raw)),
  c.fill.ensures,
)
