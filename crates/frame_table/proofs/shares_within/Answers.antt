use mathlib.Core.Path.{refl}
use Rattle.frame_table.proofs.Laws.{left_out, left_step, left_end}
use Rattle.frame_table.proofs.shares_within.Goals as goal

pub loop-share-init : goal.loop-share-init
loop-share-init c = refl

pub returns-then-left-share : goal.returns-then-left-share
returns-then-left-share c = let l = c.loop-share in left_out _ _ l.left l.share-index l.invariant c.loop-share-test.true c.if-left-share.true

pub loop-share-preserved : goal.loop-share-preserved
loop-share-preserved c = let l = c.loop-share in left_step _ _ l.left l.share-index l.invariant c.loop-share-test.true c.if-left-share.false

pub returns : goal.returns
returns c = let l = c.loop-share in left_end _ _ l.left l.share-index l.invariant c.loop-share-test.false
