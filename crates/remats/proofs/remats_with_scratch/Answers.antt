use native.Mathlib.Omega.{arith}
use Rattle.scratch.specs.Promises.{tables}
use Rattle.remats.proofs.RemattedWithScratch.{rematting-step, rematting-end}
use Rattle.remats.proofs.remats_with_scratch.Goals as goal

pub loop-i-preserved : goal.loop-i-preserved
loop-i-preserved c =
    let l = c.loop-i in
    rematting-step _ _ _ _ _ _ c.requires.1 l.i l.q (tables l.edits l.available l.slots) l.invariant _ _ _ _ (omega arith) c.remat_with_scratch_dest-to.ensures c.remat_with_scratch_value-v.ensures c.remat_with_scratch-q.ensures

pub returns : goal.returns
returns c = let l = c.loop-i in rematting-end _ _ _ _ _ _ c.requires.1 l.i _ _ l.invariant (omega arith)
