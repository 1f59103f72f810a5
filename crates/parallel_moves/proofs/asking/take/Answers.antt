-- `take` meets its contract.
use Rattle.parallel_moves.proofs.Resolving.{took, not_taken}
use native.Mathlib.Omega.{arith}
use mathlib.Core.Path.{◌∙◌}
use Rattle.parallel_moves.proofs.asking.take.Goals as goal

pub returns-then-stamp-a : goal.returns-then-stamp-a
returns-then-stamp-a c =
    let args = c.args in
    let stamp = c.stamp in
    not_taken args.a args.slots.now args.cache.now stamp.result stamp.ensures.0 (λ e. omega (arith, e, c.if-stamp-a.true))

pub commit-requires : goal.commit-requires
commit-requires c = let can = c.requires (omega (arith, c.if-stamp-a.false) ∙ c.stamp.ensures.0) in (can.fits, can.deep, can.untouched)

pub returns : goal.returns
returns c =
    let args = c.args in
    let stamp = c.stamp in
    took args.a args.slots.now args.cache.now stamp.result stamp.ensures.0 _ (omega (arith, c.if-stamp-a.false)) c.commit.ensures
