-- `scratch::ScratchAllocator::move_edits` meets its contract.
use mathlib.Core.Path.{sym, ◌∙◌}
use native.Mathlib.Omega.{arith}
use Rattle.entity.specs.Place.{place_at}
use Rattle.scratch.proofs.Outcomes.{moved-at-once}
use Rattle.scratch.proofs.ScratchAllocator.move_edits.Goals as goal

pub both_memory-requires : goal.both_memory-requires
both_memory-requires c = (c.requires.0.to-fits.known, c.requires.0.from-fits.known)

pub through_scratch-requires : goal.through_scratch-requires
through_scratch-requires c =
    let pre = c.requires in
    (pre.0, sym c.both_memory.ensures ∙ c.if-both_memory.true, pre.1)

pub returns-then-both_memory : goal.returns-then-both_memory
returns-then-both_memory c = c.through_scratch.ensures

pub push_move-requires : goal.push_move-requires
push_move-requires c =
    let pre = c.requires in
    (omega (arith, pre.1.few), record { to-small = pre.0.to-fits.small; from-small = pre.0.from-fits.small; value-small = pre.0.value })

pub returns : goal.returns
returns c =
    let a = c.args in
    moved-at-once _ _ _ _ (place_at a.to.0) (place_at a.from.0) _ _ _ _ (sym c.both_memory.ensures ∙ c.if-both_memory.false) c.push_move.ensures
