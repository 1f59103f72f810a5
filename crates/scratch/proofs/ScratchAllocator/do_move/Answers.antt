use mathlib.Core.Path.{sym, ◌∙◌}
use mathlib.Core.List.{[]}
use native.Mathlib.Omega.{arith}
use Rattle.entity.specs.Place.{place_at}
use Rattle.scratch.specs.Promises.{tables}
use Rattle.scratch.proofs.Bounds.{fewer}
use Rattle.scratch.proofs.Outcomes.{moved-at-once, moved-marked}
use Rattle.scratch.proofs.ScratchAllocator.do_move.Goals as goal

pub unevict_for_ends-then-requires : goal.unevict_for_ends-then-requires
unevict_for_ends-then-requires c =
    let pre = c.requires in
    (pre.0.checked, pre.0.to-fits.known, pre.0.from-fits.known, fewer (omega arith) (omega arith) (omega arith) pre.1)

pub both_memory-through-requires : goal.both_memory-through-requires
both_memory-through-requires c = let pre = c.requires in (pre.0.to-fits.known, pre.0.from-fits.known)

pub through_scratch-moved-requires : goal.through_scratch-moved-requires
through_scratch-moved-requires c =
    let pre = c.requires in
    (pre.0, sym c.both_memory-through.ensures ∙ c.if-through.true, (c.unevict_for_ends-then.ensures []).fits 0 1 4 pre.1)

pub mark_ends-requires : goal.mark_ends-requires
mark_ends-requires c =
    let pre = c.requires in (pre.0.to-fits.known, pre.0.from-fits.known)

pub returns-then-through : goal.returns-then-through
returns-then-through c =
    let a = c.args in
    let av = a.available.now in
    let then = c.unevict_for_ends-then in
    let moved = c.through_scratch-moved in
    let e = moved.new.edits in
    let s = moved.new.slots in
    let marked = c.mark_ends in
    moved-marked _ _ _ _ (place_at a.to.0) (place_at a.from.0) _ _ then.result moved.result _ _ (tables then.new.edits av then.new.slots) (tables e av s) _
    (then.ensures av) moved.ensures marked.ensures.0 (marked.ensures.1 a.f.now a.cache.now e s)

pub push_move-requires : goal.push_move-requires
push_move-requires c =
    let pre = c.requires in
    let fits = (c.unevict_for_ends-then.ensures []).fits 0 1 4 pre.1 in
    (omega (arith, fits.few), record { to-small = pre.0.to-fits.small; from-small = pre.0.from-fits.small; value-small = pre.0.value })

pub mark_ends-requires-2 : goal.mark_ends-requires-2
mark_ends-requires-2 c =
    let pre = c.requires in (pre.0.to-fits.known, pre.0.from-fits.known)

pub returns : goal.returns
returns c =
    let a = c.args in
    let av = a.available.now in
    let then = c.unevict_for_ends-then in
    let pushed = c.push_move in
    let e = pushed.new.e in
    let s = then.new.slots in
    let marked = c.mark_ends-2 in
    let moved = moved-at-once _ _ _ _ (place_at a.to.0) (place_at a.from.0) _ then.result (tables then.new.edits av s) e (sym c.both_memory-through.ensures ∙ c.if-through.false) pushed.ensures in
    moved-marked _ _ _ _ (place_at a.to.0) (place_at a.from.0) _ _ then.result then.result _ _ (tables then.new.edits av s) (tables e av s) _
    (then.ensures av) moved marked.ensures.0 (marked.ensures.1 a.f.now a.cache.now e s)
