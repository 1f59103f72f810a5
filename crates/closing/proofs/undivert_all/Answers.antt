use native.Mathlib.Omega.{arith}
use Prim.Native.Nat.{◌+◌, ◌-◌}
use mathlib.Core.Path.{◌≡◌}
use Rattle.scratch.specs.Promises.{tables}
use Rattle.closing.specs.State.{work}
use Rattle.closing.proofs.LettingGo.{going-lets, going_step, going_end}
use Rattle.closing.proofs.undivert_all.Goals as goal

pub undivert_row-q-requires : goal.undivert_row-q-requires
undivert_row-q-requires c =
    let a = c.args in
    let pre = c.requires in
    let l = c.loop-i in
    let g = going-lets _ _ _ pre.0 _ pre.2 a.k (work a.edits.now a.available.now a.slots.now a.sources.now a.d.now pre.1 a.c.now) l.i (c.len-n.result - l.i) l.q (tables l.edits l.available l.slots) l.d (omega arith) (l.invariant pre.0 pre.1 pre.2 pre.3 pre.4) in
    (pre.0, pre.1, g.0, c.len-n.result - l.i - 1, pre.3, g.1)

pub loop-i-preserved : goal.loop-i-preserved
loop-i-preserved c =
    let a = c.args in
    let l = c.loop-i in
    let r = c.undivert_row-q in
    let down : c.len-n.result - (l.i + 1) ≡ c.len-n.result - l.i - 1 = omega arith in
    λ e marks p ok h. rw down (going_step _ _ _ e _ p a.k (work a.edits.now a.available.now a.slots.now a.sources.now a.d.now marks a.c.now) l.i (c.len-n.result - l.i) l.q (tables l.edits l.available l.slots) l.d r.result (tables r.new.edits r.new.available r.new.slots) r.new.d (omega arith) (l.invariant e marks p ok h) (λ q g. r.ensures e marks q (c.len-n.result - l.i - 1) ok g))

pub returns : goal.returns
returns c =
    let a = c.args in
    let l = c.loop-i in
    λ e marks p ok h. going_end _ _ _ e _ p a.k (work a.edits.now a.available.now a.slots.now a.sources.now a.d.now marks a.c.now) l.i (c.len-n.result - l.i) l.q (tables l.edits l.available l.slots) l.d (omega arith) (l.invariant e marks p ok h)
