use native.Mathlib.Omega.{arith}
use mathlib.Core.Path.{◌∙◌}
use Rattle.closing.specs.State.{work}
use Rattle.closing.proofs.Closing.{leads, lets, closes}
use Rattle.closing.proofs.close.Goals as goal

pub set_done-requires : goal.set_done-requires
set_done-requires c = let pre = c.requires in omega (arith, pre.1, pre.0.ready.kept.small.few)

pub lead-led-requires : goal.lead-led-requires
lead-led-requires c =
    let a = c.args in
    let pre = c.requires in
    let done = c.set_done in
    (pre.0, pre.1, (_, leads a.t.now a.f.now a.cache.now a.e.now a.m pre.1 pre.2.0 a.k (work a.edits.now a.available.now a.slots.now a.sources.now a.d.now a.marks.now a.c.now) pre.2.1 pre.0.moves done.new.marks done.ensures.0 done.ensures.1))

pub undivert_all-requires : goal.undivert_all-requires
undivert_all-requires c =
    let a = c.args in
    let pre = c.requires in
    let done = c.set_done in
    let led = c.lead-led in
    (a.e.now, led.new.marks, _, pre.0.moves, (lets a.t.now a.f.now a.cache.now a.e.now a.m pre.1 pre.2.0 a.k (work a.edits.now a.available.now a.slots.now a.sources.now a.d.now a.marks.now a.c.now) pre.2.1 pre.0.moves done.new.marks done.ensures.0 done.ensures.1 led.result (work led.new.edits led.new.available led.new.slots led.new.sources led.new.d led.new.marks led.new.c) (led.ensures.1 _ (leads a.t.now a.f.now a.cache.now a.e.now a.m pre.1 pre.2.0 a.k (work a.edits.now a.available.now a.slots.now a.sources.now a.d.now a.marks.now a.c.now) pre.2.1 pre.0.moves done.new.marks done.ensures.0 done.ensures.1)) led.ensures.0))

pub returns : goal.returns
returns c =
    let a = c.args in
    let pre = c.requires in
    let done = c.set_done in
    let led = c.lead-led in
    (led.ensures.0 ∙ done.ensures.0, λ p h. closes a.t.now a.f.now a.cache.now a.e.now a.m pre.1 p a.k (work a.edits.now a.available.now a.slots.now a.sources.now a.d.now a.marks.now a.c.now) h pre.0.moves done.new.marks done.ensures.0 done.ensures.1 led.result (work led.new.edits led.new.available led.new.slots led.new.sources led.new.d led.new.marks led.new.c) (led.ensures.1 _ (leads a.t.now a.f.now a.cache.now a.e.now a.m pre.1 p a.k (work a.edits.now a.available.now a.slots.now a.sources.now a.d.now a.marks.now a.c.now) h pre.0.moves done.new.marks done.ensures.0 done.ensures.1)) led.ensures.0 _ _ (c.undivert_all.ensures a.e.now led.new.marks _ pre.0.moves (lets a.t.now a.f.now a.cache.now a.e.now a.m pre.1 p a.k (work a.edits.now a.available.now a.slots.now a.sources.now a.d.now a.marks.now a.c.now) h pre.0.moves done.new.marks done.ensures.0 done.ensures.1 led.result (work led.new.edits led.new.available led.new.slots led.new.sources led.new.d led.new.marks led.new.c) (led.ensures.1 _ (leads a.t.now a.f.now a.cache.now a.e.now a.m pre.1 p a.k (work a.edits.now a.available.now a.slots.now a.sources.now a.d.now a.marks.now a.c.now) h pre.0.moves done.new.marks done.ensures.0 done.ensures.1)) led.ensures.0)))
