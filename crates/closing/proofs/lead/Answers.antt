use mathlib.Core.Path.{◌≡◌, refl, sym, ◌∙◌}
use mathlib.Core.Bool.{true, false}
use Rattle.scratch.specs.State.{F}
use Rattle.closing.proofs.Leading.{emits-source, lead-open, lead-closed}
use Rattle.closing.proofs.lead.Goals as goal

pub has_open_writer-requires : goal.has_open_writer-requires
has_open_writer-requires c = (c.requires.0.ready, c.requires.1)

pub emit_diverted-requires : goal.emit_diverted-requires
emit_diverted-requires c = c.requires

pub returns-then-has_open_writer : goal.returns-then-has_open_writer
returns-then-has_open_writer c =
    let a = c.args in
    let pre = c.requires in
    let waits : true ≡ _ = sym c.if-has_open_writer.true ∙ c.has_open_writer.ensures (F a.f.now) in
    (c.emit_diverted.ensures.0, λ p h. lead-open a.t.now a.f.now a.cache.now a.e.now a.w.now pre.0 a.m pre.1 p _ _ h _ _ waits (c.emit_diverted.ensures.1 p h))

pub kept_source-from-requires : goal.kept_source-from-requires
kept_source-from-requires c = let pre = c.requires in (pre.1, pre.0.ready.kept.small.few)

pub emit-requires : goal.emit-requires
emit-requires c =
    let a = c.args in
    let pre = c.requires in
    emits-source a.t.now a.f.now a.cache.now a.e.now a.w.now pre.0 a.m pre.1 pre.2.0 _ _ pre.2.1 _ c.kept_source-from.ensures

pub returns : goal.returns
returns c =
    let a = c.args in
    let pre = c.requires in
    let plain : false ≡ _ = sym c.if-has_open_writer.false ∙ c.has_open_writer.ensures (F a.f.now) in
    (refl, λ p h. lead-closed a.t.now a.f.now a.cache.now a.e.now a.w.now pre.0 a.m pre.1 p _ _ h _ _ _ plain c.kept_source-from.ensures c.emit.ensures)
