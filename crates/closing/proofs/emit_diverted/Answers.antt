use mathlib.Core.Bool.{true}
use lib.ListN.{get_or}
use Rattle.function.specs.Function.{value_bank}
use Rattle.function.specs.Table.{function_of}
use Rattle.search.specs.Search.{barred_by}
use Rattle.rules.specs.Order.{no_move}
use Rattle.scratch.specs.Promises.{tables}
use Rattle.scratch.specs.Diversions.{Diverts}
use Rattle.visits.specs.Marks.{moves_of}
use Rattle.scratch.specs.State.{F}
use Rattle.closing.proofs.Leading.{rows-room, divertible, emits, emit-room, lead-diverted}
use Rattle.closing.proofs.emit_diverted.Goals as goal

pub sources_noted-requires : goal.sources_noted-requires
sources_noted-requires c = c.requires.0.ready.kept

pub carry-added-requires : goal.carry-added-requires
carry-added-requires c = let pre = c.requires in (pre.0.ready, pre.1, rows-room _ _ _ _ _ pre.0 _ pre.1 pre.2.0 _ _ pre.2.1)

pub kept_value-v-requires : goal.kept_value-v-requires
kept_value-v-requires c = let pre = c.requires in (pre.1, pre.0.ready.kept.small.few)

pub kept_source-source-requires : goal.kept_source-source-requires
kept_source-source-requires c = let pre = c.requires in (pre.1, pre.0.ready.kept.small.few)

pub divert-got-requires : goal.divert-got-requires
divert-got-requires c =
    let a = c.args in
    let pre = c.requires in
    let carried = c.carry-added.ensures (F a.f.now) in
    rw c.kept_value-v.ensures (divertible _ _ _ _ _ pre.0 _ pre.1 pre.2.0 _ _ pre.2.1 _ carried.few)

pub emit-requires : goal.emit-requires
emit-requires c =
    let a = c.args in
    let pre = c.requires in
    let noted = c.sources_noted in
    let did = c.carry-added in
    let value = c.kept_value-v.ensures in
    let source = c.kept_source-source in
    let found = c.divert-got in
    let div : Diverts a.t.now a.f.now a.cache.now (value_bank (function_of a.f.now) (get_or (moves_of a.e.now) a.m no_move).value) (barred_by true noted.new.sources) did.result source.result.0 (get_or (moves_of a.e.now) a.m no_move).value a.d.now a.k (tables a.edits.now a.available.now a.slots.now) found.new.d found.result (tables found.new.edits found.new.available found.new.slots) = rw (← value) found.ensures in
    (emits _ _ _ _ _ pre.0 _ pre.1 pre.2.0 _ _ pre.2.1 _ _ _ _ _ _ _ div, emit-room _ _ _ _ _ pre.0 _ pre.1 pre.2.0 _ _ pre.2.1 _ _ _ _ _ _ _ div)

pub returns : goal.returns
returns c =
    let a = c.args in
    let pre = c.requires in
    let noted = c.sources_noted in
    let did = c.carry-added in
    let value = c.kept_value-v.ensures in
    let source = c.kept_source-source in
    let found = c.divert-got in
    let div : Diverts a.t.now a.f.now a.cache.now (value_bank (function_of a.f.now) (get_or (moves_of a.e.now) a.m no_move).value) (barred_by true noted.new.sources) did.result source.result.0 (get_or (moves_of a.e.now) a.m no_move).value a.d.now a.k (tables a.edits.now a.available.now a.slots.now) found.new.d found.result (tables found.new.edits found.new.available found.new.slots) = rw (← value) found.ensures in
    (noted.ensures.0, λ p h. lead-diverted a.t.now a.f.now a.cache.now a.e.now a.w.now pre.0 a.m pre.1 p _ _ h noted.new.sources noted.new.marks noted.ensures.0 noted.ensures.1 (noted.ensures.2 a.f.now h.stands.sources) did.new.c did.result (did.ensures (F a.f.now)) source.result.0 source.ensures found.new.d found.result _ div c.emit.result _ c.emit.ensures)
