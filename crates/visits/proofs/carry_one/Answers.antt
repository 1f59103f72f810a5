-- `carry_one` meets its contract: no writer, a closed one, one that carries the value already, and one that carries it from now on.
use mathlib.Core.Path.{refl, sym, ◌∙◌}
use mathlib.Core.Option.{none}
use Rattle.entity.proofs.Laws.{no_false}
use Rattle.sparse.specs.Map.{map_of}
use Rattle.visits.specs.Marks.{states_of}
use Rattle.visits.specs.Writers.{kept_writer}
use Rattle.visits.specs.Carry.{carry_for}
use Rattle.visits.proofs.Writers.{writer-found, kept_low}
use Rattle.visits.proofs.Carrying.{no_true, nothing-more, closed, carries-already, one_more, carried-by}
use Rattle.visits.proofs.carry_one.Goals as goal

pub returns-in_default : goal.returns-in_default
returns-in_default c =
    let a = c.args in
    let s = states_of a.marks.now in
    carried-by none (kept_writer a.w.now a.u.0) (writer-found c.writer_of.ensures c.in_default.is) (nothing-more s a.v.0 a.c.now (carry_for a.v.0 s none) 1 (λ d r. refl))

pub is_pending-requires : goal.is_pending-requires
is_pending-requires c =
    let a = c.args in
    kept_low (map_of a.w.now a.u.0) _ (writer-found c.writer_of.ensures c.in-Some.is)

pub returns-then-not-is_pending : goal.returns-then-not-is_pending
returns-then-not-is_pending c =
    let a = c.args in
    carried-by _ (kept_writer a.w.now a.u.0) (writer-found c.writer_of.ensures c.in-Some.is)
    (closed (states_of a.marks.now) a.v.0 a.c.now _ (sym c.is_pending.ensures ∙ no_true c.is_pending.result c.if-not-is_pending.true-raw))

pub returns-then-carries : goal.returns-then-carries
returns-then-carries c =
    let a = c.args in
    carried-by _ (kept_writer a.w.now a.u.0) (writer-found c.writer_of.ensures c.in-Some.is)
    (carries-already (states_of a.marks.now) a.v.0 a.c.now _ (sym c.is_pending.ensures ∙ no_false c.is_pending.result c.if-not-is_pending.false-raw) (sym c.carries.ensures ∙ c.if-carries.true))

pub add-requires : goal.add-requires
add-requires c =
    let a = c.args in
    (c.requires.2, kept_low (map_of a.w.now a.u.0) _ (writer-found c.writer_of.ensures c.in-Some.is))

pub returns : goal.returns
returns c =
    let a = c.args in
    carried-by _ (kept_writer a.w.now a.u.0) (writer-found c.writer_of.ensures c.in-Some.is)
    (one_more (states_of a.marks.now) a.v.0 a.c.now _ c.add.new.c (sym c.is_pending.ensures ∙ no_false c.is_pending.result c.if-not-is_pending.false-raw) (sym c.carries.ensures ∙ c.if-carries.false) c.add.ensures.0 c.add.ensures.1)
