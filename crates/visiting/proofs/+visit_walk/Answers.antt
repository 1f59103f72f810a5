-- `visit` and `walk` meet their contracts. A visit makes a move fewer new, and a walk visits what is new: so each call is of less.
use mathlib.Core.Path.{refl, sym, ◌∙◌}
use native.Mathlib.Omega.{arith}
use lib.ListN.{length}
use Rattle.entity.specs.Place.{place_at}
use Rattle.entity.proofs.Laws.{no_false, has_get_d}
use Rattle.reginfo.specs.RegInfo.{place_units}
use Rattle.scratch.specs.State.{T}
use Rattle.visits.specs.Marks.{moves_of}
use Rattle.visits.proofs.Writers.{source-writable, writer-found}
use Rattle.visits.proofs.Carrying.{no_true}
use Rattle.visiting.proofs.Stay.{stay-news, opens-less}
use Rattle.visiting.proofs.Opened.{opened-visits}
use Rattle.visiting.proofs.Visited.{can-close, visited}
use Rattle.visiting.proofs.Walking.{can-visit, writer-kept, walking-end, walking_skip, walking-visit, walking-old}
use Prim.Native.Nat.{◌-◌}
use Rattle.visiting.proofs.+visit_walk.Goals as goal

pub visit-walk-walked-requires : goal.visit-walk-walked-requires
visit-walk-walked-requires t c =
    let s = c in
    let set = c.set_pending in (
      omega (arith, c.decreases, opens-less (length (moves_of s.args.e.now)) s.args.m s.args.marks.now set.new.marks s.requires.1 s.requires.2 set.ensures.0),
      (s.requires.0, s.requires.1, (_, opened-visits _ _ _ _ s.requires.0.moves _ s.requires.1 s.requires.3.0 _ _ s.requires.3.1 s.requires.2 _ set.ensures.0 set.ensures.1)),
    )

pub visit-close-requires : goal.visit-close-requires
visit-close-requires t c =
    let s = c in
    let set = c.set_pending in
    (s.requires.0, s.requires.1, can-close _ _ _ _ s.requires.0.moves _ s.requires.1 _ _ _ _ s.requires.2 _ set.ensures.0 set.ensures.1 c.walk-walked.ensures s.requires.3.0 s.requires.3.1)

pub visit-returns : goal.visit-returns
visit-returns t c =
    let s = c in
    let set = c.set_pending in
    visited _ _ _ _ s.requires.0.moves _ s.requires.1 _ _ _ _ s.requires.2 _ set.ensures.0 set.ensures.1 c.walk-walked.ensures _ _ c.close.ensures.0 c.close.ensures.1

pub walk-writer_of-requires : goal.walk-writer_of-requires
walk-writer_of-requires t c = (
  c.requires.0.ready.linked,
  rw c.place_unit-u.ensures ((source-writable _ _ _ _ c.requires.0.ready c.kept_source-p.ensures c.requires.1).low _ (has_get_d (place_units (T c.args.t.now) (place_at c.kept_source-p.result.0)) (c.loop-j.j - 1) (omega (arith, c.loop-j.invariant.within)))),
)

pub walk-loop-j-preserved-in_default : goal.walk-loop-j-preserved-in_default
walk-loop-j-preserved-in_default t c =
    walking_skip _ _ _ _ _ c.requires.0 _ _ _ _ _ _ _ (omega arith) c.place_unit-u.ensures c.loop-j.invariant (writer-found c.writer_of.ensures c.in_default.is)

pub walk-is_new-requires : goal.walk-is_new-requires
walk-is_new-requires t c = omega (arith, writer-kept _ _ _ _ c.requires.0 _ _ (writer-found c.writer_of.ensures c.in-Some.is), c.requires.0.ready.kept.small.few)

pub walk-loop-j-preserved-then-not-is_new : goal.walk-loop-j-preserved-then-not-is_new
walk-loop-j-preserved-then-not-is_new t c =
    walking-old _ _ _ _ _ c.requires.0 _ _ _ _ _ _ _ (omega arith) c.place_unit-u.ensures c.loop-j.invariant _ (writer-found c.writer_of.ensures c.in-Some.is) (sym c.is_new.ensures ∙ no_true c.is_new.result c.if-not-is_new.true-raw)

pub walk-visit-q-requires : goal.walk-visit-q-requires
walk-visit-q-requires t c =
    let s = c in
    let l = c.loop-j in
    let new = c.is_new in (
      omega (arith, c.decreases, stay-news (length (moves_of s.args.e.now)) s.args.marks.now l.marks l.invariant.stay),
      (
        s.requires.0,
        writer-kept _ _ _ _ s.requires.0 _ _ (writer-found c.writer_of.ensures c.in-Some.is),
        sym new.ensures ∙ no_false new.result c.if-not-is_new.false-raw,
        can-visit _ _ _ _ _ _ _ _ _ _ l.invariant s.requires.2.0 s.requires.2.1,
      ),
    )

pub walk-loop-j-preserved : goal.walk-loop-j-preserved
walk-loop-j-preserved t c =
    walking-visit _ _ _ _ _ c.requires.0 _ _ _ _ _ _ _ (omega arith) c.place_unit-u.ensures c.loop-j.invariant _ _ _ (writer-found c.writer_of.ensures c.in-Some.is) c.visit-q.ensures

pub walk-returns : goal.walk-returns
walk-returns t c =
    walking-end _ _ _ _ _ c.requires.0 _ _ _ _ _ _ _ c.kept_source-p.ensures refl (omega arith) c.loop-j.invariant
