use mathlib.Core.Path.{sym, ◌∙◌}
use native.Mathlib.Omega.{arith}
use Rattle.entity.specs.Place.{place_at}
use Rattle.entity.proofs.Laws.{has_get_d}
use Rattle.reginfo.specs.RegInfo.{place_units}
use Rattle.reginfo.specs.Table.{reg_info_of}
use Rattle.sparse.proofs.Laws.{length-keys}
use Rattle.entries.proofs.Writers.{known-none}
use Rattle.entries.proofs.Noting.{noting-next, noting-hit, noting-end}
use Rattle.entries.proofs.writing.note_writes.Goals as goal

pub has_writer-requires : goal.has_writer-requires
has_writer-requires c =
    let s = c in
    let l = c.loop-j in
    (l.invariant.linked, rw c.place_unit-u.ensures (s.requires.1.low _ (has_get_d (place_units (reg_info_of s.args.t.now) (place_at s.args.p.0)) l.j (omega arith))))

pub shorten-requires : goal.shorten-requires
shorten-requires c =
    let s = c in
    let l = c.loop-j in
    (l.invariant.linked, omega (arith, c.len-before.ensures, length-keys s.args.w.now, length-keys l.w, l.invariant.begins.count))

pub returns-then-has_writer : goal.returns-then-has_writer
returns-then-has_writer c =
    let s = c in
    let l = c.loop-j in
    noting-hit _ _ _ _ _ l.invariant _ _ c.place_unit-u.ensures (omega arith) (sym c.has_writer.ensures ∙ c.if-has_writer.true)
    (c.shorten.ensures s.args.w.now (sym (c.len-before.ensures ∙ length-keys s.args.w.now)) l.invariant.begins)

pub insert-requires : goal.insert-requires
insert-requires c =
    let s = c in
    let l = c.loop-j in (
      l.invariant.linked,
      rw c.place_unit-u.ensures (s.requires.1.low _ (has_get_d (place_units (reg_info_of s.args.t.now) (place_at s.args.p.0)) l.j (omega arith))),
      omega (arith, s.requires.2, s.requires.1.few, l.invariant.few, l.invariant.within),
      known-none _ (sym c.has_writer.ensures ∙ c.if-has_writer.false),
    )

pub loop-j-preserved : goal.loop-j-preserved
loop-j-preserved c =
    let s = c in
    let l = c.loop-j in
    noting-next _ _ _ _ _ l.invariant _ _ c.place_unit-u.ensures s.requires.1.once (omega arith) (sym c.has_writer.ensures ∙ c.if-has_writer.false) c.insert.ensures

pub returns : goal.returns
returns c = noting-end _ _ _ _ _ c.loop-j.invariant (omega arith)
