-- `place_kept` meets its contract: kept, dropped or refused as the rules say.
use mathlib.Core.Path.{sym, ◌∙◌}
use Rattle.entity.specs.Place.{place_at}
use Rattle.entries.proofs.Table.{entries-count, counted-index, dropped-done}
use Rattle.entries.proofs.Fates.{writable}
use Rattle.entries.proofs.Sources.{sourced, kept-as}
use Rattle.entries.proofs.Noting.{noted-count, noted-undone}
use Rattle.entries.proofs.Adding.{roomy, roomy-low, noted-not, noted-new, refused-12, refused-21, added-dropped, added-kept}
use Rattle.entries.proofs.place_kept.Goals as goal

pub note_writes-requires : goal.note_writes-requires
note_writes-requires c =
    let s = c in
    (s.requires.1.linked, writable _ _ s.requires.0 (place_at s.args.dest.0) s.requires.2.dest-named, (roomy _ _ _ _ s.requires.1 (rw entries-count at s.requires.2.less)).keys)

pub index_source-requires : goal.index_source-requires
index_source-requires c =
    let s = c in
    (sourced _ _ _ _ s.requires.0 s.requires.1 s.requires.2.less, writable _ _ s.requires.0 (place_at s.args.source.0) s.requires.2.source-named)

pub shorten-requires : goal.shorten-requires
shorten-requires c =
    let n = c.note_writes.ensures.yes c.if-note_writes.true in
    (n.linked, noted-count _ _ _ _ _ n c.len-before.ensures)

pub returns-then-index_source : goal.returns-then-index_source
returns-then-index_source c =
    let s = c in
    let n = c.note_writes.ensures in
    refused-21 _ _ _ _ s.requires.0 s.requires.1 _ _ _ s.requires.2 s.requires.3 (noted-new _ _ _ _ _ n c.if-note_writes.true) _ _ (rw c.if-index_source.true at c.index_source.ensures)
    (noted-undone _ _ _ _ _ (n.yes c.if-note_writes.true) c.len-before.ensures _ c.shorten.ensures)

pub keep-requires : goal.keep-requires
keep-requires c =
    let s = c in
    roomy-low s.args.e.now c.index_source.new.e _ (roomy _ _ _ _ s.requires.1 (rw entries-count at s.requires.2.less)) c.index_source.ensures.low

pub returns-then-note_writes : goal.returns-then-note_writes
returns-then-note_writes c =
    let s = c in
    let n = c.note_writes.ensures in
    let i = rw c.if-index_source.false at c.index_source.ensures in
    added-kept _ _ _ _ s.requires.0 s.requires.1 _ _ _ s.requires.2 s.requires.3 (noted-new _ _ _ _ _ n c.if-note_writes.true) (sym i.is) _ _
    (kept-as _ s.args.e.now _ _ s.args.w.now _ s.args.source.0 s.args.dest.0 s.args.v.0 (writable _ _ s.requires.0 (place_at s.args.source.0) s.requires.2.source-named).known (sourced _ _ _ _ s.requires.0 s.requires.1 s.requires.2.less) i c.keep.ensures.0 c.keep.ensures.1 (n.yes c.if-note_writes.true))

pub is_dropped-requires : goal.is_dropped-requires
is_dropped-requires c =
    let s = c in
    ((c.note_writes.ensures.no c.if-note_writes.false).linked, writable _ _ s.requires.0 (place_at s.args.dest.0) s.requires.2.dest-named)

pub count_entry-requires : goal.count_entry-requires
count_entry-requires c = let s = c in (roomy _ _ _ _ s.requires.1 (rw entries-count at s.requires.2.less)).count

pub returns-then-is_dropped : goal.returns-then-is_dropped
returns-then-is_dropped c =
    let s = c in
    let e = s.args.e.now in
    let n = c.note_writes.ensures in
    let m = n.no c.if-note_writes.false in
    added-dropped _ _ _ _ s.requires.0 s.requires.1 _ _ _ s.requires.2 s.requires.3 (noted-not _ _ _ _ _ n c.if-note_writes.false) (rw m.map at (sym c.is_dropped.ensures ∙ c.if-is_dropped.true)) _ _
    (dropped-done e (roomy _ _ _ _ s.requires.1 (rw entries-count at s.requires.2.less)).few _ c.count_entry.ensures.1 c.count_entry.ensures.0) (λ x h. rw c.count_entry.ensures.0 (counted-index e x h)) m

pub returns : goal.returns
returns c =
    let s = c in
    let n = c.note_writes.ensures in
    let m = n.no c.if-note_writes.false in
    refused-12 _ _ _ _ s.requires.0 s.requires.1 _ _ _ s.requires.2 s.requires.3 (noted-not _ _ _ _ _ n c.if-note_writes.false) (rw m.map at (sym c.is_dropped.ensures ∙ c.if-is_dropped.false)) _ m
