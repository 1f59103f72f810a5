-- `place_move` meets its contract: kept, dropped, rebuilt or refused as the rules say.
use mathlib.Core.Path.{sym, ap, ◌∙◌}
use Rattle.entity.specs.Place.{place_at}
use Rattle.entries.specs.Answers.{fate_of}
use Rattle.entries.proofs.Table.{entries-count}
use Rattle.entries.proofs.Fates.{writable, fate-kept, fate-remat}
use Rattle.entries.proofs.Adding.{roomy, added-instead}
use Rattle.entries.proofs.place_move.Goals as goal

pub move_fate-requires : goal.move_fate-requires
move_fate-requires c = (c.requires.0, c.requires.2.value-named, writable _ _ c.requires.0 _ c.requires.2.source-named, writable _ _ c.requires.0 _ c.requires.2.dest-named)

pub place_kept-requires : goal.place_kept-requires
place_kept-requires c =
    let s = c in
    (s.requires.0, s.requires.1, s.requires.2, fate-kept _ _ _ _ _ (sym (ap fate_of c.in-Kept.is) ∙ c.move_fate.ensures))

pub new_remat-requires : goal.new_remat-requires
new_remat-requires c = let s = c in (roomy _ _ _ _ s.requires.1 (rw entries-count at s.requires.2.less), writable _ _ s.requires.0 (place_at s.args.dest.0) s.requires.2.dest-named)

pub returns-in-Kept : goal.returns-in-Kept
returns-in-Kept c = c.place_kept.ensures

pub returns-in-Remat : goal.returns-in-Remat
returns-in-Remat c =
    let s = c in
    let q = fate-remat s.args.t.now s.args.f.now s.args.source.0 s.args.dest.0 s.args.v.0 _ (sym (ap fate_of c.in-Remat.is) ∙ c.move_fate.ensures) in
    added-instead _ _ _ _ s.requires.0 s.requires.1 _ _ _ s.requires.2 _ q.0 q.1 _ _ _ c.new_remat.ensures
