-- `moves` meets its contract: the tables start, two passes, and the evicted register is saved.
use Rattle.visiting.proofs.Ending.{start-visits, first-passed, second_fits, all_moved}
use Rattle.visiting.proofs.moves.Goals as goal

pub start-requires : goal.start-requires
start-requires c = c.requires.0.ready.kept.small

pub clear-requires : goal.clear-requires
clear-requires c = tt

pub first_pass-first-requires : goal.first_pass-first-requires
first_pass-first-requires c =
    let s = c in
    let a = c.start in
    let b = c.clear in
    (s.requires.0, (_, start-visits _ _ _ _ s.requires.0.moves _ _ s.requires.1 a.ensures.0 a.ensures.1 a.ensures.2 b.ensures.0 b.ensures.1))

pub second_pass-second-requires : goal.second_pass-second-requires
second_pass-second-requires c =
    let s = c in
    let a = c.start in
    let b = c.clear in
    (s.requires.0, first-passed _ _ _ _ s.requires.0.moves _ _ s.requires.1 a.ensures.0 a.ensures.1 a.ensures.2 b.ensures.0 b.ensures.1 _ _ c.first_pass-first.ensures)

pub unevict_all-requires : goal.unevict_all-requires
unevict_all-requires c =
    let s = c in
    let a = c.start in
    let b = c.clear in
    (s.requires.0.moves.checked, second_fits _ _ _ _ s.requires.0.moves _ _ s.requires.1 a.ensures.0 a.ensures.1 a.ensures.2 b.ensures.0 b.ensures.1 _ _ c.first_pass-first.ensures _ _ c.second_pass-second.ensures)

pub returns : goal.returns
returns c =
    let s = c in
    let a = c.start in
    let b = c.clear in
    record { moves = all_moved _ _ _ _ s.requires.0.moves _ _ s.requires.1 a.ensures.0 a.ensures.1 a.ensures.2 b.ensures.0 b.ensures.1 _ _ c.first_pass-first.ensures _ _ c.second_pass-second.ensures _ _ (c.unevict_all.ensures _); anything = (tt, tt, tt, tt) }
