-- `run` meets its contract.
use Rattle.remats.specs.Remats.{Rematted}
use Rattle.remats.proofs.Known.{remats-fit, remats-ok}
use native.Mathlib.Omega.{arith}
use Rattle.scratch.specs.Promises.{tables}
use Rattle.visits.specs.Marks.{remats_of}
use Rattle.closing.proofs.Known.{given}
use Rattle.parallel_moves.proofs.Running.{remats-room, scratch-room, moves-room, ran}
use borrow.Author.Rules.{rules}
use Rattle.parallel_moves.proofs.run.Goals as goal

pub begin-requires : goal.begin-requires
begin-requires c = c.requires.2.fits

pub new-k-requires : goal.new-k-requires
new-k-requires c = let pre = c.requires in omega (arith, pre.2.made, pre.2.limit)

pub remats-direct-requires : goal.remats-direct-requires
remats-direct-requires c =
    let pre = c.requires in
    let args = c.args in
    let clear = c.clear in
    let new = c.new-k in
    let begin = c.begin in
    (remats-fit _ _ pre.0 _ _ pre.1, remats-room args.t.now args.f.now args.cache.now args.e.now args.w.now pre.0 pre.1 args.g pre.2 clear.new.e begin.new.slots clear.ensures.1 clear.ensures.2 clear.ensures.3 begin.ensures new.result new.ensures)

pub remats_with_scratch-rematted-requires : goal.remats_with_scratch-rematted-requires
remats_with_scratch-rematted-requires c =
    let args = c.args in
    let clear = c.clear in
    let remats = c.remats-direct in
    let pre = c.requires in
    let new = c.new-k in
    let begin = c.begin in
    let rematted : Rematted args.t.now (remats_of args.e.now) new.result clear.new.e args.available.now remats.result remats.new.edits remats.new.available = remats.ensures in
    (remats-ok _ _ pre.0 _ _ pre.1, scratch-room args.t.now args.f.now args.cache.now args.e.now args.w.now pre.0 pre.1 args.g pre.2 clear.new.e begin.new.slots clear.ensures.1 clear.ensures.2 clear.ensures.3 begin.ensures new.result new.ensures args.available.now remats.result remats.new.edits remats.new.available rematted)

pub moves-requires : goal.moves-requires
moves-requires c =
    let args = c.args in
    let clear = c.clear in
    let remats = c.remats-direct in
    let pre = c.requires in
    let new = c.new-k in
    let begin = c.begin in
    let remats-with-scratch = c.remats_with_scratch-rematted in
    let rematted : Rematted args.t.now (remats_of args.e.now) new.result clear.new.e args.available.now remats.result remats.new.edits remats.new.available = remats.ensures in
    (given _ _ _ _ pre.0 pre.1, moves-room args.t.now args.f.now args.cache.now args.e.now args.w.now pre.0 pre.1 args.g pre.2 clear.new.e begin.new.slots clear.ensures.1 clear.ensures.2 clear.ensures.3 begin.ensures new.result new.ensures args.available.now remats.result remats.new.edits remats.new.available rematted remats-with-scratch.result (tables remats-with-scratch.new.edits remats-with-scratch.new.available remats-with-scratch.new.slots) remats-with-scratch.ensures)

pub returns : goal.returns
returns c =
    let args = c.args in
    let clear = c.clear in
    let remats = c.remats-direct in
    let pre = c.requires in
    let new = c.new-k in
    let begin = c.begin in
    let remats-with-scratch = c.remats_with_scratch-rematted in
    let rematted : Rematted args.t.now (remats_of args.e.now) new.result clear.new.e args.available.now remats.result remats.new.edits remats.new.available = remats.ensures in
    record { ran = ran args.t.now args.f.now args.cache.now args.e.now args.w.now pre.0 pre.1 args.g pre.2 clear.new.e begin.new.slots clear.ensures.1 clear.ensures.2 clear.ensures.3 begin.ensures new.result new.ensures args.available.now remats.result remats.new.edits remats.new.available rematted remats-with-scratch.result (tables remats-with-scratch.new.edits remats-with-scratch.new.available remats-with-scratch.new.slots) remats-with-scratch.ensures _ _ c.moves.ensures.moves; anything = search rules }
