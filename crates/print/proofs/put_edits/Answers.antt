use Rattle.print.proofs.Printing.{none-listed, line-room, one-listed}
use Rattle.print.proofs.put_edits.Goals as goal

pub loop-i-init : goal.loop-i-init
loop-i-init c = let s = c in none-listed _ _ _ _ s.requires.0 s.requires.1

pub put_edit-at-requires : goal.put_edit-at-requires
put_edit-at-requires c = let l = c.loop-i in let s = c in line-room _ _ _ _ s.requires.0 s.requires.1 l.out l.at l.i l.invariant c.loop-i-test.true

pub loop-i-preserved : goal.loop-i-preserved
loop-i-preserved c =
    let l = c.loop-i in
    let s = c in
    let e = c.put_edit-at in
    one-listed _ _ _ _ s.requires.0 s.requires.1 l.out l.at l.i l.invariant e.new.out e.result c.loop-i-test.true e.ensures
