-- `put_slot` meets its contract: s, then the number.
use Rattle.print.proofs.Putting.{front-room, next-room, then-put}
use Rattle.print.specs.Text.{place_text}
use Rattle.print.proofs.put_slot.Goals as goal

pub put_text-at-requires : goal.put_text-at-requires
unfolding place_text
put_text-at-requires c = front-room _ c.requires

pub put_number-requires : goal.put_number-requires
unfolding place_text
put_number-requires c = let t = c in rw c.from.ensures (next-room t.put_text-at.ensures t.requires)

pub returns : goal.returns
unfolding place_text
returns c =
    let m = c in
    let t = m in
    rw (← m.from.ensures) (then-put t.put_text-at.ensures m.put_number.ensures)
