-- `put_value` meets its contract: the space, then the number and the newline.
use Rattle.print.proofs.Putting.{front-room, next-room, then-put}
use Rattle.print.proofs.put_value.Goals as goal

pub put_text-at-requires : goal.put_text-at-requires
put_text-at-requires c = front-room _ c.requires

pub put_last-requires : goal.put_last-requires
put_last-requires c =
    let a = c in
    rw c.from.ensures (next-room a.put_text-at.ensures a.requires)

pub returns : goal.returns
returns c =
    let b = c in
    let a = b in
    rw (← b.from.ensures) (then-put a.put_text-at.ensures b.put_last.ensures)
