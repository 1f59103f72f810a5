-- `put_edge` meets its contract: the total, then the end of the line.
use Rattle.print.proofs.Putting.{front-room, next-room, then-put}
use Rattle.price_text.proofs.put_edge.Goals as goal

pub put_total-at-requires : goal.put_total-at-requires
put_total-at-requires c = rw c.total.ensures (front-room _ c.requires.4)

pub put_end-requires : goal.put_end-requires
put_end-requires c =
    let s = c in
    (s.requires.1, s.requires.2, s.requires.3, next-room (rw c.total.ensures at c.put_total-at.ensures) s.requires.4)

pub returns : goal.returns
returns c = then-put (rw c.total.ensures at c.put_total-at.ensures) c.put_end.ensures
