-- `put_total` meets its contract: the words one after the other.
use Rattle.print.proofs.Putting.{front-room, next-room, then-put}
use Rattle.price_text.proofs.put_total.Goals as goal

pub put_text-a-requires : goal.put_text-a-requires
put_text-a-requires c = front-room _ c.requires

pub put_number-b-requires : goal.put_number-b-requires
put_number-b-requires c =
    let a = c in
    front-room _ (next-room a.put_text-a.ensures a.requires)

pub put_text-c-requires : goal.put_text-c-requires
put_text-c-requires c =
    let b = c in
    let a = b in
    front-room _ (next-room b.put_number-b.ensures (next-room a.put_text-a.ensures a.requires))

pub put_number-d-requires : goal.put_number-d-requires
put_number-d-requires c =
    let d = c in
    let b = d in
    let a = b in
    front-room _ (next-room d.put_text-c.ensures (next-room b.put_number-b.ensures (next-room a.put_text-a.ensures a.requires)))

pub put_text-e-requires : goal.put_text-e-requires
put_text-e-requires c =
    let e = c in
    let d = e in
    let b = d in
    let a = b in
    front-room _ (next-room e.put_number-d.ensures (next-room d.put_text-c.ensures (next-room b.put_number-b.ensures (next-room a.put_text-a.ensures a.requires))))

pub put_number-requires : goal.put_number-requires
put_number-requires c =
    let f = c in
    let e = f in
    let d = e in
    let b = d in
    let a = b in
    next-room f.put_text-e.ensures (next-room e.put_number-d.ensures (next-room d.put_text-c.ensures (next-room b.put_number-b.ensures (next-room a.put_text-a.ensures a.requires))))

pub returns : goal.returns
returns c =
    let g = c in
    let f = g in
    let e = f in
    let d = e in
    let b = d in
    let a = b in
    then-put a.put_text-a.ensures (then-put b.put_number-b.ensures (then-put d.put_text-c.ensures (then-put e.put_number-d.ensures (then-put f.put_text-e.ensures g.put_number.ensures))))
