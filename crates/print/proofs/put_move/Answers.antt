-- `put_move` meets its contract: the words of the line one after the other.
use Rattle.print.proofs.Putting.{front-room, next-room, then-put}
use Rattle.print.proofs.put_move.Goals as goal

pub put_text-a-requires : goal.put_text-a-requires
put_text-a-requires c = front-room _ c.requires

pub put_place-b-requires : goal.put_place-b-requires
put_place-b-requires c =
    let a = c in
    front-room _ (next-room a.put_text-a.ensures a.requires)

pub put_text-c-requires : goal.put_text-c-requires
put_text-c-requires c =
    let b = c in
    let a = b in
    front-room _ (next-room b.put_place-b.ensures (next-room a.put_text-a.ensures a.requires))

pub put_place-d-requires : goal.put_place-d-requires
put_place-d-requires c =
    let d = c in
    let b = d in
    let a = b in
    front-room _ (next-room d.put_text-c.ensures (next-room b.put_place-b.ensures (next-room a.put_text-a.ensures a.requires)))

pub put_value-requires : goal.put_value-requires
put_value-requires c =
    let e = c in
    let d = e in
    let b = d in
    let a = b in
    next-room e.put_place-d.ensures (next-room d.put_text-c.ensures (next-room b.put_place-b.ensures (next-room a.put_text-a.ensures a.requires)))

pub returns : goal.returns
returns c =
    let f = c in
    let e = f in
    let d = e in
    let b = d in
    let a = b in
    then-put a.put_text-a.ensures (then-put b.put_place-b.ensures (then-put d.put_text-c.ensures (then-put e.put_place-d.ensures f.put_value.ensures)))
