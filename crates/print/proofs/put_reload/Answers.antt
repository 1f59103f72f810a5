-- `put_reload` meets its contract: the words of the line one after the other.
use Rattle.print.proofs.Putting.{front-room, next-room, then-put}
use Rattle.print.proofs.put_reload.Goals as goal

pub put_text-a-requires : goal.put_text-a-requires
put_text-a-requires c = front-room _ c.requires

pub put_register-b-requires : goal.put_register-b-requires
put_register-b-requires c =
    let a = c in
    front-room _ (next-room a.put_text-a.ensures a.requires)

pub put_text-c-requires : goal.put_text-c-requires
put_text-c-requires c =
    let b = c in
    let a = b in
    front-room _ (next-room b.put_register-b.ensures (next-room a.put_text-a.ensures a.requires))

pub put_slot-d-requires : goal.put_slot-d-requires
put_slot-d-requires c =
    let d = c in
    let b = d in
    let a = b in
    front-room _ (next-room d.put_text-c.ensures (next-room b.put_register-b.ensures (next-room a.put_text-a.ensures a.requires)))

pub put_text-requires : goal.put_text-requires
put_text-requires c =
    let e = c in
    let d = e in
    let b = d in
    let a = b in
    next-room e.put_slot-d.ensures (next-room d.put_text-c.ensures (next-room b.put_register-b.ensures (next-room a.put_text-a.ensures a.requires)))

pub returns : goal.returns
returns c =
    let f = c in
    let e = f in
    let d = e in
    let b = d in
    let a = b in
    then-put a.put_text-a.ensures (then-put b.put_register-b.ensures (then-put d.put_text-c.ensures (then-put e.put_slot-d.ensures f.put_text.ensures)))
