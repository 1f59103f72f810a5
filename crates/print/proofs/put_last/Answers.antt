-- `put_last` meets its contract: the digits, then the newline.
use Rattle.print.proofs.Putting.{front-room, next-room, then-put}
use Rattle.print.proofs.put_last.Goals as goal

pub put_number-end-requires : goal.put_number-end-requires
put_number-end-requires c = front-room _ c.requires

pub put_text-requires : goal.put_text-requires
put_text-requires c = let m = c in next-room m.put_number-end.ensures m.requires

pub returns : goal.returns
returns c =
    let t = c in
    let m = t in
    then-put m.put_number-end.ensures t.put_text.ensures
