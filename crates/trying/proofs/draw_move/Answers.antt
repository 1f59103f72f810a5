-- `draw_move` meets its contract: three draws, and the numbers that they come to.
use Rattle.trying.proofs.Drawing.{move-written}
use Rattle.trying.proofs.draw_move.Goals as goal

pub returns : goal.returns
returns c =
    let s = c in
    move-written _ _ s.args.numbers.now s.args.seed s.args.i s.requires.2 s.requires.3 _ _ _ _ _ _
    c.draw-a.ensures c.draw-b.ensures c.draw-c.ensures
    c.place_drawn.ensures c.place_drawn-2.ensures c.value_drawn.ensures
