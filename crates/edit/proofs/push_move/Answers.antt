-- `push_move` meets its contract: the word that is pushed is the edit's.
use Rattle.entity.specs.Place.{place_at}
use Rattle.rules.specs.Edit.{Move}
use Rattle.edit.proofs.Laws.{as-edit, written, move-range}
use Rattle.edit.proofs.push_move.Goals as goal

pub returns : goal.returns
returns c =
    let s = c in
    (as-edit s.args.e.now _ c.move_word.result (Move (place_at s.args.to.0) (place_at s.args.from.0) s.args.v.0) (move-range s.args.to.0 s.args.from.0 s.args.v.0 s.requires.1) c.move_word.ensures c.push.ensures.0, c.push.ensures.1, written s.args.e.now _ c.move_word.result (Move (place_at s.args.to.0) (place_at s.args.from.0) s.args.v.0) (move-range s.args.to.0 s.args.from.0 s.args.v.0 s.requires.1) c.move_word.ensures c.push.ensures.0)
