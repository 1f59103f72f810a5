-- `push_remat` meets its contract: the word that is pushed is the edit's.
use Rattle.entity.specs.Place.{place_at}
use Rattle.rules.specs.Edit.{Rematerialize}
use Rattle.edit.proofs.Laws.{as-edit, written, remat-range}
use Rattle.edit.proofs.push_remat.Goals as goal

pub returns : goal.returns
returns c =
    let s = c in
    (as-edit s.args.e.now _ c.remat_word.result (Rematerialize (place_at s.args.to.0) s.args.v.0) (remat-range s.args.to.0 s.args.v.0 s.requires.1) c.remat_word.ensures c.push.ensures.0, c.push.ensures.1, written s.args.e.now _ c.remat_word.result (Rematerialize (place_at s.args.to.0) s.args.v.0) (remat-range s.args.to.0 s.args.v.0 s.requires.1) c.remat_word.ensures c.push.ensures.0)
