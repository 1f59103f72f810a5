-- `release` meets its contract.
use native.Mathlib.Omega.{arith}
use Rattle.slots.proofs.Laws.{put}
use Rattle.slots.proofs.release.Goals as goal

pub returns : goal.returns
returns c =
    let s = c in
    let w = c.from-own in
    put s.args.slots.now c.told-slots s.args.z s.requires.0 s.requires.1 w.result s.args.s.0 w.ensures (omega arith) _ c.touch.ensures
