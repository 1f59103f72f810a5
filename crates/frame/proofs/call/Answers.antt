-- The text lies within the bytes that were lent for it.
use lib.Seq.{length-take-le}
use mathlib.Core.Path.{sym}
use native.Mathlib.Omega.{arith}
use Rattle.frame.proofs.call.Goals as goal

pub slice_bounds-write_all-end-2 : goal.slice_bounds-write_all-end-2
slice_bounds-write_all-end-2 c =
    let k = c.answer_call-r in
    sym (length-take-le k.result.len k.new.out (omega (arith, k.ensures.frame_ok.5, k.auto.out)))

pub returns : goal.returns
returns c = let e = c.answer_call-r.ensures in record { answered_as = e.answered_as; frame_ok = (e.frame_ok.0, e.frame_ok.1, e.frame_ok.2, e.frame_ok.3, e.frame_ok.4) }
