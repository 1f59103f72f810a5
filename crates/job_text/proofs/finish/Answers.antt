use Rattle.job_text.proofs.Standing.{none_over}
use lib.ListN.{drop, length-drop}
use native.Mathlib.Omega.{arith}
use Rattle.job_text.proofs.finish.Goals as goal

pub returns : goal.returns
returns c =
    let s = c in
    let a = s.args in
    (c.end.ensures.0, none_over (drop a.at a.s.now) (rw (length-drop a.at a.s.now) (omega (arith, c.if-at-s.false))) c.end.ensures.1 (omega (arith, s.requires)))
