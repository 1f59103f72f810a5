use Prim.Native.Nat.{◌+◌}
use mathlib.Core.Path.{◌≡◌, sym, ◌∙◌}
use native.Mathlib.Omega.{arith}
use Rattle.shipped.specs.Shipped.{shipped_units}
use Rattle.shipped.proofs.Writes.{copied-step, copied_none}
use Rattle.shipped.proofs.put_units.Goals as goal

pub loop-j-preserved : goal.loop-j-preserved
loop-j-preserved c =
    let a = c.args in
    let l = c.loop-j in
    let u = shipped_units a.r.0 in
    let z : a.at + l.j + 1 ≡ a.at + (l.j + 1) = omega arith in
    l.invariant ∙ copied-step l.t (a.at + l.j) l.j u (omega (arith, c.requires.1, c.loop-j-test.true)) ∙ rw (c.reg_unit.ensures, z)

pub returns : goal.returns
returns c =
    let a = c.args in
    let l = c.loop-j in
    sym (l.invariant ∙ copied_none l.t (a.at + l.j) l.j (shipped_units a.r.0) (omega (arith, c.requires.1, c.loop-j-test.false)))
