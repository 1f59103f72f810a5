use Prim.Native.Nat.{◌-◌, ◌/◌}
use mathlib.Core.Path.{refl}
use native.Mathlib.Omega.{arith}
use Rattle.number.specs.Number.{groups_of}
use Rattle.job_bytes.proofs.Putting.{all_left, last-puts, one-over, one-put, some-groups, one-group, fewer}
use Rattle.job_bytes.proofs.put_groups.Goals as goal

-- src/lib.rt:51:5
pub loop-rest-init : goal.loop-rest-init
loop-rest-init c = (5, omega arith, omega arith, all_left _ refl)

-- src/lib.rt:53:26
pub returns-in_err-q : goal.returns-in_err-q
returns-in_err-q c =
    let x = c in
    let l = x.loop-rest in
    rw c.from_residual.ensures (one-over l.invariant.3 (groups_of (l.invariant.0 - 1) (l.rest / 128)) (some-groups l.invariant.0 l.rest x.loop-rest-test.true l.invariant.2) x.put_byte.ensures c.in_err-q.was)

-- src/lib.rt:51:5
pub loop-rest-preserved : goal.loop-rest-preserved
loop-rest-preserved c =
    let x = c in
    let l = x.loop-rest in
    let m = fewer l.invariant.0 l.rest x.loop-rest-test.true l.invariant.2 in
    (l.invariant.0 - 1, m.0, m.1, one-put l.invariant.3 (groups_of (l.invariant.0 - 1) (l.rest / 128)) (some-groups l.invariant.0 l.rest x.loop-rest-test.true l.invariant.2) x.put_byte.ensures c.in_ok-q.was)

-- src/lib.rt:46:1
pub returns : goal.returns
returns c =
    let t = c in
    let l = t.loop-rest in
    last-puts l.invariant.3 (rw (one-group l.invariant.0 l.rest t.loop-rest-test.false l.invariant.1) c.put_byte-2.ensures)
