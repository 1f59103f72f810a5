use native.Mathlib.Omega.{arith}
use Prim.Native.Nat.{◌+◌, ◌-◌}
use mathlib.Core.Path.{◌≡◌}
use Rattle.job_target.proofs.Flags.{no_flag}
use Rattle.job_target.proofs.Listed.{cells-start, cells-step, cells-refused, cells-end, room, low-enough}
use Rattle.job_target.proofs.read_list.Goals as goal

pub loop-i-init : goal.loop-i-init
loop-i-init c = let e : c.args.n - 0 ≡ c.args.n = omega arith in rw e (cells-start _ _ _ _ _ _ _ (no_flag 512))

pub returns-in-Refused : goal.returns-in-Refused
returns-in-Refused c = let l = c.loop-i in cells-refused _ _ _ _ _ _ c.requires.1 _ _ l.at l.i (c.args.n - l.i) l.invariant _ _ _ (omega arith) (rw c.in-Refused.is at c.read_new.ensures).0

pub put-requires : goal.put-requires
put-requires c =
    let l = c.loop-i in
    let new = rw c.in-Is.is at c.read_new.ensures in
    (omega (arith, room _ _ _ _ _ _ c.requires.1 _ _ l.at l.i (c.args.n - l.i) l.invariant _ c.in-Is.x c.in-Is.next new.1, c.requires.0), omega (arith, low-enough _ _ _ _ _ _ c.requires.1 _ _ l.at l.i (c.args.n - l.i) l.invariant _ c.in-Is.x c.in-Is.next new.1))

pub loop-i-preserved : goal.loop-i-preserved
loop-i-preserved c =
    let l = c.loop-i in
    let new = rw c.in-Is.is at c.read_new.ensures in
    let e : c.args.n - (l.i + 1) ≡ c.args.n - l.i - 1 = omega arith in
    rw e (cells-step _ _ _ _ _ _ c.requires.1 _ _ l.at l.i (c.args.n - l.i) l.invariant _ c.in-Is.x c.in-Is.next new.1 _ (omega arith) new.0 c.put.ensures)

pub returns : goal.returns
returns c = let l = c.loop-i in cells-end _ _ _ _ _ _ _ _ l.at l.i (c.args.n - l.i) l.invariant (omega arith)
