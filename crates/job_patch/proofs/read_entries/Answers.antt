use native.Mathlib.Omega.{arith}
use Prim.Native.Nat.{◌+◌, ◌-◌}
use mathlib.Core.Path.{◌≡◌}
use Rattle.job_patch.proofs.Entering.{entering-start, entering-full, entering-refused, entering-step, entering-end}
use Rattle.job_patch.proofs.read_entries.Goals as goal

pub loop-done-init : goal.loop-done-init
loop-done-init c = let e : c.args.n - 0 ≡ c.args.n = omega arith in rw e (let m = c.new_parallel_move.ensures in entering-start _ _ _ _ _ _ _ c.requires.1 (m.0, m.1 _ _))

pub returns-then-is_full : goal.returns-then-is_full
returns-then-is_full c = let l = c.loop-done in entering-full _ _ _ _ _ l.q (c.args.n - l._done) _ _ l.invariant _ (omega arith) c.if-is_full.true c.is_full.ensures

pub returns-in-Refused : goal.returns-in-Refused
returns-in-Refused c = let l = c.loop-done in entering-refused _ _ _ _ _ l.q (c.args.n - l._done) _ _ l.invariant _ (omega arith) c.if-is_full.false c.is_full.ensures _ _ _ (rw c.in-Refused.is at c.read_entry.ensures)

pub loop-done-preserved : goal.loop-done-preserved
loop-done-preserved c =
    let l = c.loop-done in
    let e : c.args.n - (l._done + 1) ≡ c.args.n - l._done - 1 = omega arith in
    rw e (entering-step _ _ _ _ _ l.q (c.args.n - l._done) _ _ l.invariant _ (omega arith) c.if-is_full.false c.is_full.ensures _ _ _ (rw c.in-At.is at c.read_entry.ensures))

pub returns : goal.returns
returns c = let l = c.loop-done in entering-end _ _ _ _ _ l.q (c.args.n - l._done) _ _ l.invariant (omega arith)
