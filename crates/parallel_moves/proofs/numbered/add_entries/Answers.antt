use Prim.Native.Nat.{◌+◌, ◌*◌, ◌-◌}
use mathlib.Core.Path.{◌≡◌}
use lib.ListN.{length}
use native.Mathlib.Omega.{arith}
use Rattle.parallel_moves.proofs.Adding.{adding-step, adding-refused, adding-end, adding-short}
use Rattle.parallel_moves.proofs.numbered.add_entries.Goals as goal

pub returns-in-Refused : goal.returns-in-Refused
returns-in-Refused c = let l = c.loop-i in adding-refused _ _ _ _ _ _ (l.i * 4) _ l.invariant _ _ _ (omega arith) (rw c.in-Refused.is at c.add_entry.ensures)

pub loop-i-preserved : goal.loop-i-preserved
loop-i-preserved c =
    let l = c.loop-i in
    let n = length c.args.numbers.now in
    let on : (l.i + 1) * 4 ≡ l.i * 4 + 4 = omega arith in
    let down : n - (l.i * 4 + 4) ≡ n - l.i * 4 - 4 = omega arith in
    rw (on, down) (adding-step _ _ _ _ _ _ (l.i * 4) (n - l.i * 4) l.invariant _ _ (omega arith) (rw c.in_default.is at c.add_entry.ensures))

pub returns-then-n-ne0 : goal.returns-then-n-ne0
returns-then-n-ne0 c = let l = c.loop-i in adding-short _ _ _ _ _ _ (l.i * 4) _ l.invariant _ _ _ (omega arith) (omega arith) c.add_remat.ensures

pub returns : goal.returns
returns c = let l = c.loop-i in adding-end _ _ _ _ _ _ (l.i * 4) _ l.invariant (omega arith)
