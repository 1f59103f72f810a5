-- `note_unit` meets its contract.
use mathlib.Core.Path.{refl}
use native.Mathlib.Omega.{arith}
use Rattle.groups.proofs.Tables.{noted-fresh, noted-same, noted-joined}
use Rattle.groups.proofs.note_unit.Goals as goal

pub bounds-owners-i : goal.bounds-owners-i
bounds-owners-i c = omega (arith, c.from-i.ensures, c.requires.0)

pub bounds-owners-i-then-o-ge128 : goal.bounds-owners-i-then-o-ge128
bounds-owners-i-then-o-ge128 c =
    let pre = c.requires in
    omega (arith, c.from-i.ensures, pre.0)

pub returns-then-o-ge128 : goal.returns-then-o-ge128
returns-then-o-ge128 c =
    let args = c.args in
    let pre = c.requires in
    let i = c.from-i in
    noted-fresh _ _ args.owners.now args.labels.now _ _ c.told-owners pre.0 i.ensures refl (rw (← i.ensures, ← c.from-o.ensures) c.if-o-ge128.true)

pub bounds-labels-o : goal.bounds-labels-o
bounds-labels-o c = omega (arith, c.if-o-ge128.false)

pub bounds-labels-k : goal.bounds-labels-k
bounds-labels-k c =
    let pre = c.requires in
    omega (arith, pre.1)

pub returns-then-a-b : goal.returns-then-a-b
returns-then-a-b c =
    let args = c.args in
    let i = c.from-i in
    let o = c.from-o in
    noted-same _ _ args.owners.now args.labels.now (rw (← i.ensures, ← o.ensures) c.if-o-ge128.false) (rw (← i.ensures, ← o.ensures) c.if-a-b.true)

pub returns : goal.returns
returns c =
    let args = c.args in
    let i = c.from-i in
    let o = c.from-o in
    noted-joined _ _ args.owners.now args.labels.now _ (rw (← i.ensures, ← o.ensures) c.if-o-ge128.false) (rw (← i.ensures, ← o.ensures) c.join.ensures)
