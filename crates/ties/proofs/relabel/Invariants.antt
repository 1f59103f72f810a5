-- `relabel` meets its contract: the labels below the index are joined, the others as they were.
use Prim.Native.Nat.{ℕ, ◌+◌, ◌<◌, ◌≤◌}
use mathlib.Core.Path.{◌≡◌}
use lib.ListN.{length, get_or}
use lib.Dec.{eqb, ltb}
use Rattle.entity.specs.Logic.{pick, or}
use Rattle.ties.specs.Ties.{SameCells}
use Rattle.ties.proofs.relabel.Given as goal

abbrev pub invariant-loop-j : goal.invariant-loop-j
invariant-loop-j l = (length l.x ≡ 12416) × ((k : ℕ) → k < l.j → get_or l.x (12288 + k) 0 ≡ pick (or (eqb (get_or l.initial.x (12288 + k) 0) l.a) (eqb (get_or l.initial.x (12288 + k) 0) l.b)) (pick (ltb l.a l.b) l.a l.b) (get_or l.initial.x (12288 + k) 0)) × ((y : ℕ) → 12288 + l.j ≤ y → get_or l.x y 0 ≡ get_or l.initial.x y 0) × SameCells l.initial.x l.x × (l.j ≤ l.n)
