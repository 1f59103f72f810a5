use Prim.Native.Nat.{◌+◌, ◌-◌}
use mathlib.Core.Path.{◌≡◌, sym, ap, ◌∙◌}
use mathlib.Core.Bool.{Bool}
use native.Mathlib.Omega.{arith}
use borrow.Author.Tests.{not-true, not-false}
use Rattle.entity.specs.Logic.{and, all_in, indices}
use Rattle.cells.specs.Cells.{memory_of}
use Rattle.examine.specs.Ends.{slot_stays}
use Rattle.examine.proofs.Laws.{all-index, all_none}
use Rattle.examine.proofs.slots_stay.Goals as goal

pub returns-then-not-slot_stays : goal.returns-then-not-slot_stays
returns-then-not-slot_stays c = let s = c in let l = c.loop-x in (sym (l.invariant.0 ∙ all-index (slot_stays (memory_of s.args.s.now) (memory_of s.args.c.now) s.args.w.now) l.x (s.args.n - l.x) (omega (arith, c.loop-x-test.true)) ∙ ap (λ (z : Bool). and z (all_in (slot_stays (memory_of s.args.s.now) (memory_of s.args.c.now) s.args.w.now) (indices (l.x + 1) ((s.args.n - l.x) - 1)))) (sym c.slot_stays.ensures.0 ∙ not-true c.slot_stays.result c.if-not-slot_stays.true-raw)), tt, tt)

pub loop-x-preserved : goal.loop-x-preserved
loop-x-preserved c = let s = c in let l = c.loop-x in let z : (s.args.n - l.x) - 1 ≡ s.args.n - (l.x + 1) = omega arith in rw (← z) (l.invariant.0 ∙ all-index (slot_stays (memory_of s.args.s.now) (memory_of s.args.c.now) s.args.w.now) l.x (s.args.n - l.x) (omega (arith, c.loop-x-test.true)) ∙ ap (λ (z : Bool). and z (all_in (slot_stays (memory_of s.args.s.now) (memory_of s.args.c.now) s.args.w.now) (indices (l.x + 1) ((s.args.n - l.x) - 1)))) (sym c.slot_stays.ensures.0 ∙ not-false c.slot_stays.result c.if-not-slot_stays.false-raw), omega (arith, l.invariant.1, c.loop-x-test.true))

pub returns : goal.returns
returns c = let s = c in let l = c.loop-x in (sym (l.invariant.0 ∙ all_none (slot_stays (memory_of s.args.s.now) (memory_of s.args.c.now) s.args.w.now) l.x (s.args.n - l.x) (omega arith)), tt, tt)
