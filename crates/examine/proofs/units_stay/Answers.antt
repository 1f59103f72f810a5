use Prim.Native.Nat.{◌+◌, ◌-◌}
use mathlib.Core.Path.{◌≡◌, sym, ap, ◌∙◌}
use mathlib.Core.Bool.{Bool}
use native.Mathlib.Omega.{arith}
use borrow.Author.Tests.{not-true, not-false}
use Rattle.entity.specs.Logic.{and, all_in, indices}
use Rattle.cells.specs.Cells.{memory_of}
use Rattle.examine.specs.Ends.{unit_stays}
use Rattle.examine.proofs.Laws.{all-index, all_none}
use Rattle.examine.proofs.units_stay.Goals as goal

pub returns-then-not-unit_stays : goal.returns-then-not-unit_stays
returns-then-not-unit_stays c = let s = c in let l = c.loop-u in (sym (l.invariant.0 ∙ all-index (unit_stays (memory_of s.args.s.now) (memory_of s.args.c.now) s.args.w.now s.args.free.now) l.u (512 - l.u) (omega (arith, c.loop-u-test.true)) ∙ ap (λ (z : Bool). and z (all_in (unit_stays (memory_of s.args.s.now) (memory_of s.args.c.now) s.args.w.now s.args.free.now) (indices (l.u + 1) ((512 - l.u) - 1)))) (sym c.unit_stays.ensures.0 ∙ not-true c.unit_stays.result c.if-not-unit_stays.true-raw)), tt, tt)

pub loop-u-preserved : goal.loop-u-preserved
loop-u-preserved c = let s = c in let l = c.loop-u in let z : (512 - l.u) - 1 ≡ 512 - (l.u + 1) = omega arith in rw (← z) (l.invariant.0 ∙ all-index (unit_stays (memory_of s.args.s.now) (memory_of s.args.c.now) s.args.w.now s.args.free.now) l.u (512 - l.u) (omega (arith, c.loop-u-test.true)) ∙ ap (λ (z : Bool). and z (all_in (unit_stays (memory_of s.args.s.now) (memory_of s.args.c.now) s.args.w.now s.args.free.now) (indices (l.u + 1) ((512 - l.u) - 1)))) (sym c.unit_stays.ensures.0 ∙ not-false c.unit_stays.result c.if-not-unit_stays.false-raw), omega (arith, l.invariant.1, c.loop-u-test.true))

pub returns : goal.returns
returns c = let s = c in let l = c.loop-u in (sym (l.invariant.0 ∙ all_none (unit_stays (memory_of s.args.s.now) (memory_of s.args.c.now) s.args.w.now s.args.free.now) l.u (512 - l.u) (omega arith)), tt, tt)
