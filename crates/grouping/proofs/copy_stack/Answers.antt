use mathlib.Core.Path.{◌≡◌, refl, sym, ◌∙◌}
use native.Mathlib.Omega.{arith}
use Rattle.grouping.proofs.Copying.{copying-start, copying-more, copied}
use Rattle.grouping.proofs.copy_stack.Goals as goal

pub offset_bounds-from-z : goal.offset_bounds-from-z
offset_bounds-from-z c = omega (arith, c.requires.1)

pub bounds-from-z : goal.bounds-from-z
bounds-from-z c = omega (arith, c.requires.1)

pub loop-i-init : goal.loop-i-init
loop-i-init c = (omega arith, c.from-depth.ensures, copying-start _ _ _ c.told-to)

pub overflow_mul-to : goal.overflow_mul-to
overflow_mul-to c =
    let pre = c.requires in
    let args = c.args in
    let l = c.loop-i in let d = pre.0.deep args.z pre.1 in omega (arith, l.invariant.1, d, pre.1, c.loop-i-test.true)

pub overflow_add-to : goal.overflow_add-to
overflow_add-to c =
    let pre = c.requires in
    let args = c.args in
    let l = c.loop-i in let d = pre.0.deep args.z pre.1 in omega (arith, l.invariant.1, d, pre.1, c.loop-i-test.true)

pub overflow_add-to-in-loop-i : goal.overflow_add-to-in-loop-i
overflow_add-to-in-loop-i c =
    let pre = c.requires in
    let args = c.args in
    let l = c.loop-i in let d = pre.0.deep args.z pre.1 in omega (arith, l.invariant.1, d, pre.1, c.loop-i-test.true)

pub offset_bounds-from-z-in-loop-i : goal.offset_bounds-from-z-in-loop-i
offset_bounds-from-z-in-loop-i c =
    let pre = c.requires in
    let args = c.args in
    let l = c.loop-i in let d = pre.0.deep args.z pre.1 in omega (arith, l.invariant.1, d, pre.1, c.loop-i-test.true)

pub bounds-from-z-in-loop-i : goal.bounds-from-z-in-loop-i
bounds-from-z-in-loop-i c =
    let pre = c.requires in
    let args = c.args in
    let l = c.loop-i in let d = pre.0.deep args.z pre.1 in omega (arith, l.invariant.1, d, pre.1, c.loop-i-test.true)

pub overflow_mul-to-in-loop-i : goal.overflow_mul-to-in-loop-i
overflow_mul-to-in-loop-i c =
    let pre = c.requires in
    let args = c.args in
    let l = c.loop-i in let d = pre.0.deep args.z pre.1 in omega (arith, l.invariant.1, d, pre.1, c.loop-i-test.true)

pub overflow_add-to-in-loop-i-2 : goal.overflow_add-to-in-loop-i-2
overflow_add-to-in-loop-i-2 c =
    let pre = c.requires in
    let args = c.args in
    let l = c.loop-i in let d = pre.0.deep args.z pre.1 in omega (arith, l.invariant.1, d, pre.1, c.loop-i-test.true)

pub overflow_add-to-in-loop-i-3 : goal.overflow_add-to-in-loop-i-3
overflow_add-to-in-loop-i-3 c =
    let pre = c.requires in
    let args = c.args in
    let l = c.loop-i in let d = pre.0.deep args.z pre.1 in omega (arith, l.invariant.1, d, pre.1, c.loop-i-test.true)

pub offset_bounds-to-z : goal.offset_bounds-to-z
offset_bounds-to-z c =
    let pre = c.requires in
    let args = c.args in
    let l = c.loop-i in let d = pre.0.deep args.z pre.1 in omega (arith, l.invariant.1, d, pre.1, c.loop-i-test.true)

pub bounds-to-z : goal.bounds-to-z
bounds-to-z c =
    let pre = c.requires in
    let args = c.args in
    let l = c.loop-i in let d = pre.0.deep args.z pre.1 in omega (arith, l.invariant.1, d, pre.1, c.loop-i-test.true)

pub loop-i-preserved : goal.loop-i-preserved
loop-i-preserved c =
    let pre = c.requires in
    let args = c.args in
    let l = c.loop-i in let d = pre.0.deep args.z pre.1 in (omega (arith, c.loop-i-test.true), l.invariant.1, copying-more _ _ l.to args.z l.i _ pre.1 (omega (arith, l.invariant.1, d, c.loop-i-test.true)) refl l.invariant.2)

pub offset_bounds-to-z-2 : goal.offset_bounds-to-z-2
offset_bounds-to-z-2 c =
    let pre = c.requires in
    omega (arith, pre.1)

pub bounds-to-z-2 : goal.bounds-to-z-2
bounds-to-z-2 c =
    let pre = c.requires in
    omega (arith, pre.1)

pub returns : goal.returns
returns c =
    let pre = c.requires in
    let args = c.args in
    let l = c.loop-i in let d = pre.0.deep args.z pre.1 in let e : l.i ≡ c.from-depth.result = omega (arith, l.invariant.0, c.loop-i-test.false) in copied _ _ l.to args.z l.i _ pre.1 (e ∙ l.invariant.1) (omega (arith, l.invariant.1, d, e)) (sym e) l.invariant.2
