use Prim.Native.Nat.{◌+◌, ◌-◌}
use mathlib.Core.Path.{◌≡◌, refl, sym, ◌∙◌}
use native.Mathlib.Omega.{arith}
use Rattle.reginfo.specs.Table.{reg_info_of}
use Rattle.function.specs.Function.{num_values}
use Rattle.function.specs.Table.{function_of}
use Rattle.function.proofs.Laws.{few-values}
use Rattle.enough_slots.proofs.Laws.{mark-step, none_left}
use Rattle.enough_slots.proofs.mark_sizes.Goals as goal

pub loop-i-init : goal.loop-i-init
loop-i-init c =
    let s = c in
    let all : num_values (function_of s.args.f.now) - 0 ≡ num_values (function_of s.args.f.now) = omega arith in
    rw all ((λ z. refl), omega arith, few-values (reg_info_of s.args.t.now) (function_of s.args.f.now) s.requires.function)

pub loop-i-preserved : goal.loop-i-preserved
loop-i-preserved c =
    let s = c in
    let turn = c.loop-i in
    let left = num_values (function_of s.args.f.now) - turn.i in
    let one_less : left - 1 ≡ num_values (function_of s.args.f.now) - (turn.i + 1) = omega arith in
    rw (← one_less) ((λ z. turn.invariant.0 z ∙ mark-step (reg_info_of s.args.t.now) (function_of s.args.f.now) turn.sizes _ turn.i left (omega (arith, c.loop-i-test.true, c.num_values-i-end.ensures)) c.mark_size.ensures z), omega arith, omega arith)

pub returns : goal.returns
returns c =
    let s = c in
    let turn = c.loop-i in
    let e : num_values (function_of s.args.f.now) - turn.i ≡ 0 = omega arith in
    λ z. sym (turn.invariant.0 z ∙ rw e (none_left (reg_info_of s.args.t.now) (function_of s.args.f.now) turn.sizes turn.i z))
