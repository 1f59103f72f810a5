use Prim.Native.Nat.{ℕ, ◌+◌, ◌-◌, ◌<◌, ◌≤◌}
use mathlib.Core.Path.{◌≡◌, sym, ◌∙◌}
use native.Mathlib.Omega.{arith}
use Rattle.entity.specs.Logic.{no, indices}
use Rattle.reginfo.specs.Table.{reg_info_of}
use Rattle.function.specs.Function.{Function, num_values}
use Rattle.function.specs.Table.{function_of}
use Rattle.function.specs.Refused.{value_fits, foreign_class, values_refusal}
use Rattle.reginfo.specs.RegInfo.{RegInfo}
use Rattle.reginfo.specs.Refused.{or_else}
use mathlib.Core.Option.{none}
use Rattle.function.proofs.Laws.{no_false, values-step, values-left, fit-values}
use Rattle.function.proofs.check.Goals as goal

-- one value more, of those that are left
one_more : (t : RegInfo) (f : Function) (i : ℕ) → i < num_values f → values_refusal t f (indices i (num_values f - i)) ≡ or_else (no (value_fits t f i)) 2 (or_else (foreign_class t f i) 9 (values_refusal t f (indices (i + 1) (num_values f - (i + 1)))))
one_more t f i h = let e : num_values f - (i + 1) ≡ num_values f - i - 1 = omega arith in rw e (values-step t f i (num_values f - i) (omega arith))

none_left : (t : RegInfo) (f : Function) (i : ℕ) → num_values f ≤ i → values_refusal t f (indices i (num_values f - i)) ≡ none
unfolding values_refusal indices
none_left t f i h = let z : num_values f - i ≡ 0 = omega arith in rw z

pub loop-i-init : goal.loop-i-init
loop-i-init c =
    let setting = sym (rw c.kept_evictions.ensures at c.is_setting.ensures) ∙ no_false c.is_setting.result c.if-not-is_setting.false-raw in
    let fit = sym c.counts_fit.ensures ∙ no_false c.counts_fit.result c.if-not-counts_fit.false-raw in
    let all : num_values (function_of c.args.f.now) - 0 ≡ num_values (function_of c.args.f.now) = omega arith in
    (rw all (values-left (reg_info_of c.args.t.now) (function_of c.args.f.now) fit setting), fit-values (reg_info_of c.args.t.now) (function_of c.args.f.now) fit)

pub returns-then-not-value_fits : goal.returns-then-not-value_fits
returns-then-not-value_fits c =
    rw (c.loop-i.invariant.0, one_more (reg_info_of c.args.t.now) (function_of c.args.f.now) c.loop-i.i (omega arith), ← c.value_fits.ensures, c.if-not-value_fits.true-raw)

pub returns-then-foreign_class : goal.returns-then-foreign_class
returns-then-foreign_class c =
    rw (c.loop-i.invariant.0, one_more (reg_info_of c.args.t.now) (function_of c.args.f.now) c.loop-i.i (omega arith), ← c.value_fits.ensures, c.if-not-value_fits.false-raw, ← c.foreign_class.ensures, c.if-foreign_class.true)

pub loop-i-preserved : goal.loop-i-preserved
loop-i-preserved c =
    (c.loop-i.invariant.0 ∙ one_more (reg_info_of c.args.t.now) (function_of c.args.f.now) c.loop-i.i (omega arith) ∙ rw (← c.value_fits.ensures, c.if-not-value_fits.false-raw, ← c.foreign_class.ensures, c.if-foreign_class.false), c.loop-i.invariant.1)

pub returns : goal.returns
returns c = sym (c.loop-i.invariant.0 ∙ none_left (reg_info_of c.args.t.now) (function_of c.args.f.now) c.loop-i.i (omega arith))
