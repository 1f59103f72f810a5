-- `width` meets its contract: that of the last register of the stack class.
use Prim.Native.Nat.{ℕ}
use mathlib.Core.Path.{◌≡◌, ap, ◌∙◌}
use native.Mathlib.Omega.{arith}
use lib.ListN.{length}
use Rattle.reginfo.specs.RegInfo.{reg_units, stack_to_stack_class, last_in_order}
use Rattle.reginfo.specs.Table.{reg_info_of}
use Rattle.reginfo.proofs.Accepted.{known-bank, known-class, known-reg, stack-fits, stack-slots, order-some, order-fits, ordered-fits, last-ordered}
use Rattle.function.specs.Function.{value_bank}
use Rattle.function.specs.Table.{function_of}
use Rattle.function.proofs.Laws.{few-values, bank-there}
use Rattle.examine_rules.specs.Examine.{width}
use Rattle.examine_rules.proofs.Given.{width_small}
use Rattle.ties.proofs.width.Goals as goal

pub value_bank-requires : goal.value_bank-requires
value_bank-requires c = record { is = c.requires.1; few = few-values _ _ c.requires.0.function }

pub stack_to_stack_class-c-requires : goal.stack_to_stack_class-c-requires
stack_to_stack_class-c-requires c = let s = c in let t = reg_info_of s.args.t.now in rw c.value_bank.ensures (known-bank t s.requires.0.target _ (bank-there t (function_of s.args.f.now) s.requires.0.function s.args.v.0 s.requires.1))

pub order_last-requires : goal.order_last-requires
order_last-requires c = let s = c in let t = reg_info_of s.args.t.now in let ta = s.requires.0.target in let hb = bank-there t (function_of s.args.f.now) s.requires.0.function s.args.v.0 s.requires.1 in let b = value_bank (function_of s.args.f.now) s.args.v.0 in let hc = stack-fits t ta b hb in let e : c.stack_to_stack_class-c.result.0 ≡ stack_to_stack_class t b = c.stack_to_stack_class-c.ensures ∙ ap (stack_to_stack_class t) c.value_bank.ensures in rw e (known-class t ta (stack_to_stack_class t b) hc, order-some t ta (stack_to_stack_class t b) hc (stack-slots t ta b hb), order-fits t ta (stack_to_stack_class t b) hc)

pub num_reg_units-requires : goal.num_reg_units-requires
num_reg_units-requires c = let s = c in let t = reg_info_of s.args.t.now in let ta = s.requires.0.target in let hb = bank-there t (function_of s.args.f.now) s.requires.0.function s.args.v.0 s.requires.1 in let b = value_bank (function_of s.args.f.now) s.args.v.0 in let hc = stack-fits t ta b hb in let e : c.order_last.result.0 ≡ last_in_order t (stack_to_stack_class t b) = c.order_last.ensures ∙ ap (last_in_order t) (c.stack_to_stack_class-c.ensures ∙ ap (stack_to_stack_class t) c.value_bank.ensures) in rw e (known-reg t ta (last_in_order t (stack_to_stack_class t b)) (ordered-fits t ta (stack_to_stack_class t b) hc (last_in_order t (stack_to_stack_class t b)) (last-ordered t ta (stack_to_stack_class t b) hc (stack-slots t ta b hb))))

pub returns : goal.returns
unfolding width
returns c = let s = c in let t = reg_info_of s.args.t.now in let f = function_of s.args.f.now in let e : c.num_reg_units.result ≡ width t f s.args.v.0 = c.num_reg_units.ensures ∙ ap (λ (r : ℕ). length (reg_units t r)) (c.order_last.ensures ∙ ap (last_in_order t) (c.stack_to_stack_class-c.ensures ∙ ap (stack_to_stack_class t) c.value_bank.ensures)) in (e, omega (arith, e, width_small t f s.requires.0.target s.requires.0.function s.args.v.0 s.requires.1))
