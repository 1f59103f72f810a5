-- The shipped target is accepted.
use mathlib.Core.Path.{refl}
use Rattle.entity.specs.Logic.{any_in, all_in, has, meets, twice, last_or, indices}
use Rattle.reginfo.specs.RegInfo.{spillslot_size, top_level_class, stack_to_stack_class, reg_memory, bank_for_reg, reg_units, bank_for_class, class_slots, class_members, allocation_order}
use Rattle.reginfo.specs.Refused.{order_total, counts_fit, bank_fits, reg_fits, class_fits, outside_limits, listed_twice, unequal_widths, foreign_member, shared_memory, unfit_class, first_of, target_refusal, Accepted}
use Rattle.shipped.specs.Shipped.{shipped_units, bank_of, bank_regs, shipped_bank, shipped_reg, shipped_class, shipped}

pub shipped-accepted : Accepted shipped
unfolding any_in all_in has meets twice last_or indices spillslot_size top_level_class stack_to_stack_class reg_memory bank_for_reg reg_units bank_for_class class_slots class_members allocation_order order_total counts_fit bank_fits reg_fits class_fits outside_limits listed_twice unequal_widths foreign_member shared_memory unfit_class first_of target_refusal shipped_units bank_of bank_regs shipped_bank shipped_reg shipped_class shipped
shipped-accepted = refl
