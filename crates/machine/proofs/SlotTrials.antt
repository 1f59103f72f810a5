-- The trials of 02 j, by computation.
use mathlib.Core.Path.{refl}
use Rattle.entity.specs.Logic.{any_in, all_in, has, meets, twice, last_or, indices}
use Rattle.reginfo.specs.RegInfo.{spillslot_size, top_level_class, stack_to_stack_class, reg_memory, bank_for_reg, reg_units, bank_for_class, class_slots, class_members, allocation_order}
use Rattle.reginfo.specs.Refused.{order_total, counts_fit, bank_fits, reg_fits, class_fits, outside_limits, listed_twice, unequal_widths, foreign_member, shared_memory, unfit_class, first_of, target_refusal}
use Rattle.function.specs.Function.{value_bank, remat_cost, remat_class, is_setting}
use Rattle.function.specs.Refused as function
use Rattle.rules.specs.Edit.{updated, and_then, each, find, first_at, filter}
use Rattle.rules.specs.Scratch.{acquire_from, unevict, unevict_but, unevict_for_reg, make_room, slot_scratch, evict_last, reuse, or_scratch, get_scratch_reg, move_edits, do_move}
use Rattle.rules.specs.Order.{carry_one, carry, remats, remat_with_scratch, writer_from, writers_of, writers, cycle_move_sources, divert, lead, undivert, undivert_all, close, visit, visit_unless_memory, start, moves}
use Rattle.rules.specs.Patch.{destinations, add, entry_conditions, patch_conditions, run, resolve_sorted, resolve_from, resolve}
use Rattle.machine.specs.Enough.{sizes_that}
use Rattle.machine.specs.SlotTrials.{pairs, fan, SlotTrials, FanTrials}

pub slot-trials : SlotTrials
unfolding any_in all_in has meets last_or indices spillslot_size top_level_class stack_to_stack_class reg_memory bank_for_reg reg_units bank_for_class class_slots class_members allocation_order first_of value_bank remat_cost remat_class updated and_then each find first_at filter acquire_from unevict unevict_but unevict_for_reg make_room slot_scratch evict_last reuse or_scratch get_scratch_reg move_edits do_move carry_one carry remats remat_with_scratch writer_from writers_of writers cycle_move_sources divert lead undivert undivert_all close visit visit_unless_memory start moves destinations add entry_conditions patch_conditions run resolve_sorted resolve_from resolve order_total counts_fit bank_fits reg_fits class_fits outside_limits listed_twice unequal_widths foreign_member shared_memory unfit_class target_refusal twice is_setting function.counts_fit function.value_fits function.foreign_class function.values_refusal function.function_refusal sizes_that pairs
slot-trials =
    record {
      targets = (refl, refl);
      functions = (refl, refl);
      two-sizes = refl;
      one-slot = refl;
      one_size = refl;
      counted = (refl, refl, refl, refl);
      planned = (refl, refl, refl);
    }

pub fan-trials : FanTrials
unfolding any_in all_in has meets last_or indices spillslot_size top_level_class stack_to_stack_class reg_memory bank_for_reg reg_units bank_for_class class_slots class_members allocation_order first_of value_bank remat_cost remat_class updated and_then each find first_at filter acquire_from unevict unevict_but unevict_for_reg make_room slot_scratch evict_last reuse or_scratch get_scratch_reg move_edits do_move carry_one carry remats remat_with_scratch writer_from writers_of writers cycle_move_sources divert lead undivert undivert_all close visit visit_unless_memory start moves destinations add entry_conditions patch_conditions run resolve_sorted resolve_from resolve order_total counts_fit bank_fits reg_fits class_fits outside_limits listed_twice unequal_widths foreign_member shared_memory unfit_class target_refusal twice is_setting function.counts_fit function.value_fits function.foreign_class function.values_refusal function.function_refusal sizes_that fan
fan-trials = record { target = refl; function = refl; both-banks = refl; two-kept = refl; not-for-both = refl; one_fewer = refl; counted = refl }
