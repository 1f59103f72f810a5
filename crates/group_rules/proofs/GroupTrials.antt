-- The trials of 02 k, by computation.
use mathlib.Core.Path.{refl}
use Rattle.entity.specs.Logic.{any_in, all_in, has, meets, twice, last_or, indices}
use Rattle.reginfo.specs.RegInfo.{spillslot_size, top_level_class, stack_to_stack_class, reg_memory, bank_for_reg, reg_units, bank_for_class, class_slots, class_members, allocation_order}
use Rattle.reginfo.specs.Refused.{order_total, counts_fit, bank_fits, reg_fits, class_fits, outside_limits, listed_twice, unequal_widths, foreign_member, shared_memory, unfit_class, first_of, target_refusal}
use Rattle.function.specs.Function.{value_bank, remat_cost, remat_class}
use Rattle.rules.specs.Edit.{updated, and_then, each, find, first_at, filter}
use Rattle.rules.specs.Scratch.{acquire_from, unevict, unevict_but, unevict_for_reg, make_room, slot_scratch, evict_last, reuse, or_scratch, get_scratch_reg, move_edits, do_move}
use Rattle.rules.specs.Order.{carry_one, carry, remats, remat_with_scratch, writer_from, writers_of, writers, cycle_move_sources, divert, lead, undivert, undivert_all, close, visit, visit_unless_memory, start, moves}
use Rattle.rules.specs.Patch.{destinations, add, sorted_from, entry_conditions, patch_conditions, run, resolve_sorted, resolve_from, resolve}
use Rattle.rules.specs.Refusals.{entries_conditions}
use Rattle.rules.specs.Trials.{three}
use Rattle.group_rules.specs.Groups.{join, join_all, labels_from, labels, chosen, part, firsts, parts, resolve_parts, resolve_by_groups}
use Rattle.group_rules.specs.GroupTrials.{four, GroupTrials}

pub group-trials : GroupTrials
unfolding any_in all_in has meets last_or indices spillslot_size top_level_class stack_to_stack_class reg_memory bank_for_reg reg_units bank_for_class class_slots class_members allocation_order first_of value_bank remat_cost remat_class updated and_then each find first_at filter acquire_from unevict unevict_but unevict_for_reg make_room slot_scratch evict_last reuse or_scratch get_scratch_reg move_edits do_move carry_one carry remats remat_with_scratch writer_from writers_of writers cycle_move_sources divert lead undivert undivert_all close visit visit_unless_memory start moves destinations add sorted_from entry_conditions patch_conditions run resolve_sorted resolve_from resolve entries_conditions three four join join_all labels_from labels chosen part firsts parts resolve_parts resolve_by_groups order_total counts_fit bank_fits reg_fits class_fits outside_limits listed_twice unequal_widths foreign_member shared_memory unfit_class target_refusal twice
group-trials =
    record {
      accepted = refl;
      spared = refl;
      spared-after = refl;
      between = refl;
      between-labels = refl;
      linked = refl;
      linked-labels = refl;
      rebuilt-source = refl;
      own-source = refl;
      slot-handed-on = refl;
      later-17 = refl;
      later-17-stays = refl;
      dropped = refl;
      dropped-16 = refl;
      whole-first = refl;
      position_first = refl;
      position-last = refl;
      no-entries = refl;
      no-groups = refl;
    }
