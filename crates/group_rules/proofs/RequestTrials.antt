-- The trials of 02 k among other calls, by computation.
use mathlib.Core.Path.{refl}
use Rattle.entity.specs.Logic.{any_in, all_in, has, meets, last_or, indices}
use Rattle.reginfo.specs.RegInfo.{spillslot_size, top_level_class, stack_to_stack_class, reg_memory, bank_for_reg, reg_units, bank_for_class, class_slots, class_members, allocation_order}
use Rattle.reginfo.specs.Refused.{first_of}
use Rattle.function.specs.Function.{value_bank, remat_cost, remat_class}
use Rattle.rules.specs.Edit.{updated, and_then, each, find, first_at, filter}
use Rattle.rules.specs.Scratch.{acquire_from, unevict, unevict_but, unevict_for_reg, make_room, slot_scratch, evict_last, reuse, or_scratch, get_scratch_reg, move_edits, do_move}
use Rattle.rules.specs.Order.{carry_one, carry, remats, remat_with_scratch, writer_from, writers_of, writers, cycle_move_sources, divert, lead, undivert, undivert_all, close, visit, visit_unless_memory, start, moves}
use Rattle.rules.specs.Counts.{sum}
use Rattle.rules.specs.Patch.{destinations, add, sorted_from, entry_conditions, patch_conditions, run, resolve_sorted, resolve_from, resolve}
use Rattle.rules.specs.Refusals.{entries_conditions}
use Rattle.rules.specs.Take as take
use Rattle.rules.specs.Take.{take_answer}
use Rattle.frame_rules.specs.Frame as frame
use Rattle.frame_rules.specs.Frame.{others_lack, reach, resolve_in, take_in}
use Rattle.group_rules.specs.Groups.{join, join_all, labels_from, labels, chosen, part, firsts, parts, resolve_parts, resolve_by_groups}
use Rattle.group_rules.specs.Requests.{standing, answered, asked_after, after_all}
use Rattle.group_rules.specs.Frame.{groups_in, standing_in, answered_in, asked_in}
use Rattle.group_rules.specs.GroupTrials.{four}
use Rattle.group_rules.specs.RequestTrials.{RequestTrials}

pub request-trials : RequestTrials
unfolding any_in all_in has meets last_or indices spillslot_size top_level_class stack_to_stack_class reg_memory bank_for_reg reg_units bank_for_class class_slots class_members allocation_order first_of value_bank remat_cost remat_class updated and_then each find first_at filter acquire_from unevict unevict_but unevict_for_reg make_room slot_scratch evict_last reuse or_scratch get_scratch_reg move_edits do_move carry_one carry remats remat_with_scratch writer_from writers_of writers cycle_move_sources divert lead undivert undivert_all close visit visit_unless_memory start moves destinations add sorted_from entry_conditions patch_conditions run resolve_sorted resolve_from resolve entries_conditions sum take_answer take.standing take.answered take.asked_after others_lack reach resolve_in take_in frame.standing_in frame.answered_in frame.asked_in join join_all labels_from labels chosen part firsts parts resolve_parts resolve_by_groups standing answered asked_after after_all groups_in standing_in answered_in asked_in four
request-trials = record { none_told = refl; counted = refl; refused-told = refl; one-share = refl; slot-between = refl }
