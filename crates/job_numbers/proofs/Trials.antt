-- The trials of written jobs, computed.
use mathlib.Core.Path.{refl}
use Rattle.entity.specs.Logic.{any_in, all_in, has, meets, twice, last_or, indices}
use Rattle.entity.specs.Place.{place_at}
use Rattle.reginfo.specs.RegInfo.{spillslot_size, top_level_class, stack_to_stack_class, reg_memory, bank_for_reg, reg_units, bank_for_class, class_slots, class_members, allocation_order}
use Rattle.reginfo.specs.Refused.{order_total, counts_fit, bank_fits, reg_fits, class_fits, outside_limits, listed_twice, unequal_widths, foreign_member, shared_memory, unfit_class, first_of, target_refusal}
use Rattle.function.specs.Function.{value_bank, remat_cost, remat_class, is_setting}
use Rattle.rules.specs.Edit.{updated, and_then, each, find, first_at, filter}
use Rattle.rules.specs.Scratch.{acquire_from, unevict, unevict_but, unevict_for_reg, make_room, slot_scratch, evict_last, reuse, or_scratch, get_scratch_reg, move_edits, do_move}
use Rattle.rules.specs.Order.{carry_one, carry, remats, remat_with_scratch, writer_from, writers_of, writers, cycle_move_sources, divert, lead, undivert, undivert_all, close, visit, visit_unless_memory, start, moves}
use Rattle.rules.specs.Patch.{destinations, add, sorted_from, entry_conditions, patch_conditions, run, resolve_sorted, resolve_from, resolve}
use Rattle.rules.specs.ChangeTrials.{doubled}
use Rattle.number.specs.Number.{groups, number, groups_of}
use Rattle.reading.specs.Reading.{tested, times, distinct}
use Rattle.job_target.specs.Target.{bank, reg, class, classes, target}
use Rattle.job_function.specs.Reads.{remat_value, value, valued, function}
use Rattle.job_patch.specs.Patches.{rising, place, entry, entries, patch}
use Rattle.job_rules.specs.Job.{after_target, header, patches_by, opening, job_by}
use Rattle.job_numbers.specs.Numbers.{each_of, target_numbers, function_numbers, patches_numbers, bytes_of, read_patches, read_job, written}
use Rattle.job_numbers.specs.Trials.{Trials}

pub trials : Trials
unfolding place_at any_in all_in has meets twice last_or indices spillslot_size top_level_class stack_to_stack_class reg_memory bank_for_reg reg_units bank_for_class class_slots class_members allocation_order order_total counts_fit bank_fits reg_fits class_fits outside_limits listed_twice unequal_widths foreign_member shared_memory unfit_class first_of target_refusal value_bank remat_cost remat_class is_setting updated and_then each find first_at filter acquire_from unevict unevict_but unevict_for_reg make_room slot_scratch evict_last reuse or_scratch get_scratch_reg move_edits do_move carry_one carry remats remat_with_scratch writer_from writers_of writers cycle_move_sources divert lead undivert undivert_all close visit visit_unless_memory start moves destinations add sorted_from entry_conditions patch_conditions run resolve_sorted resolve_from resolve groups number groups_of tested times distinct bank reg class classes target remat_value value valued function rising place entry entries patch after_target header patches_by opening job_by doubled each_of target_numbers function_numbers patches_numbers bytes_of read_patches read_job written
trials = record {
  just-room = refl;
  one-byte-short = refl;
  swap-target = refl;
  as_read = refl;
  resolving-has-17 = refl;
  no-slot = refl;
  resolving-stops = refl;
  reading-goes-on = refl;
  free-destination = refl;
  dropped-too = refl;
  two_bytes = refl;
  ends-early = refl;
  goes_on = refl;
  half-of-a-source = refl;
  no-class = refl;
  class-0 = refl;
}
