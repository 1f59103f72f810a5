-- The functions tried, computed.
use mathlib.Core.Path.{refl}
use Rattle.entity.specs.Logic.{any_in, all_in, has, meets, twice, last_or, indices}
use Rattle.reginfo.specs.RegInfo.{spillslot_size, top_level_class, stack_to_stack_class, reg_memory, bank_for_reg, reg_units, bank_for_class, class_slots, class_members, allocation_order}
use Rattle.reginfo.specs.Refused.{order_total, counts_fit, bank_fits, reg_fits, class_fits, outside_limits, listed_twice, unequal_widths, foreign_member, shared_memory, unfit_class, first_of, target_refusal}
use Rattle.function.specs.Function.{value_bank, remat_cost, remat_class, is_setting}
use Rattle.function.specs.Refused as function
use Rattle.rules.specs.Edit.{updated, and_then, each, find, first_at, filter}
use Rattle.rules.specs.Scratch.{acquire_from, unevict, unevict_but, unevict_for_reg, make_room, slot_scratch, evict_last, reuse, or_scratch, get_scratch_reg, move_edits, do_move}
use Rattle.rules.specs.Order.{carry_one, carry, remats, remat_with_scratch, writer_from, writers_of, writers, cycle_move_sources, divert, lead, undivert, undivert_all, close, visit, visit_unless_memory, start, moves}
use Rattle.rules.specs.Patch.{destinations, add, entry_conditions, patch_conditions, run, resolve_sorted, resolve_from, resolve}
use Rattle.rules.specs.Trials.{three}
use Rattle.price.specs.Totals.{added}
use Rattle.draws.specs.Draws.{after}
use Rattle.trying.specs.Drawing.{place_numbered, draw_moves, draw_patch}
use Rattle.trying.specs.Tried.{tries, drawings}
use Rattle.trying.specs.Report.{edits_in}
use Rattle.trying.specs.Trials.{three_banks, Trials}

pub trials : Trials
unfolding any_in all_in has meets twice last_or indices spillslot_size top_level_class stack_to_stack_class reg_memory bank_for_reg reg_units bank_for_class class_slots class_members allocation_order order_total counts_fit bank_fits reg_fits class_fits outside_limits listed_twice unequal_widths foreign_member shared_memory unfit_class first_of target_refusal value_bank remat_cost remat_class is_setting function.counts_fit function.value_fits function.foreign_class function.values_refusal function.function_refusal updated and_then each find first_at filter acquire_from unevict unevict_but unevict_for_reg make_room slot_scratch evict_last reuse or_scratch get_scratch_reg move_edits do_move carry_one carry remats remat_with_scratch writer_from writers_of writers cycle_move_sources divert lead undivert undivert_all close visit visit_unless_memory start moves destinations add entry_conditions patch_conditions run resolve_sorted resolve_from resolve three added after place_numbered draw_moves draw_patch tries drawings edits_in three_banks
trials = record {
  accepted = (refl, refl);
  ten = refl;
  self-move = refl;
  whole = refl;
  first-draws = refl;
  drawn = refl;
  move-drawn = refl;
  counts-one = refl;
  counts-two = refl;
  one_kept = refl;
  two-kept = refl;
  no-values = refl;
  registers-first = refl;
  modulo = refl;
  drawn-over = refl;
  left_out = refl;
  then-the-next = refl;
}
