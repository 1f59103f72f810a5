-- The trials of 02 l, by computation.
use Prim.Native.Nat.{ℕ, ◌<◌}
use mathlib.Core.Path.{◌≡◌, refl}
use mathlib.Core.Bool.{false≢true}
use mathlib.Core.Logic.{⊎_elim}
use native.Mathlib.Omega.{arith}
use Rattle.entity.specs.Logic.{any_in, all_in, has, meets, twice, last_or, indices}
use Rattle.reginfo.specs.RegInfo.{spillslot_size, top_level_class, stack_to_stack_class, reg_memory, bank_for_reg, reg_units, bank_for_class, class_slots, class_members, allocation_order}
use Rattle.reginfo.specs.Refused.{order_total, counts_fit, bank_fits, reg_fits, class_fits, outside_limits, listed_twice, unequal_widths, foreign_member, shared_memory, unfit_class, first_of, target_refusal}
use Rattle.function.specs.Function.{value_bank, remat_cost, remat_class, is_setting}
use Rattle.function.specs.Refused as function
use Rattle.rules.specs.Edit.{updated, and_then, each, find, first_at, filter}
use Rattle.rules.specs.Scratch.{acquire_from, unevict, unevict_but, unevict_for_reg, make_room, slot_scratch, evict_last, reuse, or_scratch, get_scratch_reg, move_edits, do_move}
use Rattle.rules.specs.Order.{carry_one, carry, remats, remat_with_scratch, writer_from, writers_of, writers, cycle_move_sources, divert, lead, undivert, undivert_all, close, visit, visit_unless_memory, start, moves}
use Rattle.rules.specs.Counts.{sum}
use Rattle.rules.specs.Patch.{destinations, add, entry_conditions, patch_conditions, run, resolve_sorted, resolve_from, resolve}
use Rattle.rules.specs.Trials.{three, halves}
use Rattle.rules.specs.Take.{take_answer}
use Rattle.machine.specs.Enough.{sizes_that}
use Rattle.frame_rules.specs.Frame.{total, frame_conditions, formula_refusal, formulas_refusal, first_slots, open_refusal, others_lack, reach, resolve_in, take_in, standing_in, answered_in, asked_in, after_calls}
use Rattle.frame_rules.specs.FrameTrials.{by_slot, FrameTrials}

pub frame-trials : FrameTrials
unfolding any_in all_in has meets last_or indices spillslot_size top_level_class stack_to_stack_class reg_memory bank_for_reg reg_units bank_for_class class_slots class_members allocation_order first_of value_bank remat_cost remat_class updated and_then each find first_at filter acquire_from unevict unevict_but unevict_for_reg make_room slot_scratch evict_last reuse or_scratch get_scratch_reg move_edits do_move carry_one carry remats remat_with_scratch writer_from writers_of writers cycle_move_sources divert lead undivert undivert_all close visit visit_unless_memory start moves destinations add entry_conditions patch_conditions run resolve_sorted resolve_from resolve three halves sizes_that take_answer sum order_total counts_fit bank_fits reg_fits class_fits outside_limits listed_twice unequal_widths foreign_member shared_memory unfit_class target_refusal twice is_setting function.counts_fit function.value_fits function.foreign_class function.values_refusal function.function_refusal total frame_conditions formula_refusal formulas_refusal first_slots open_refusal others_lack reach resolve_in take_in standing_in answered_in asked_in after_calls
frame-trials =
    record {
      promised = refl;
      one-counter = refl;
      refused-first = refl;
      unchanged = refl;
      above-share = refl;
      slot-between = refl;
      none_made = refl;
      none_between = refl;
      renamed-since = refl;
      alone = refl;
      not-one-to-one = λ h. let e : 0 < 0 = h.rises 0 1 (omega arith) in omega arith;
      not-ordinary = λ h. let e : ◌≡◌ {A = ℕ} 1 0 = h.stays 0 (omega arith) in omega arith;
      told-another = refl;
      not-afresh = λ h. let l : 0 < 1 = omega arith in let e : ◌≡◌ {A = ℕ} 1 0 = h.agrees 0 l in omega arith;
      not-any = λ h. ⊎_elim (λ w. ⊎_elim (λ e. let z : ◌≡◌ {A = ℕ} 0 1 = cc in omega arith) (λ e. false≢true e) w) (λ w. let e : by_slot 1 1 ≡ by_slot 0 1 = w.0 refl in let z : ◌≡◌ {A = ℕ} 1 0 = cc in omega arith) (h.1 refl);
      nothing_left = refl;
      shares-above = refl;
      setting = refl;
      another-n = refl;
      n-before-values = (refl, refl);
      setting-before-target = (refl, refl);
      setting-before-n = refl;
      target-before-n = refl;
      first-before-second = refl;
      values-before-second = refl;
      no-formula = refl;
      too_many = (refl, refl);
      limit-over = refl;
      enough = (refl, refl);
      opens = refl;
    }
