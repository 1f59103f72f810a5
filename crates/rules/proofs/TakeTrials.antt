-- The trials of 02 g, by computation.
use Prim.Native.Nat.{ℕ}
use mathlib.Core.Path.{◌≡◌, refl, ap}
use mathlib.Core.List.{[], ◌∷◌}
use mathlib.Core.Option.{some}
use native.Mathlib.Omega.{arith}
use Rattle.entity.specs.Logic.{any_in, all_in, has, meets, last_or, indices}
use Rattle.reginfo.specs.RegInfo.{spillslot_size, top_level_class, stack_to_stack_class, reg_memory, bank_for_reg, reg_units, bank_for_class, class_slots, class_members, allocation_order}
use Rattle.reginfo.specs.Refused.{first_of}
use Rattle.function.specs.Function.{value_bank, remat_cost, remat_class}
use Rattle.rules.specs.Edit.{updated, and_then, each, find, first_at, filter}
use Rattle.rules.specs.Scratch.{acquire_from, unevict, unevict_but, unevict_for_reg, make_room, slot_scratch, evict_last, reuse, or_scratch, get_scratch_reg, move_edits, do_move}
use Rattle.rules.specs.Order.{carry_one, carry, remats, remat_with_scratch, writer_from, writers_of, writers, cycle_move_sources, divert, lead, undivert, undivert_all, close, visit, visit_unless_memory, start, moves}
use Rattle.rules.specs.Patch.{Answer, destinations, add, entry_conditions, patch_conditions, run, resolve_sorted, resolve_from, resolve}
use Rattle.rules.specs.Trials.{three, swap}
use Rattle.rules.specs.Take.{Counted, take_answer, standing, answered, asked_after, after_all, settled}
use Rattle.rules.specs.TakeTrials.{Told, nothing, number, edits, told_by, ask, by_slot, TakeTrials}

pub take-trials : TakeTrials
unfolding any_in all_in has meets last_or indices spillslot_size top_level_class stack_to_stack_class reg_memory bank_for_reg reg_units bank_for_class class_slots class_members allocation_order first_of value_bank remat_cost remat_class updated and_then each find first_at filter acquire_from unevict unevict_but unevict_for_reg make_room slot_scratch evict_last reuse or_scratch get_scratch_reg move_edits do_move carry_one carry remats remat_with_scratch writer_from writers_of writers cycle_move_sources divert lead undivert undivert_all close visit visit_unless_memory start moves destinations add entry_conditions patch_conditions run resolve_sorted resolve_from resolve three standing answered asked_after after_all take_answer settled
take-trials =
    record {
      twice-told = refl;
      twice-led = (refl, refl, refl);
      same-told = refl;
      same-led = (refl, refl, refl);
      refused-told = refl;
      refused-led = (refl, refl, refl);
      nothing-told = refl;
      nothing-led = (refl, refl, refl);
      again-told = refl;
      again-led = (refl, refl, refl);
      not-between = λ h. let e : ◌≡◌ {A = Told} (number 20) (by_slot 0) = ap told_by h.0 in let z : ◌≡◌ {A = ℕ} 0 1 = cc in omega arith;
      not_left = λ h. let z : ◌≡◌ {A = ℕ} 1 0 = ap (λ (x : Counted). x.count) h in omega arith;
      not-askings = λ h. let z : ◌≡◌ {A = ℕ} 1 0 = h (ask swap ∷ []) in omega arith;
      not-others = λ h. let z : ◌≡◌ {A = Told} (by_slot 0) (edits [] 0 0) = ap (λ (x : Answer). told_by (some x)) h in let y : ◌≡◌ {A = ℕ} 1 0 = cc in omega arith;
      not-twenty = λ h. let e : ◌≡◌ {A = Told} nothing (number 20) = ap told_by (h.1 (omega arith)) in let z : ◌≡◌ {A = ℕ} 0 1 = cc in omega arith;
      not-nothing = λ h. let e : ◌≡◌ {A = Told} (by_slot 0) nothing = ap told_by h in let z : ◌≡◌ {A = ℕ} 0 1 = cc in omega arith;
    }
