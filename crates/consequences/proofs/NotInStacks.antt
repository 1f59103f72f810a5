-- Caches and numbers of slots that are not accepted, by computation.
use Prim.Native.Nat.{ℕ, ◌+◌, ◌*◌, ◌<◌, ◌≤◌}
use mathlib.Core.Path.{◌≡◌, refl, sym, ◌∙◌}
use mathlib.Core.Bool.{true, false, true≢false, false≢true}
use mathlib.Core.List.Memᴰ
use mathlib.Core.List.{List, [], ◌∷◌}
use native.Mathlib.Omega.{arith}
use Rattle.entity.specs.Logic.{any_in, all_in, has, meets, twice, last_or, indices}
use Rattle.entity.specs.Place.{reg, slot}
use Rattle.reginfo.specs.RegInfo.{spillslot_size, top_level_class, stack_to_stack_class, reg_memory, bank_for_reg, reg_units, bank_for_class, class_slots, class_members, allocation_order}
use Rattle.reginfo.specs.Refused.{order_total, counts_fit, bank_fits, reg_fits, class_fits, outside_limits, listed_twice, unequal_widths, foreign_member, shared_memory, unfit_class, first_of, target_refusal}
use Rattle.function.specs.Function.{value_bank, remat_cost, remat_class, is_setting}
use Rattle.function.specs.Refused as function
use Rattle.rules.specs.Edit.{updated, and_then, each, find, first_at, filter, Move}
use Rattle.rules.specs.Scratch.{acquire_from, unevict, unevict_but, unevict_for_reg, make_room, slot_scratch, evict_last, reuse, or_scratch, get_scratch_reg, move_edits, do_move}
use Rattle.rules.specs.Order.{carry_one, carry, remats, remat_with_scratch, writer_from, writers_of, writers, cycle_move_sources, divert, lead, undivert, undivert_all, close, visit, visit_unless_memory, start, moves}
use Rattle.rules.specs.Patch.{destinations, add, entry_conditions, patch_conditions, run, resolve_sorted, resolve_from, resolve}
use Rattle.rules.specs.Take.{resolving, take_answer, standing, answered, asked_after}
use Rattle.rules.specs.Trials.{three, patch}
use Rattle.rules.proofs.Steps.{updated-at}
use Rattle.machine.specs.Enough.{sizes_that}
use Rattle.machine.specs.SlotTrials.{fan, of_fan, fanned}
use Rattle.consequences.specs.NotInStacks.{NotInStacks}

pub not-in-stacks : NotInStacks
unfolding any_in all_in has meets last_or indices spillslot_size top_level_class stack_to_stack_class reg_memory bank_for_reg reg_units bank_for_class class_slots class_members allocation_order first_of value_bank remat_cost remat_class updated and_then each find first_at filter acquire_from unevict unevict_but unevict_for_reg make_room slot_scratch evict_last reuse or_scratch get_scratch_reg move_edits do_move carry_one carry remats remat_with_scratch writer_from writers_of writers cycle_move_sources divert lead undivert undivert_all close visit visit_unless_memory start moves destinations add entry_conditions patch_conditions run resolve_sorted resolve_from resolve take_answer standing answered asked_after three fan sizes_that order_total counts_fit bank_fits reg_fits class_fits outside_limits listed_twice unequal_widths foreign_member shared_memory unfit_class target_refusal twice is_setting function.counts_fit function.value_fits function.foreign_class function.values_refusal function.function_refusal
not-in-stacks =
    record {
      in-none = λ h. empty-stacks 2 (h.listed 2 (omega arith) (omega arith));
      twice-in-one = λ h. true≢false (h.stacked.once 3);
      in_two = λ h. let e : ◌≡◌ {A = ℕ} 3 4 = h.stacked.sole 2 3 4 refl refl in omega arith;
      ordinary = λ h. let e : 2 ≤ 1 = h.stacked.low 1 3 refl in omega arith;
      not_made = λ h. let e : 3 < 2 + 1 = h.stacked.below 3 3 refl in omega arith;
      moved = λ h. false≢true (h 2 3 refl);
      another-size = λ h. false≢true (h.lies (Move (slot 0) (reg 1) 1) (Memᴰ.head refl) 0 (omega arith) refl);
      twice-between = λ h. true≢false (h.once.stacked.once 3);
      named-by-none = λ h. false≢true (h.named 0 (omega arith) (omega arith));
      call-another-size = λ h. false≢true (h.lies (Move (slot 0) (reg 1) 1) (Memᴰ.head refl) 0 (omega arith) refl);
      call-names-none = λ h. false≢true (h.named 0 (omega arith) (omega arith));
      later-in-none = λ h. let q = h.2.listed 0 (omega arith) (omega arith) in empty-stacks 0 q;
      later-another-size = λ h. false≢true (h.2.lies (Move (slot 0) (reg 1) 1) (Memᴰ.head refl) 0 (omega arith) refl);
      out = λ h. h.0 refl;
      later-out = λ h. h.1.0 refl;
      too_few = λ h. let l : (4 + 1) * 2 ≤ 11 = omega arith in (h (fan 4 4) (of_fan 4 4 11) refl refl l (resolving (patch [] (fanned 4 4 8 4)) 1024 ∷ [])).0 refl;
    }
  where
    none_has : (x z : ℕ) → has x (updated 3 [] (updated 4 [] (λ z. [])) z) ≡ false
    none_has x z = updated-at (λ (l : List ℕ). has x l ≡ false) 3 [] (updated 4 [] (λ z. [])) z (λ _. refl) (λ _. updated-at (λ (l : List ℕ). has x l ≡ false) 4 [] (λ z. []) z (λ _. refl) (λ _. refl))

    empty-stacks : (x : ℕ) → (z : ℕ) × (has x (updated 3 [] (updated 4 [] (λ z. [])) z) ≡ true) → ⊥
    empty-stacks x h = false≢true (sym (none_has x h.0) ∙ h.1)
