-- The marked trial patches of 01, and those that tell the rules from others, by computation.
use mathlib.Core.Path.{refl}
use Rattle.entity.specs.Logic.{any_in, all_in, has, meets, twice, last_or, indices}
use Rattle.reginfo.specs.RegInfo.{spillslot_size, top_level_class, stack_to_stack_class, reg_memory, bank_for_reg, reg_units, bank_for_class, class_slots, class_members, allocation_order}
use Rattle.reginfo.specs.Refused.{order_total, counts_fit, bank_fits, reg_fits, class_fits, outside_limits, listed_twice, unequal_widths, foreign_member, shared_memory, unfit_class, first_of, target_refusal}
use Rattle.function.specs.Function.{value_bank, remat_cost, remat_class, is_setting}
use Rattle.function.specs.Refused as function
use Rattle.rules.specs.Edit.{updated, and_then, each, find, first_at, filter}
use Rattle.rules.specs.Scratch.{acquire_from, unevict, unevict_but, unevict_for_reg, make_room, slot_scratch, evict_last, reuse, or_scratch, get_scratch_reg, move_edits, do_move}
use Rattle.rules.specs.Order.{carry_one, carry, remats, remat_with_scratch, writer_from, writers_of, writers, cycle_move_sources, divert, lead, undivert, undivert_all, close, visit, visit_unless_memory, start, moves}
use Rattle.rules.specs.Patch.{destinations, add, entry_conditions, patch_conditions, run, resolve_sorted, resolve_from, resolve}
use Rattle.rules.specs.Trials.{three, chained, five, six, halves, between, sizes, slots_alone, memory, short_order, eight, Trials, ToldApart}
use Rattle.rules.specs.ChangeTrials.{doubled, ordered, two_banks, three_banks, on_newer, on_both, on_each, members, Overlaps, Sources, ArgumentWords, Positions, TwoKept, BroughtBack}

all-trials : Trials × ToldApart × Overlaps × Sources × ArgumentWords × Positions
unfolding any_in all_in has meets last_or indices spillslot_size top_level_class stack_to_stack_class reg_memory bank_for_reg reg_units bank_for_class class_slots class_members allocation_order first_of value_bank remat_cost remat_class updated and_then each find first_at filter acquire_from unevict unevict_but unevict_for_reg make_room slot_scratch evict_last reuse or_scratch get_scratch_reg move_edits do_move carry_one carry remats remat_with_scratch writer_from writers_of writers cycle_move_sources divert lead undivert undivert_all close visit visit_unless_memory start moves destinations add entry_conditions patch_conditions run resolve_sorted resolve_from resolve three chained five six halves between sizes slots_alone memory short_order eight ordered order_total counts_fit bank_fits reg_fits class_fits outside_limits listed_twice unequal_widths foreign_member shared_memory unfit_class target_refusal twice doubled
all-trials = (
  record {
    swap-full = refl;
    unit-free = refl;
    chain = refl;
    slot-to-slot = refl;
    slots-swapped = refl;
    rebuild = refl;
    no-entries = refl;
    twice = refl;
    no-slot = refl;
    no-slot-cache = (refl, refl);
  },
  record {
    targets = (refl, refl, refl, refl, refl, refl, refl, refl, refl, refl, refl);
    closed-first = refl;
    sources-spared = refl;
    scratch-on-evicted = refl;
    two-writers = refl;
    join-counts = refl;
    join-keeps-source = refl;
    scratch-unavailable = refl;
    source-last = refl;
    source-brought-back = refl;
    stack-first = refl;
    first-usable = refl;
    rebuilds-backwards = refl;
    let-go-as-received = refl;
    brought-back-first = refl;
    slot-of-its-bank = refl;
    rebuilt-available = refl;
    rebuilt-by-scratch-available = refl;
    memory-rebuilt = refl;
    writer-counted-once = refl;
    received-once = refl;
    fan-out = refl;
    fan-out-repeated = refl;
    sources-differ = refl;
    values-differ = refl;
    member-taken-again = refl;
  },
  record {
    targets = (refl, refl, refl);
    wider-evicted = refl;
    narrower-evicted = refl;
    last-overlaps = refl;
  },
  record {
    target = refl;
    whole-then-half = refl;
    half-then-whole = refl;
    with-any-kept = refl;
    equal-sources = refl;
    after-12 = refl;
    before-9 = refl;
    before-13 = refl;
    rebuilt-then-whole = refl;
    whole-then-rebuilt = refl;
    over-a-destination = refl;
  },
  record {
    targets = (refl, refl);
    wide-memory = refl;
    wider-memory = refl;
    unequal = refl;
    through-a-word = refl;
    words-swapped = refl;
    word-stored = refl;
  },
  record {
    target = refl;
    of-a-slot = refl;
    of-the-third = refl;
    of-the-first = refl;
    without = refl;
    greatest = refl;
    taken-again = refl;
    newly-evicted = refl;
    of-the-second-scratch = refl;
  },
)

pub trials : Trials
trials = all-trials.0

pub told-apart : ToldApart
told-apart = all-trials.1

pub overlaps : Overlaps
overlaps = all-trials.2

pub sources : Sources
sources = all-trials.3

pub argument-words : ArgumentWords
argument-words = all-trials.4

pub positions : Positions
positions = all-trials.5

pub two-kept : TwoKept
unfolding any_in all_in has meets last_or indices spillslot_size top_level_class stack_to_stack_class reg_memory bank_for_reg reg_units bank_for_class class_slots class_members allocation_order first_of value_bank remat_cost remat_class updated and_then each find first_at filter acquire_from unevict unevict_but unevict_for_reg make_room slot_scratch evict_last reuse or_scratch get_scratch_reg move_edits do_move carry_one carry remats remat_with_scratch writer_from writers_of writers cycle_move_sources divert lead undivert undivert_all close visit visit_unless_memory start moves destinations add entry_conditions patch_conditions run resolve_sorted resolve_from resolve order_total counts_fit bank_fits reg_fits class_fits outside_limits listed_twice unequal_widths foreign_member shared_memory unfit_class target_refusal twice three two_banks is_setting function.counts_fit function.value_fits function.foreign_class function.values_refusal function.function_refusal
two-kept =
    record {
      target = refl;
      functions = (refl, refl);
      settings = (refl, refl, refl, refl);
      alternates = refl;
      one-alternates = refl;
      both-wait = refl;
      second-slot = refl;
      one-slot = refl;
      older-read = refl;
      newer-read = refl;
    }

pub brought-back : BroughtBack
unfolding any_in all_in has meets last_or indices spillslot_size top_level_class stack_to_stack_class reg_memory bank_for_reg reg_units bank_for_class class_slots class_members allocation_order first_of value_bank remat_cost remat_class updated and_then each find first_at filter acquire_from unevict unevict_but unevict_for_reg make_room slot_scratch evict_last reuse or_scratch get_scratch_reg move_edits do_move carry_one carry remats remat_with_scratch writer_from writers_of writers cycle_move_sources divert lead undivert undivert_all close visit visit_unless_memory start moves destinations add entry_conditions patch_conditions run resolve_sorted resolve_from resolve order_total counts_fit bank_fits reg_fits class_fits outside_limits listed_twice unequal_widths foreign_member shared_memory unfit_class target_refusal twice three_banks on_newer on_both on_each members is_setting function.counts_fit function.value_fits function.foreign_class function.values_refusal function.function_refusal
brought-back =
    record {
      targets = (refl, refl, refl, refl, refl);
      functions = (refl, refl, refl, refl, refl, refl);
      both_read = refl;
      both-rebuilt = refl;
      source_first = refl;
      older-stays = refl;
      by-eviction = refl;
      newest-member = refl;
    }
