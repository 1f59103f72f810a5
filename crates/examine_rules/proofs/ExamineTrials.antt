-- The trials of 02 m, by computation.
use mathlib.Core.Path.{refl}
use Rattle.entity.specs.Logic.{any_in, all_in, has, meets, twice, last_or, indices}
use Rattle.entity.specs.Place.{place_at}
use Rattle.reginfo.specs.RegInfo.{spillslot_size, top_level_class, stack_to_stack_class, reg_memory, bank_for_reg, reg_units, bank_for_class, class_slots, class_members, allocation_order}
use Rattle.reginfo.specs.Refused.{first_of}
use Rattle.function.specs.Function.{value_bank, remat_cost, remat_class}
use Rattle.rules.specs.Edit.{updated, and_then, filter}
use Rattle.rules.specs.Patch.{destinations, add, sorted_from, entry_conditions, patch_conditions}
use Rattle.rules.specs.Refusals.{entries_conditions}
use Rattle.rules.specs.Trials.{three, halves}
use Rattle.machine.specs.Machine.{put, read, write, fits, step, steps, counted}
use Rattle.edit.specs.Word.{edit_of}
use Rattle.group_rules.specs.Groups.{join, join_all, labels_from, labels}
use Rattle.examine_rules.specs.Examine.{same_words, width, number_in, generic_content, laid, no_start, ends_right, named, examine, patch_refusal}
use Rattle.examine_rules.specs.Words.{only_if, edits_in, examine_words, examine_patch}
use Rattle.examine_rules.specs.ExamineTrials.{with_word, ExamineTrials}

pub examine-trials : ExamineTrials
unfolding any_in all_in has meets twice last_or indices place_at spillslot_size top_level_class stack_to_stack_class reg_memory bank_for_reg reg_units bank_for_class class_slots class_members allocation_order first_of value_bank remat_cost remat_class updated and_then filter destinations add sorted_from entry_conditions patch_conditions entries_conditions three halves put read write fits step steps counted edit_of join join_all labels_from labels same_words width number_in generic_content laid no_start ends_right named examine patch_refusal only_if edits_in examine_words examine_patch with_word
examine-trials = record {
  ours = refl;
  merged = refl;
  own-words = refl;
  reloaded = refl;
  equal-sources = refl;
  tied-in-a-chain = refl;
  not-tied = refl;
  any-length = refl;
  ordinary = refl;
  emergency = refl;
  beyond = refl;
  last-slot = refl;
  beyond-to = refl;
  beyond-from = refl;
  beyond-rebuilt = refl;
  beyond-reloaded = refl;
  no-register-to = refl;
  no-register-rebuilt = refl;
  no-value-rebuilt = refl;
  no-register-saved = refl;
  no-register-reloaded = refl;
  in-a-frame = refl;
  cannot-rebuild = refl;
  rebuilt = refl;
  rebuilt-elsewhere = refl;
  not_free = refl;
  nothing-rebuilt = refl;
  same-again = refl;
  between-slots = refl;
  no_start = refl;
  no-start-24 = refl;
  not-done-24 = refl;
  refused-first = refl;
  no_value = refl;
  parked-list = refl;
  parked-not-free = refl;
  other-list = refl;
  move-word = refl;
  kind_0 = refl;
  kind-5 = refl;
  value-over = refl;
  saved-into-slot = refl;
  saved-with-value = refl;
  rebuilt-from = refl;
  rebuilt-word = refl;
}
