-- Demand 3 at swap-full, at slot-to-slot, with argument words and with two registers evicted: target and function are accepted, the edits are
-- those of the trial, and the premise can be met.
use Prim.Native.Nat.{ℕ, zero, suc, ◌<◌}
use mathlib.Core.Path.{◌≡◌, refl, sym, ap, ◌∙◌, subst, fun_ext}
use mathlib.Core.Bool.{false, true≢false}
use mathlib.Core.List.{List, [], ◌∷◌, map}
use mathlib.Core.Option.{Option, none, some}
use native.Mathlib.Omega.{arith}
use lib.ListN.{length, get_or, take}
use Rattle.entity.specs.Logic.{any_in, all_in, has, meets, last_or, indices}
use Rattle.entity.specs.Place.{reg, slot}
use Rattle.reginfo.specs.RegInfo.{RegInfo, spillslot_size, top_level_class, stack_to_stack_class, reg_memory, bank_for_reg, reg_units, bank_for_class, class_slots, class_members, allocation_order, is_memory_reg}
use Rattle.reginfo.specs.Refused.{first_of}
use Rattle.function.specs.Function.{Function, value_bank, remat_cost, remat_class, is_setting}
use Rattle.function.specs.Refused as function
use Rattle.rules.specs.Edit.{Edit, updated, and_then, each, find, first_at, filter}
use Rattle.rules.specs.Scratch.{empty_cache, acquire_from, unevict, unevict_but, unevict_for_reg, make_room, slot_scratch, evict_last, reuse, or_scratch, get_scratch_reg, move_edits, do_move}
use Rattle.rules.specs.Order.{KeptMove, no_move, carry_one, carry, remats, remat_with_scratch, writer_from, writers_of, writers, cycle_move_sources, divert, lead, undivert, undivert_all, close, visit, visit_unless_memory, start, moves}
use Rattle.rules.specs.Patch.{Patch, Answer, refused, resolved, destinations, add, sorted_from, sorted, entry_conditions, patch_conditions, run, resolve_sorted, resolve_from, resolve, cache_after}
use Rattle.rules.specs.Trials.{three, plain, patch, swap, Gives}
use Rattle.rules.specs.ChangeTrials.{arguments, two_banks, of_two, stored}
use Rattle.rules.proofs.Steps.{updated-at}
use Rattle.rules.proofs.Trials.{trials, told-apart, argument-words, two-kept}
use Rattle.rules.specs.Take.{resolving, asking, taking, take_answer, standing, asked_after}
use Rattle.machine.specs.Machine.{Memory, in_slot, Machine, Waiting, begin, put, read, write, fits, step, steps}
use Rattle.machine.specs.Claim.{Contents, Holding, RightFrom, Accepted, Answered}
use Rattle.machine.specs.Instance.{swap_edits, slot_to_slot, slot_edits, words, Stop, Swapped, SwapFull, SlotToSlot, pairs, through_edits, Through, ThroughAWord, word_swap, word_edits, WordsSwapped, SwapOfWords, both_edits, BothWait, TwoWait}
use Rattle.machine.proofs.Demand.{demand-3}

module _ (t : RegInfo) (f : Function) (p : Patch) where
  given : (r : Answer) (es : List Edit) (made : ℕ) (stack : List ℕ) → Gives r es made stack → Answered t f p r → Accepted t f p es
  given (refused n) es made stack g h = let z : ◌≡◌ {A = ℕ} 0 1 = cc in absurd (omega arith)
  given (resolved es' c n) es made stack g h = let e : es' ≡ es = cc in rw e at h

swap-fits : function.Accepted three (plain 0 1)
unfolding three indices value_bank remat_cost remat_class is_setting function.counts_fit function.value_fits function.foreign_class function.values_refusal function.function_refusal
swap-fits = refl

-- asked for, then taken
swap-accepted : Accepted three (plain 0 1) (patch [] swap) swap_edits
unfolding any_in all_in has meets last_or indices spillslot_size top_level_class stack_to_stack_class reg_memory bank_for_reg reg_units bank_for_class class_slots class_members allocation_order first_of value_bank remat_cost remat_class updated and_then each find first_at filter acquire_from unevict unevict_but unevict_for_reg make_room slot_scratch evict_last reuse or_scratch get_scratch_reg move_edits do_move carry_one carry remats remat_with_scratch writer_from writers_of writers cycle_move_sources divert lead undivert undivert_all close visit visit_unless_memory start moves destinations add entry_conditions patch_conditions run resolve_sorted resolve_from resolve three standing asked_after take_answer
swap-accepted = (demand-3 three (plain 0 1) told-apart.targets.0 swap-fits (asking (patch [] swap) 16 ∷ taking 0 ∷ [])).1.0

slot-fits : function.Accepted three (plain 2 1)
unfolding three indices value_bank remat_cost remat_class is_setting function.counts_fit function.value_fits function.foreign_class function.values_refusal function.function_refusal
slot-fits = refl

-- a list of no length is too short
too_short : cache_after empty_cache (resolve three (plain 2 1) slot_to_slot 0 empty_cache) ≡ empty_cache
unfolding three any_in all_in has meets reg_memory reg_units class_members value_bank remat_cost remat_class bank_for_reg first_of destinations add entry_conditions patch_conditions resolve_sorted resolve_from resolve
too_short = refl

-- the second of two calls, after one that is refused
slot-accepted : Accepted three (plain 2 1) slot_to_slot slot_edits
unfolding standing
slot-accepted =
    given three (plain 2 1) slot_to_slot (resolve three (plain 2 1) slot_to_slot 8 empty_cache) slot_edits 1 (2 ∷ []) trials.slot-to-slot
    (rw too_short at (demand-3 three (plain 2 1) told-apart.targets.0 slot-fits (resolving slot_to_slot 0 ∷ resolving slot_to_slot 8 ∷ [])).1.0)

one_word : (a b v : ℕ) → length (words a b v) ≡ 1
one_word a b zero = refl
one_word a b (suc v) = refl

-- each register has one unit, and each content one word
whole : (n l a b : ℕ) → Contents three (plain n l) (words a b)
unfolding three reg_units
whole n l a b v r hv hr m e = one_word a b v ∙ sym (width r hr)
  where
    width : (r : ℕ) → r < 3 → length (reg_units three r) ≡ 1
    width zero h = refl
    width (suc zero) h = refl
    width (suc (suc zero)) h = refl
    width (suc (suc (suc r))) h = absurd (omega arith)

abbrev both : List KeptMove
both = record { source = reg 0; dest = reg 1; value = 0 } ∷ record { source = reg 1; dest = reg 0; value = 1 } ∷ []

both-kept : (sorted three (plain 0 1) (patch [] swap)).moves ≡ both
unfolding three any_in has reg_memory class_members remat_cost remat_class sorted_from add
both-kept = refl

-- two kept moves whose sources hold their values' contents
two-hold : (t : RegInfo) (f : Function) (p : Patch) (content : ℕ → List ℕ) (m : Memory) (x y : KeptMove) → (sorted t f p).moves ≡ x ∷ y ∷ []
    → read t f m x.source ≡ content x.value → read t f m y.source ≡ content y.value → Holding t f p content m
two-hold t f p content m x y e h k = rw e at_both
  where
    at_both : (i : ℕ) → i < 2 → read t f m (get_or (x ∷ y ∷ []) i no_move).source ≡ content (get_or (x ∷ y ∷ []) i no_move).value
    at_both zero l = h
    at_both (suc zero) l = k
    at_both (suc (suc i)) l = absurd (omega arith)

swap_holds : (start : Memory) → Holding three (plain 0 1) (patch [] swap) (words (start.word 0) (start.word 1)) start
unfolding three reg_units reg_memory read
swap_holds start = two-hold three (plain 0 1) (patch [] swap) (words (start.word 0) (start.word 1)) start _ _ both-kept refl refl

abbrev one : List KeptMove
one = record { source = slot 0; dest = slot 1; value = 0 } ∷ []

one_kept : (sorted three (plain 2 1) slot_to_slot).moves ≡ one
unfolding three any_in has reg_memory class_members remat_cost remat_class sorted_from add
one_kept = refl

slot-holds : (start : Memory) (a : ℕ) → in_slot start 0 ≡ a ∷ [] → Holding three (plain 2 1) slot_to_slot (words a a) start
unfolding read
slot-holds start a p = rw one_kept at_one
  where
    at_one : (i : ℕ) → i < 1 → read three (plain 2 1) start (get_or one i no_move).source ≡ words a a (get_or one i no_move).value
    at_one zero h = p
    at_one (suc i) h = absurd (omega arith)

-- what k edits lead to
the : Machine → Option Machine → Machine
the d none = d
the d (some s) = s

module _ (t : RegInfo) (units cells : List ℕ) (f : Function) (p : Patch) (content : ℕ → List ℕ) (es : List Edit) (start : Memory) (right : RightFrom t f p content start es) where
  reached : ℕ → Machine
  reached k = the (begin start) (steps t f content (take k es) (begin start))

  stop : (k : ℕ) (words : List ℕ) (lists : List (List ℕ)) (waiting : List Waiting) → map (reached k).memory.word units ≡ words → map (reached k).memory.lists cells ≡ lists → (reached k).waiting ≡ waiting
      → Stop t units cells f p content es start k words lists waiting
  unfolding the reached
  stop k words lists waiting a b c =
      let y = right.stops k in
      let e : y.0 ≡ reached k = ap (the (begin start)) (sym y.1) in
      record {
        machine = y.0;
        done = y.1;
        stopped = y.2;
        words-hold = rw e a;
        lists-hold = rw e b;
        waits = rw e c;
      }

swapped : (start : Memory) → Swapped start (start.word 0) (start.word 1)
unfolding three reg_units reg_memory updated and_then put read write fits step steps the reached
swapped start =
    let r = swap-accepted.right (words (start.word 0) (start.word 1)) (whole 0 1 (start.word 0) (start.word 1)) start (swap_holds start) in
    let at = stop three _ _ (plain 0 1) (patch [] swap) (words (start.word 0) (start.word 1)) swap_edits start r in
    record {
      stop-0 = at 0 _ _ _ refl refl refl;
      stop-1 = at 1 _ _ _ refl refl refl;
      stop-2 = at 2 _ _ _ refl refl refl;
      stop-3 = at 3 _ _ _ refl refl refl;
      ends = r.ends;
    }

pub swap-full : SwapFull
swap-full start a b p q = rw (← p, ← q) (swapped start)

pub slot-to-slot : SlotToSlot
unfolding three reg_units reg_memory updated and_then filter put read write fits step steps the reached
slot-to-slot start a p =
    let r = slot-accepted.right (words a a) (whole 2 1 a a) start (slot-holds start a p) in
    let at = stop three _ _ (plain 2 1) slot_to_slot (words a a) slot_edits start r in
    record {
      stop-0 = at 0 _ _ _ refl (rw p) refl;
      stop-1 = at 1 _ _ _ refl (rw p) refl;
      stop-2 = at 2 _ _ _ (rw p) (rw p (rw p)) (rw p);
      stop-3 = at 3 _ _ _ (rw p) (rw p (rw p)) (rw p);
      stop-4 = at 4 _ _ _ (rw p) (rw p (rw p)) (rw p);
      ends = r.ends;
    }

-- ---- argument words
arguments-fit : function.Accepted arguments (plain 2 2)
unfolding indices value_bank remat_cost remat_class is_setting function.counts_fit function.value_fits function.foreign_class function.values_refusal function.function_refusal
arguments-fit = refl

through-accepted : Accepted arguments (plain 2 2) (patch (4 ∷ []) swap) through_edits
unfolding standing
through-accepted =
    given arguments (plain 2 2) (patch (4 ∷ []) swap) (resolve arguments (plain 2 2) (patch (4 ∷ []) swap) 16 empty_cache) through_edits 0 [] argument-words.through-a-word
    (demand-3 arguments (plain 2 2) argument-words.targets.0 arguments-fit (resolving (patch (4 ∷ []) swap) 16 ∷ [])).0

words-accepted : Accepted arguments (plain 2 2) word_swap word_edits
unfolding standing
words-accepted =
    given arguments (plain 2 2) word_swap (resolve arguments (plain 2 2) word_swap 16 empty_cache) word_edits 2 (3 ∷ 2 ∷ []) argument-words.words-swapped
    (demand-3 arguments (plain 2 2) argument-words.targets.0 arguments-fit (resolving word_swap 16 ∷ [])).0

-- r0 and r1 have two units, and each content two words
pairs-whole : (a b c d : ℕ) → Contents arguments (plain 2 2) (pairs a b c d)
unfolding reg_units reg_memory
pairs-whole a b c d v r hv hr m e = two v ∙ sym (width r hr m)
  where
    two : (v : ℕ) → length (pairs a b c d v) ≡ 2
    two zero = refl
    two (suc v) = refl

    width : (r : ℕ) → r < 4 → is_memory_reg arguments r ≡ false → length (reg_units arguments r) ≡ 2
    width zero h m = refl
    width (suc zero) h m = refl
    width (suc (suc zero)) h m = absurd (true≢false m)
    width (suc (suc (suc zero))) h m = absurd (true≢false m)
    width (suc (suc (suc (suc r)))) h m = absurd (omega arith)

through-kept : (sorted arguments (plain 2 2) (patch (4 ∷ []) swap)).moves ≡ both
unfolding any_in has reg_memory class_members remat_cost remat_class sorted_from add
through-kept = refl

through-holds : (start : Memory) → Holding arguments (plain 2 2) (patch (4 ∷ []) swap) (pairs (start.word 0) (start.word 1) (start.word 2) (start.word 3)) start
unfolding reg_units reg_memory read
through-holds start =
    two-hold arguments (plain 2 2) (patch (4 ∷ []) swap) (pairs (start.word 0) (start.word 1) (start.word 2) (start.word 3)) start _ _ through-kept refl refl

through : (start : Memory) → Through start (start.word 0) (start.word 1) (start.word 2) (start.word 3)
unfolding reg_units reg_memory updated and_then put read write fits step steps the reached
through start =
    let content = pairs (start.word 0) (start.word 1) (start.word 2) (start.word 3) in
    let r = through-accepted.right content (pairs-whole _ _ _ _) start (through-holds start) in
    let at = stop arguments _ _ (plain 2 2) (patch (4 ∷ []) swap) content through_edits start r in
    record {
      stop-0 = at 0 _ _ _ refl refl refl;
      stop-1 = at 1 _ _ _ refl refl refl;
      stop-2 = at 2 _ _ _ refl refl refl;
      stop-3 = at 3 _ _ _ refl refl refl;
      ends = r.ends;
    }

pub through-a-word : ThroughAWord
through-a-word start a b c d p q x y = rw (← p, ← q, ← x, ← y) (through start)

words-kept : (sorted arguments (plain 2 2) word_swap).moves ≡ record { source = reg 2; dest = reg 3; value = 0 } ∷ record { source = reg 3; dest = reg 2; value = 1 } ∷ []
unfolding any_in has reg_memory class_members remat_cost remat_class sorted_from add
words-kept = refl

-- the start with two lists written out
abbrev spelled : Memory → ℕ → List ℕ → ℕ → List ℕ → Memory
spelled m i x k y = record { word = m.word; lists = updated i x (updated k y m.lists) }

spelled_out : (m : Memory) (i : ℕ) (x : List ℕ) (k : ℕ) (y : List ℕ) → m.lists i ≡ x → m.lists k ≡ y → spelled m i x k y ≡ m
spelled_out m i x k y p q =
    ap (λ (l : ℕ → List ℕ). record { word = m.word; lists = l })
    (fun_ext
    (λ u. updated-at (λ l. l ≡ m.lists u) i x _ u (λ e. sym p ∙ ap m.lists (sym e)) (λ _. updated-at (λ l. l ≡ m.lists u) k y m.lists u (λ e. sym q ∙ ap m.lists (sym e)) (λ _. refl))))

-- r2 and r3
abbrev spelled_words : Memory → ℕ → ℕ → ℕ → ℕ → Memory
spelled_words m a b c d = spelled m 4 (a ∷ b ∷ []) 5 (c ∷ d ∷ [])

words-hold : (start : Memory) (a b c d : ℕ) → Holding arguments (plain 2 2) word_swap (pairs a b c d) (spelled_words start a b c d)
unfolding reg_units reg_memory updated read
words-hold start a b c d = two-hold arguments (plain 2 2) word_swap (pairs a b c d) (spelled_words start a b c d) _ _ words-kept refl refl

words-swapped : (start : Memory) (a b c d : ℕ) → WordsSwapped (spelled_words start a b c d) a b c d
unfolding reg_units reg_memory updated and_then filter put read write fits step steps the reached
words-swapped start a b c d =
    let m = spelled_words start a b c d in
    let r = words-accepted.right (pairs a b c d) (pairs-whole a b c d) m (words-hold start a b c d) in
    let at = stop arguments _ _ (plain 2 2) word_swap (pairs a b c d) word_edits m r in
    record {
      stop-0 = at 0 _ _ _ refl refl refl;
      stop-1 = at 1 _ _ _ refl refl refl;
      stop-2 = at 2 _ _ _ refl refl refl;
      stop-3 = at 3 _ _ _ refl refl refl;
      stop-4 = at 4 _ _ _ refl refl refl;
      stop-5 = at 5 _ _ _ refl refl refl;
      stop-6 = at 6 _ _ _ refl refl refl;
      stop-7 = at 7 _ _ _ refl refl refl;
      stop-8 = at 8 _ _ _ refl refl refl;
      ends = r.ends;
    }

pub swap-of-words : SwapOfWords
swap-of-words start a b c d p q = subst (λ (m : Memory). WordsSwapped m a b c d) (spelled_out start 4 (a ∷ b ∷ []) 5 (c ∷ d ∷ []) p q) (words-swapped start a b c d)

-- ---- two registers evicted
abbrev both_stored : Patch
both_stored = patch [] (stored [])

both-fit : function.Accepted two_banks (of_two 4 2 2)
unfolding two_banks indices value_bank remat_cost remat_class is_setting function.counts_fit function.value_fits function.foreign_class function.values_refusal function.function_refusal
both-fit = refl

both-accepted : Accepted two_banks (of_two 4 2 2) both_stored both_edits
unfolding standing
both-accepted =
    given two_banks (of_two 4 2 2) both_stored (resolve two_banks (of_two 4 2 2) both_stored 16 empty_cache) both_edits 2 (5 ∷ 4 ∷ []) two-kept.both-wait
    (demand-3 two_banks (of_two 4 2 2) two-kept.target both-fit (resolving both_stored 16 ∷ [])).0

both-whole : (a b : ℕ) → Contents two_banks (of_two 4 2 2) (words a b)
unfolding two_banks reg_units
both-whole a b v r hv hr m e = one_word a b v ∙ sym (width r hr)
  where
    width : (r : ℕ) → r < 2 → length (reg_units two_banks r) ≡ 1
    width zero h = refl
    width (suc zero) h = refl
    width (suc (suc r)) h = absurd (omega arith)

both_stored_lem : (sorted two_banks (of_two 4 2 2) both_stored).moves ≡ record { source = slot 0; dest = slot 1; value = 0 } ∷ record { source = slot 2; dest = slot 3; value = 1 } ∷ []
unfolding two_banks any_in has reg_memory class_members remat_cost remat_class sorted_from add
both_stored_lem = refl

-- slots 0 and 2
abbrev spelled_slots : Memory → ℕ → ℕ → Memory
spelled_slots m a b = spelled m 512 (a ∷ []) 514 (b ∷ [])

both_hold : (start : Memory) (a b : ℕ) → Holding two_banks (of_two 4 2 2) both_stored (words a b) (spelled_slots start a b)
unfolding updated read
both_hold start a b = two-hold two_banks (of_two 4 2 2) both_stored (words a b) (spelled_slots start a b) _ _ both_stored_lem refl refl

both-wait : (start : Memory) (a b : ℕ) → BothWait (spelled_slots start a b) a b
unfolding two_banks reg_units reg_memory updated and_then filter put read write fits step steps the reached
both-wait start a b =
    let m = spelled_slots start a b in
    let r = both-accepted.right (words a b) (both-whole a b) m (both_hold start a b) in
    let at = stop two_banks _ _ (of_two 4 2 2) both_stored (words a b) both_edits m r in
    record {
      stop-0 = at 0 _ _ _ refl refl refl;
      stop-1 = at 1 _ _ _ refl refl refl;
      stop-2 = at 2 _ _ _ refl refl refl;
      stop-3 = at 3 _ _ _ refl refl refl;
      stop-4 = at 4 _ _ _ refl refl refl;
      stop-5 = at 5 _ _ _ refl refl refl;
      stop-6 = at 6 _ _ _ refl refl refl;
      stop-7 = at 7 _ _ _ refl refl refl;
      stop-8 = at 8 _ _ _ refl refl refl;
      ends = r.ends;
    }

pub two-wait : TwoWait
two-wait start a b p q = subst (λ (m : Memory). BothWait m a b) (spelled_out start 512 (a ∷ []) 514 (b ∷ []) p q) (both-wait start a b)
