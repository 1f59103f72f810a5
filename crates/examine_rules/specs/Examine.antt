-- 02 m, edits from the assembler: whether a list of edits does what a patch asks, from every start. There are endlessly many starts; one decides,
-- since the machine copies words and never looks at them: give every word that nothing ties to another a number of its own, and what the machine does
-- with these numbers it does with any words in their place.
use Rattle.std.specs.Prelude.{ℕ, ◌+◌, ◌*◌, ◌<◌, ◌≡◌, Bool, true, false, eqb, ltb, length, replicate}
use mathlib.Core.List.{List, [], ◌∷◌, Memᴰ}
use Rattle.std.proofs.Math.Option.{Option, none, some}
use Rattle.entity.specs.Logic.{pick, and, or, no, any_in, all_in, has, indices}
use Rattle.entity.specs.Place.{slot, same_place, names}
use Rattle.reginfo.specs.RegInfo.{RegInfo, num_regs, reg_units, last_in_order, stack_to_stack_class}
use Rattle.reginfo.specs.Refused.{first_of}
use Rattle.function.specs.Function.{Function, num_values, value_bank}
use Rattle.rules.specs.Edit.{Edit, Move, Rematerialize, EmergencySpill, EmergencyReload}
use Rattle.rules.specs.Scratch.{units_of_reg}
use Rattle.rules.specs.Order.{KeptMove}
use Rattle.rules.specs.Patch.{Entry, Patch, sorted, bound}
use Rattle.machine.specs.Machine.{Memory, in_slot, Machine, begin, read, write, steps}
use Rattle.machine.specs.Claim.{entry_dest, entry_value, Contents, Holding}
use Rattle.group_rules.specs.Groups.{labels, whole_conditions}

-- "say yes exactly when [..]"; 24, or the patch's own number
pub data Verdict : Type 0 where
  Yes No : Verdict
  Refused : ℕ → Verdict

unfoldable pub same_words : List ℕ → List ℕ → Bool
same_words [] [] = true
same_words [] (y ∷ m) = false
same_words (x ∷ l) [] = false
same_words (x ∷ l) (y ∷ m) = and (eqb x y) (same_words l m)

-- ---- one start that stands for all: every word that nothing ties to another is a number of its own
-- two kept moves whose values have the same content in every start
-- By their value, which has one content, or by their source, which holds one list. Without this a list that uses one copy for the other would get a
-- no (trials `equal-sources`, `tied-in-a-chain`).
abbrev pub tied : KeptMove → KeptMove → Bool
tied x y = or (same_place x.source y.source) (eqb x.value y.value)

-- of a value the label of its first kept move, or a number that no label is
unfoldable pub number_in : List ℕ → List KeptMove → ℕ → ℕ
number_in ls [] v = 128 + v
number_in [] (m ∷ l) v = 128 + v
number_in (x ∷ ls) (m ∷ l) v = pick (eqb m.value v) x (number_in ls l v)

abbrev pub number_of : List KeptMove → ℕ → ℕ
number_of ms v = number_in (labels tied ms) ms v

-- a list of unknown length has nine words, which fit no register, and no two are equal
-- A start may hold a list of any length there, and in one of them it fits no register: so no list of edits may rely on it (trial `any-length`).
abbrev pub unknown : ℕ → List ℕ
unknown c = (34304 + c) ∷ replicate 8 0

-- before the kept sources get their values: the words below 512 are those of the units
abbrev pub blank : Memory
blank = record { word = λ u. u; lists = unknown }

module _ (t : RegInfo) (f : Function) where
  -- ---- what is asked
  module _ (p : Patch) where
    abbrev pub is_dest_unit : ℕ → Bool
    is_dest_unit u = any_in (λ e. has u (units_of_reg t f (entry_dest e))) p.entries

    abbrev pub is_dest_slot : ℕ → Bool
    is_dest_slot x = any_in (λ e. same_place (slot x) (entry_dest e)) p.entries

    -- "ends with all destinations right and all other words outside free units and the slots from N on as they began, a register left waiting
    -- counted by its own words": of what the memory itself holds, a unit's word and, as an argument word's (02 b), its list
    -- Of the memory itself and not of what is seen at a stop: at the end nothing is brought back any more (trial `own-words`).
    pub record Ends (content : ℕ → List ℕ) (start m : Memory) : Type 0 where
      pub entries : (e : Entry) → Memᴰ e p.entries → read t f m (entry_dest e) ≡ content (entry_value e)
      pub units : (u : ℕ) → u < 512 → is_dest_unit u ≡ false → has u p.free ≡ false → (m.word u ≡ start.word u) × (m.lists u ≡ start.lists u)
      pub slots : (x : ℕ) → x < f.slots → is_dest_slot x ≡ false → in_slot m x ≡ in_slot start x

    -- "the machine can do every edit and ends [..]"
    abbrev pub DoneFrom : List Edit → (ℕ → List ℕ) → Memory → Type 0
    DoneFrom es content start = (s : Machine) × (steps t f content es (begin start) ≡ some s) × Ends content start s.memory

    -- "from every start in which each kept source holds its value, and for all contents of the values"
    abbrev pub Does : List Edit → Type 0
    Does es = (content : ℕ → List ℕ) → Contents t f content → (start : Memory) → Holding t f p content start → DoneFrom es content start

    -- contents and such a start from which it does not
    abbrev pub Fails : List Edit → Type 0
    Fails es = (content : ℕ → List ℕ) × Contents t f content × (start : Memory) × Holding t f p content start × (DoneFrom es content start → ⊥)

  -- ---- the start that stands for all
  -- how many words a value has
  -- that register is of the value's bank and not memory (7), and all such have one width (4)
  unfoldable pub width : ℕ → ℕ
  width v = length (reg_units t (last_in_order t (stack_to_stack_class t (value_bank f v))))

  module _ (ms : List KeptMove) where
    -- values tied to each other have the same words
    -- from 512 on, as the words below are the units' own; eight to a label, as no register has more units
    unfoldable pub generic_content : ℕ → List ℕ
    generic_content v = indices (512 + 8 * number_of ms v) (width v)

    -- each kept source holds its value
    unfoldable pub laid : List KeptMove → Memory
    laid [] = blank
    laid (m ∷ l) = write t f m.source (generic_content m.value) (laid l)

    abbrev pub generic_start : Memory
    generic_start = laid ms

    -- "With no such start the answer is yes": two values of different widths in one slot
    unfoldable pub no_start : Bool
    no_start = any_in (λ x. any_in (λ y. and (same_place x.source y.source) (no (eqb (width x.value) (width y.value)))) ms) ms

  -- ---- the answer
  -- whether it `Ends`
  unfoldable pub ends_right : Patch → (ℕ → List ℕ) → Memory → Memory → Bool
  ends_right p content start m =
      and (all_in (λ e. same_words (read t f m (entry_dest e)) (content (entry_value e))) p.entries)
      (and
      (all_in (λ u. or (is_dest_unit p u) (or (has u p.free) (and (eqb (m.word u) (start.word u)) (same_words (m.lists u) (start.lists u))))) (indices 0 512))
      (all_in (λ x. or (is_dest_slot p x) (same_words (in_slot m x) (in_slot start x))) (indices 0 f.slots)))

  abbrev pub judged : Patch → (ℕ → List ℕ) → Memory → Option Machine → Verdict
  judged p content start none = No
  judged p content start (some s) = pick (ends_right p content start s.memory) Yes No

  abbrev pub judged_from : Patch → List Edit → (ℕ → List ℕ) → Memory → Verdict
  judged_from p es content start = judged p content start (steps t f content es (begin start))

  -- not 24: "an edit naming a slot from N + L on (in a shared frame, N plus its limit), or another place or a value outside the target or
  -- function"; `most` is L, or the frame's limit
  unfoldable pub named : ℕ → Edit → Bool
  named most (Move to from v) = and (names (num_regs t) (f.slots + most) to) (and (names (num_regs t) (f.slots + most) from) (ltb v (num_values f)))
  named most (Rematerialize to v) = and (names (num_regs t) (f.slots + most) to) (ltb v (num_values f))
  named most (EmergencySpill x r) = and (ltb x (f.slots + most)) (ltb r (num_regs t))
  named most (EmergencyReload r x) = and (ltb x (f.slots + most)) (ltb r (num_regs t))

  -- "24 [..] tested before the yes or no", over the whole list
  -- 24 is over the whole list and first, so that the yes or no is about edits that there are, even where an earlier one cannot be done.
  unfoldable pub examine : Patch → ℕ → List Edit → Verdict
  examine p most es =
      pick (no (all_in (named most) es)) (Refused 24)
      (pick (no_start (sorted t f p).moves) Yes (judged_from p es (generic_content (sorted t f p).moves) (generic_start (sorted t f p).moves)))

  -- "Given an accepted patch": its conditions but 16 and 17, for neither a lent list nor a cache is given
  unfoldable pub patch_refusal : Patch → Option ℕ
  patch_refusal p = first_of (whole_conditions t f p (bound (sorted t f p)))
