-- Jobs of bytes, by computation: 01's job swap-full and what it is answered with, and jobs that are refused; with one kept eviction, unless another
-- setting is given.
use Rattle.std.specs.Prelude.{ℕ, zero, suc, ◌≡◌, true, false, List, [], ◌∷◌, ◌++◌, map}
use Rattle.std.proofs.Math.Option.{none, some}
use Rattle.entity.specs.Place.{reg, slot}
use Rattle.reginfo.specs.Refused.{Condition, refused_if}
use Rattle.rules.specs.Edit.{Move, EmergencySpill}
use Rattle.rules.specs.ChangeTrials.{r0_edits, r1_edits}
use Rattle.job_target.specs.Trials.{swap_given}
use Rattle.job_rules.specs.Job.{ends_with, before, job}
use Rattle.price.specs.Trials.{prices}
use Rattle.job_rules.specs.Conditions.{job_conditions}
use Rattle.job_rules.specs.Priced.{job_priced}

-- behind swap-full's target: "2 0 1 0 0 0 0 1 0 2 0 1 3 0 0 3 1 1", with another L, free units and entries
abbrev pub job_with : ℕ → List ℕ → List ℕ
job_with limit patch = swap_given ++ (2 ∷ 0 ∷ limit ∷ 0 ∷ 0 ∷ 0 ∷ 0 ∷ 1 ∷ patch)

abbrev pub swap_entries : List ℕ
swap_entries = 2 ∷ 0 ∷ 1 ∷ 3 ∷ 0 ∷ 0 ∷ 3 ∷ 1 ∷ 1 ∷ []

abbrev pub swap_full : List ℕ
swap_full = job_with 1 (0 ∷ swap_entries)

abbrev pub numbers : List ℕ → List ℕ
numbers l = map (λ (c : Condition). c.number) (job_conditions 1 l)

-- the numbers of the conditions of a register, a class and an entry of swap-full
abbrev pub a_reg : List ℕ
a_reg = 1 ∷ 2 ∷ 1 ∷ 2 ∷ 1 ∷ 2 ∷ 1 ∷ 2 ∷ 3 ∷ []

abbrev pub a_class : List ℕ
a_class = 1 ∷ 2 ∷ 1 ∷ 2 ∷ 1 ∷ 1 ∷ 2 ∷ 3 ∷ 1 ∷ 2 ∷ 3 ∷ 1 ∷ 2 ∷ 3 ∷ 1 ∷ 2 ∷ 1 ∷ 2 ∷ 3 ∷ 1 ∷ 2 ∷ 3 ∷ 1 ∷ 2 ∷ 3 ∷ []

abbrev pub an_entry : List ℕ
an_entry = 15 ∷ 1 ∷ 2 ∷ 1 ∷ 2 ∷ 1 ∷ 2 ∷ 1 ∷ 2 ∷ 9 ∷ 10 ∷ 12 ∷ 21 ∷ []

-- n moves of value 0 from r0 to r1
unfoldable pub same_moves : ℕ → List ℕ
same_moves zero = []
same_moves (suc n) = 0 ∷ 1 ∷ 3 ∷ 0 ∷ same_moves n

-- the bytes of swap-full's target with another register 0 and other classes
abbrev pub target_with : List ℕ → List ℕ → List ℕ → List ℕ
target_with r top stack = 3 ∷ 1 ∷ 3 ∷ 0 ∷ 1 ∷ 3 ∷ (r ++ (0 ∷ 0 ∷ 1 ∷ 1 ∷ 0 ∷ 0 ∷ 1 ∷ 2 ∷ 2 ∷ (top ++ stack)))

abbrev pub r0 : List ℕ
r0 = 0 ∷ 0 ∷ 1 ∷ 0 ∷ []

-- a class of all registers, with slots or without
abbrev pub all_of : ℕ → List ℕ
all_of slots = 0 ∷ slots ∷ 3 ∷ 0 ∷ 1 ∷ 2 ∷ 3 ∷ 0 ∷ 1 ∷ 2 ∷ []

-- a target of r0 of two units and another register, with the classes that they need
abbrev pub beside_apair : ℕ → List ℕ → List ℕ
beside_apair units r = units ∷ 1 ∷ 3 ∷ 0 ∷ 1 ∷ 2 ∷ 0 ∷ 0 ∷ 2 ∷ 0 ∷ 1 ∷ (r ++ (2 ∷ 0 ∷ 1 ∷ 2 ∷ 0 ∷ 1 ∷ 1 ∷ 0 ∷ 0 ∷ 0 ∷ 1 ∷ 0 ∷ 1 ∷ 0 ∷ []))

-- two banks of one register each, with the classes that they need; then the rest of the job
abbrev pub two_banks : List ℕ → List ℕ
two_banks more =
    2 ∷ 2 ∷ 3 ∷ 0 ∷ 1 ∷ 3 ∷ 2 ∷ 3 ∷ 2 ∷ 0 ∷ 0 ∷ 1 ∷ 0 ∷ 0 ∷ 1 ∷ 1 ∷ 1
    ∷ 4 ∷ 0 ∷ 1 ∷ 1 ∷ 0 ∷ 1 ∷ 0 ∷ 0 ∷ 0 ∷ 1 ∷ 0 ∷ 1 ∷ 0 ∷ 1 ∷ 1 ∷ 1 ∷ 1 ∷ 1 ∷ 1 ∷ 1 ∷ 0 ∷ 1 ∷ 1 ∷ 1 ∷ 1 ∷ more

-- with a function of one value
abbrev pub with_one_value : List ℕ → List ℕ
with_one_value more = two_banks (1 ∷ 0 ∷ 1 ∷ more)

-- a value of each bank, slot 0 to slot 1 and slot 2 to slot 3, with another L
abbrev pub slots_moved : ℕ → List ℕ
slots_moved limit = two_banks (2 ∷ 4 ∷ limit ∷ 0 ∷ 0 ∷ 1 ∷ 0 ∷ 1 ∷ 0 ∷ 2 ∷ 0 ∷ 0 ∷ 2 ∷ 0 ∷ 0 ∷ 4 ∷ 6 ∷ 1 ∷ [])

pub record Trials : Type 0 where
  -- "M s0 r1 1", "M r1 r0 0", "M r0 s0 1"; made 1; nothing of the order of three would do
  pub swap-full :
      job 1 swap_full
      ≡ before (record { edits = Move (slot 0) (reg 1) 1 ∷ Move (reg 1) (reg 0) 0 ∷ Move (reg 0) (slot 0) 1 ∷ []; made = 1; position = 3 }) (ends_with none)
  -- the setting, the length, units, banks, a bank, registers, classes; 4 to 7; values, N, L, two values; the patch count; free units, entries; the call; 8
  pub in_order :
      numbers swap_full
      ≡ 22 ∷ 2 ∷ 1 ∷ 2 ∷ 1 ∷ 2 ∷ 1 ∷ 2 ∷ 1 ∷ 1 ∷ 1 ∷ 2 ∷ (a_reg ++ (a_reg ++ (a_reg ++ (1 ∷ 2 ∷ (a_class ++ (a_class ++ (4 ∷ 5 ∷ 6 ∷ 7
      ∷ 1 ∷ 2 ∷ 1 ∷ 2 ∷ 1 ∷ 2 ∷ 1 ∷ 2 ∷ 1 ∷ 2 ∷ 1 ∷ 2 ∷ 1 ∷ 2 ∷ 1 ∷ 2 ∷ 1 ∷ 1 ∷ (an_entry ++ (an_entry ++ (13 ∷ 14 ∷ 16 ∷ 17 ∷ 8 ∷ []))))))))))
  pub no_byte : job_conditions 1 [] ≡ refused_if 22 false ∷ refused_if 2 false ∷ refused_if 1 true ∷ []
  -- 02 i: another setting is refused before the job, whatever its bytes and however many
  pub none_kept : (l : List ℕ) → job 0 l ≡ ends_with (some 22)
  pub three-kept : (l : List ℕ) → job 3 l ≡ ends_with (some 22)
  -- with one kept, r0 is brought back before r1 is evicted, and its slot taken again; with two, both wait, and the second has a slot of its own
  pub one_kept :
      job 1 (slots_moved 2)
      ≡ before (record { edits = EmergencySpill 4 1 ∷ r1_edits 4 (EmergencySpill 4 0 ∷ r0_edits 4); made = 1; position = 1 }) (ends_with none)
  pub two-kept :
      job 2 (slots_moved 2)
      ≡ before (record { edits = EmergencySpill 5 1 ∷ EmergencySpill 4 0 ∷ r1_edits 5 (r0_edits 4); made = 2; position = 1 }) (ends_with none)
  pub no-second-slot : job 2 (slots_moved 1) ≡ ends_with (some 17)
  -- nothing is evicted
  pub same-with-two : job 2 swap_full ≡ job 1 swap_full
  -- the target's rules come before the function's first number, and rise
  pub target-alone : (job 1 (target_with r0 (all_of 1) (all_of 0))).refusal ≡ some 1
  pub unequal : (job 1 (target_with (0 ∷ 0 ∷ 2 ∷ 0 ∷ 1 ∷ []) (all_of 0) (all_of 0))).refusal ≡ some 4
  -- 02 b: a memory register of one unit is taken, so that the function's first number is missing; one of two units is not
  pub argument-word : (job 1 (beside_apair 3 (1 ∷ 0 ∷ 1 ∷ 2 ∷ []))).refusal ≡ some 1
  pub wide-memory : (job 1 (beside_apair 4 (1 ∷ 0 ∷ 2 ∷ 2 ∷ 3 ∷ []))).refusal ≡ some 4
  pub no_member : (job 1 (target_with r0 (all_of 0) (0 ∷ 0 ∷ 2 ∷ 0 ∷ 1 ∷ 3 ∷ 0 ∷ 1 ∷ 2 ∷ []))).refusal ≡ some 5
  pub memory-shared : (job 1 (target_with (1 ∷ 0 ∷ 1 ∷ 1 ∷ []) (all_of 0) (all_of 0))).refusal ≡ some 6
  pub top-without-slots : (job 1 (target_with r0 (all_of 0) (all_of 0))).refusal ≡ some 7
  -- a rebuild class of the other bank comes before the patch count; a place of it, with its entry
  pub foreign-class : (job 1 (with_one_value (0 ∷ 1 ∷ 2 ∷ []))).refusal ≡ some 9
  pub foreign-place : (job 1 (with_one_value (0 ∷ 0 ∷ 1 ∷ 0 ∷ 1 ∷ 0 ∷ 3 ∷ 3 ∷ 0 ∷ []))).refusal ≡ some 9
  pub one-byte-over : (job 1 (swap_full ++ (0 ∷ []))).refusal ≡ some 8
  -- the patch's number comes before a byte left over
  pub no-slot : (job 1 (job_with 0 (0 ∷ swap_entries) ++ (0 ∷ []))).refusal ≡ some 17
  pub free-destination : (job 1 (job_with 1 (1 ∷ 0 ∷ swap_entries))).refusal ≡ some 13
  -- two registers of one unit; the value is rebuilt by a class of the first alone, into the second
  pub last-overlaps :
      (job 1 (1 ∷ 1 ∷ 3 ∷ 0 ∷ 1 ∷ 2 ∷ 0 ∷ 0 ∷ 1 ∷ 0 ∷ 0 ∷ 0 ∷ 1 ∷ 0 ∷ 2 ∷ 0 ∷ 1 ∷ 2 ∷ 0 ∷ 1 ∷ 2 ∷ 0 ∷ 1 ∷ 0 ∷ 0 ∷ 1 ∷ 0 ∷ 1 ∷ 0
      ∷ 1 ∷ 0 ∷ 1 ∷ 0 ∷ 2 ∷ 1 ∷ 1 ∷ 0 ∷ 1 ∷ 1 ∷ 3 ∷ 0 ∷ [])).refusal
      ≡ some 14
  -- an entry's number comes before its call's
  pub self-move : (job 1 (job_with 1 (1 ∷ 1 ∷ 2 ∷ 0 ∷ 1 ∷ 3 ∷ 0 ∷ 0 ∷ 3 ∷ 3 ∷ 0 ∷ []))).refusal ≡ some 10
  pub not-rebuildable : (job 1 (job_with 1 (0 ∷ 1 ∷ 1 ∷ 3 ∷ 0 ∷ []))).refusal ≡ some 11
  pub same-destination : (job 1 (job_with 1 (0 ∷ 2 ∷ 0 ∷ 1 ∷ 3 ∷ 0 ∷ 0 ∷ 5 ∷ 3 ∷ 1 ∷ []))).refusal ≡ some 12
  -- 02 h: units 0 and 1 are r0 and r1, and the pair r3 has both
  pub overlapping-sources :
      (job 1 (4 ∷ 2 ∷ 2 ∷ 0 ∷ 1 ∷ 3 ∷ 2 ∷ 3 ∷ 5 ∷ 0 ∷ 0 ∷ 1 ∷ 0 ∷ 0 ∷ 0 ∷ 1 ∷ 1 ∷ 0 ∷ 0 ∷ 1 ∷ 2 ∷ 0 ∷ 1 ∷ 2 ∷ 0 ∷ 1 ∷ 0 ∷ 1 ∷ 2 ∷ 2 ∷ 3 ∷ 4 ∷ 0 ∷ 1 ∷ 3 ∷ 0 ∷ 1 ∷ 2 ∷ 3 ∷ 0 ∷ 1 ∷ 2 ∷ 0 ∷ 0 ∷ 3
      ∷ 0 ∷ 1 ∷ 2 ∷ 3 ∷ 0 ∷ 1 ∷ 2 ∷ 1 ∷ 1 ∷ 2 ∷ 3 ∷ 4 ∷ 2 ∷ 3 ∷ 4 ∷ 1 ∷ 0 ∷ 2 ∷ 3 ∷ 4 ∷ 2 ∷ 3 ∷ 4 ∷ 2 ∷ 0 ∷ 1 ∷ 0 ∷ 0 ∷ 1 ∷ 0 ∷ 1 ∷ 0 ∷ 2 ∷ 0 ∷ 7 ∷ 9 ∷ 1 ∷ 0 ∷ 1 ∷ 3 ∷ 0 ∷ [])).refusal
      ≡ some 21
  pub slot-from-N : (job 1 (job_with 1 (0 ∷ 1 ∷ 0 ∷ 0 ∷ 1 ∷ 0 ∷ []))).refusal ≡ some 2
  pub not-rising : (job 1 (job_with 1 (2 ∷ 2 ∷ 2 ∷ swap_entries))).refusal ≡ some 3
  -- "that same move 128 times taken, a 129th 15": also where its bytes are not there
  pub entries-128 : (job 1 (job_with 1 (0 ∷ 128 ∷ 1 ∷ same_moves 128))).refusal ≡ none
  pub entries-129 : (job 1 (job_with 1 (0 ∷ 129 ∷ 1 ∷ same_moves 128))).refusal ≡ some 15

-- 02 e: 19 after 7 and before the function's first number, on the bytes of a target alone
pub record PricedTrials : Type 0 where
  pub rule-first : (job_priced (prices 4 65536 16 12) 1 (target_with r0 (all_of 0) (all_of 0))).refusal ≡ some 7
  pub price-then : (job_priced (prices 4 65536 16 12) 1 (target_with r0 (all_of 1) (all_of 0))).refusal ≡ some 19
  pub in-range : (job_priced (prices 65535 65535 65535 65535) 1 (target_with r0 (all_of 1) (all_of 0))).refusal ≡ some 1
