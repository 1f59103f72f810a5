-- Jobs of numbers, written: 01's job swap-full and jobs made of it, and one of two banks.
use Rattle.std.specs.Prelude.{ℕ, ◌≡◌, List, [], ◌∷◌, ◌++◌}
use Rattle.std.proofs.Math.Option.{some}
use Rattle.function.specs.Function.{Function}
use Rattle.rules.specs.Patch.{Patch}
use Rattle.rules.specs.Trials.{fixed}
use Rattle.rules.specs.ChangeTrials.{doubled, whole, half}
use Rattle.number.specs.Read.{got}
use Rattle.job_target.specs.Trials.{swap_given}
use Rattle.job_target.specs.Trials as targets
use Rattle.job_rules.specs.Job.{job}
use Rattle.job_rules.specs.Trials.{job_with, swap_entries, swap_full, target_with, all_of}
use Rattle.job_numbers.specs.Numbers.{target_numbers, function_numbers, patches_numbers, bytes_of, read_job, wrote, not_written, written}

-- r0 to r1 of value 0, and r2 to r1 of value 1
abbrev pub two_to_one : List ℕ
two_to_one = 0 ∷ 2 ∷ 0 ∷ 1 ∷ 3 ∷ 0 ∷ 0 ∷ 5 ∷ 3 ∷ 1 ∷ []

-- swap-full with L = 0, and with a second patch
abbrev pub no_slot : List ℕ
no_slot = job_with 0 (0 ∷ swap_entries)

abbrev pub no_slot_then12 : List ℕ
no_slot_then12 = swap_given ++ (2 ∷ 0 ∷ 0 ∷ 0 ∷ 0 ∷ 0 ∷ 0 ∷ 2 ∷ 0 ∷ (swap_entries ++ two_to_one))

-- r0 to r1 of value 0 twice
abbrev pub twice_the_same : List ℕ
twice_the_same = job_with 1 (0 ∷ 2 ∷ 0 ∷ 1 ∷ 3 ∷ 0 ∷ 0 ∷ 1 ∷ 3 ∷ 0 ∷ [])

-- N = 300, r0 to s200
abbrev pub far_slot : List ℕ → List ℕ → List ℕ
far_slot slots place = swap_given ++ (2 ∷ (slots ++ (1 ∷ 0 ∷ 0 ∷ 0 ∷ 0 ∷ 1 ∷ 0 ∷ 1 ∷ 0 ∷ 1 ∷ (place ++ (0 ∷ [])))))

-- a value that is not rebuilt, where the table has a class all the same
abbrev pub with_class : ℕ → Function
with_class class = record { values = record { bank = 0; cost = 0; class = class } ∷ []; slots = 0; limit = 1; kept = 1 }

abbrev pub nothing_moved : Patch
nothing_moved = record { free = []; entries = [] }

-- unit 4 free, r6 to r7 of v2, r0 to r4 of v0
abbrev pub half_of_asource : List ℕ
half_of_asource =
    target_numbers doubled
    ++ (function_numbers (record { values = fixed 0 ∷ fixed 0 ∷ fixed 1 ∷ []; slots = 0; limit = 0; kept = 1 })
    ++ patches_numbers (record { free = 4 ∷ []; entries = whole ∷ half ∷ [] } ∷ []))

pub record Trials : Type 0 where
  pub just-room : written swap_full 57 ≡ wrote swap_full
  pub one-byte-short : written swap_full 56 ≡ not_written 18
  -- 01's order
  pub swap-target : target_numbers targets.swap_full ≡ swap_given
  -- 3 as it is read, where the target's tests would give 2 for the class's bank
  pub as_read : written (target_with (0 ∷ 0 ∷ 2 ∷ 0 ∷ 0 ∷ []) (9 ∷ 1 ∷ 3 ∷ 0 ∷ 1 ∷ 2 ∷ 3 ∷ 0 ∷ 1 ∷ 2 ∷ []) (all_of 0)) 100 ≡ not_written 3
  -- 17 is resolving's: written where no patch is refused by reading, and 12 behind it is given
  pub resolving-has-17 : (job 1 no_slot).refusal ≡ some 17
  pub no-slot : written no_slot 57 ≡ wrote no_slot
  pub resolving-stops : (job 1 no_slot_then12).refusal ≡ some 17
  pub reading-goes-on : written no_slot_then12 100 ≡ not_written 12
  -- a patch's own tests that reading has
  pub free-destination : written (job_with 1 (1 ∷ 0 ∷ swap_entries)) 100 ≡ not_written 13
  -- a dropped move is part of the job
  pub dropped-too : written twice_the_same 100 ≡ wrote twice_the_same
  pub two_bytes : written (far_slot (300 ∷ []) (400 ∷ [])) 100 ≡ wrote (far_slot (172 ∷ 2 ∷ []) (144 ∷ 3 ∷ []))
  -- before the lent bytes are looked at
  pub ends-early : written (job_with 1 (0 ∷ 2 ∷ 0 ∷ 1 ∷ 3 ∷ 0 ∷ 0 ∷ 3 ∷ 1 ∷ [])) 0 ≡ not_written 1
  pub goes_on : written (swap_full ++ (0 ∷ [])) 0 ≡ not_written 8
  pub half-of-a-source : written half_of_asource 200 ≡ not_written 21
  -- no class is written, and none is read back
  pub no-class : function_numbers (with_class 7) ≡ function_numbers (with_class 0)
  pub class-0 :
      read_job (bytes_of (target_numbers targets.swap_full ++ (function_numbers (with_class 7) ++ patches_numbers (nothing_moved ∷ []))))
      ≡ got (record { target = targets.swap_full; function = with_class 0; patches = nothing_moved ∷ [] }) []
