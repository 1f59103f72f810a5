-- Rooms that tell, by computation: swap-full twice; two moves' bound is 16 edits, so a patch asks for 17 words, and its head and three edits take four.
use Rattle.std.specs.Prelude.{ℕ, ◌≡◌, List, [], ◌∷◌, ◌++◌, length}
use Rattle.std.proofs.Math.Option.{none, some}
use Rattle.job_target.specs.Trials.{swap_given}
use Rattle.job_rules.specs.Trials.{swap_entries}
use Rattle.answer.specs.Room.{job_in}

abbrev pub swap_twice : (limit : ℕ) → List ℕ
swap_twice limit = swap_given ++ (2 ∷ 0 ∷ limit ∷ 0 ∷ 0 ∷ 0 ∷ 0 ∷ 2 ∷ 0 ∷ (swap_entries ++ (0 ∷ swap_entries)))

pub record Trials : Type 0 where
  -- the head is a word too
  pub no_room : (job_in 16 1 (swap_twice 1)).refusal ≡ some 16
  pub first_alone : length (job_in 20 1 (swap_twice 1)).done ≡ 1
  -- what the first patch took is gone
  pub too_few : (job_in 20 1 (swap_twice 1)).refusal ≡ some 16
  pub enough : (job_in 21 1 (swap_twice 1)).refusal ≡ none
  -- 16 before 17
  pub short-and-out : (job_in 16 1 (swap_twice 0)).refusal ≡ some 16
  pub out : (job_in 17 1 (swap_twice 0)).refusal ≡ some 17
  -- what is refused as it is read, whatever the room
  pub left_over : (job_in 21 1 (swap_twice 1 ++ (0 ∷ []))).refusal ≡ some 8
