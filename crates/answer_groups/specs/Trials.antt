-- A job by groups, by computation: twice 02 k's trial `spared`, four registers, N = 0, L = 1, unit 2 free: r0 r1 0; r1 r0 1; r2 r3 2.
use Rattle.std.specs.Prelude.{ℕ, ◌≡◌, List, [], ◌∷◌, ◌++◌, map, length}
use Rattle.std.proofs.Math.Option.{none, some}
use Rattle.entity.specs.Place.{reg, slot}
use Rattle.rules.specs.Edit.{Edit, Move}
use Rattle.job_rules.specs.Job.{Done}
use Rattle.answer_groups.specs.Job.{job_by_groups, job_by_groups_in}

-- a class of all registers, with slots or without
abbrev pub all_of : ℕ → List ℕ
all_of slots = 0 ∷ slots ∷ 4 ∷ 0 ∷ 1 ∷ 2 ∷ 3 ∷ 4 ∷ 0 ∷ 1 ∷ 2 ∷ 3 ∷ []

abbrev pub opening : ℕ → List ℕ
opening limit =
    (4 ∷ 1 ∷ 3 ∷ 0 ∷ 1 ∷ 4 ∷ 0 ∷ 0 ∷ 1 ∷ 0 ∷ 0 ∷ 0 ∷ 1 ∷ 1 ∷ 0 ∷ 0 ∷ 1 ∷ 2 ∷ 0 ∷ 0 ∷ 1 ∷ 3 ∷ 2 ∷ [])
    ++ (all_of 1 ++ (all_of 0 ++ (4 ∷ 0 ∷ limit ∷ 0 ∷ 0 ∷ 0 ∷ 0 ∷ 0 ∷ 0 ∷ 0 ∷ 0 ∷ [])))

abbrev pub spared : List ℕ
spared = 1 ∷ 2 ∷ 3 ∷ 0 ∷ 1 ∷ 3 ∷ 0 ∷ 0 ∷ 3 ∷ 1 ∷ 1 ∷ 0 ∷ 5 ∷ 7 ∷ 2 ∷ []

abbrev pub twice : ℕ → List ℕ
twice limit = opening limit ++ (2 ∷ (spared ++ spared))

-- unit 2 is the other group's source, so the two registers change their contents through a slot
abbrev pub spared_edits : List Edit
spared_edits = Move (slot 0) (reg 1) 1 ∷ Move (reg 1) (reg 0) 0 ∷ Move (reg 0) (slot 0) 1 ∷ Move (reg 3) (reg 2) 2 ∷ []

pub record Trials : Type 0 where
  pub edits : map (λ (d : Done). d.edits) (job_by_groups 1 (twice 1)).done ≡ spared_edits ∷ spared_edits ∷ []
  -- the second has the slot that the first made
  pub made : map (λ (d : Done). d.made) (job_by_groups 1 (twice 1)).done ≡ 1 ∷ 1 ∷ []
  pub accepted : (job_by_groups 1 (twice 1)).refusal ≡ none
  pub left_over : (job_by_groups 1 (twice 1 ++ (0 ∷ []))).refusal ≡ some 8
  pub no-slot : (job_by_groups 1 (twice 0)).refusal ≡ some 17
  -- a head and three moves' bound of 24 are 25 words, a head and four edits five
  pub first_alone : length (job_by_groups_in 29 1 (twice 1)).done ≡ 1
  pub too_few : (job_by_groups_in 29 1 (twice 1)).refusal ≡ some 16
  pub enough : (job_by_groups_in 30 1 (twice 1)).refusal ≡ none
