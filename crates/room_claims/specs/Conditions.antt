-- Which number a whole job is refused with where so many words are lent for its answer: the conditions of `job_rules/specs/Conditions`, but that 16 is
-- asked of the words that the patches before left.
use Rattle.std.specs.Prelude.{ℕ, zero, suc, ◌+◌, ◌-◌, ◌≡◌, List, [], ◌∷◌, ◌++◌, ◌↔◌, ltb, length}
use Rattle.std.proofs.Math.Option.{none, some}
use Rattle.reginfo.specs.RegInfo.{RegInfo}
use Rattle.reginfo.specs.Refused.{Condition, refused_if}
use Rattle.reginfo.specs.Given.{Given, NoneHolds}
use Rattle.function.specs.Function.{Function}
use Rattle.rules.specs.Scratch.{Cache, empty_cache}
use Rattle.rules.specs.Patch.{Patch, sorted, bound, free_destination, last_overlaps}
use Rattle.job_patch.specs.Patches.{patch}
use Rattle.job_rules.specs.Job.{Resolver, opening}
use Rattle.job_rules.specs.Conditions.{after_got, after_resolved, in_patch, Out, in_opening}
use Rattle.answer.specs.Words.{OfTable}
use Rattle.answer.specs.Room.{words_taken, call_in, job_in_by}

-- "then 13, 14, 16, 17"; 16: "lent list shorter than the bound of demand 3", and the patch's head is a word too
unfoldable pub of_call_in : Out → RegInfo → Function → Patch → (left : ℕ) → Cache → List Condition
of_call_in out t f p left c =
    refused_if 13 (free_destination t f p (sorted t f p))
    ∷ refused_if 14 (last_overlaps t f (sorted t f p))
    ∷ refused_if 16 (ltb left (1 + bound (sorted t f p)))
    ∷ refused_if 17 (out t f p c)
    ∷ []

-- one patch after the other, "8 last"
unfoldable pub in_patches_in : Resolver → Out → RegInfo → Function → (n left : ℕ) → Cache → List ℕ → List Condition
in_patches_in by out t f zero left c l = refused_if 8 (ltb 0 (length l)) ∷ []
in_patches_in by out t f (suc n) left c l =
    in_patch t f l ++ after_got (patch t f l)
    (λ p r. of_call_in out t f p left c ++ after_resolved (call_in by t f p left c) (λ c'. in_patches_in by out t f n (left - words_taken (call_in by t f p left c)) c' r))

unfoldable pub job_conditions_in_by : Resolver → Out → (room kept : ℕ) → List ℕ → List Condition
job_conditions_in_by by out room kept l =
    in_opening kept l ++ after_got (opening kept l) (λ h r. in_patches_in by out h.target h.function h.patches room empty_cache r)

-- "Each is given when its condition holds and none earlier does, else not."
pub record JobRefusalsInBy (by : Resolver) (out : Out) (room kept : ℕ) (l : List ℕ) : Type 0 where
  pub given : (n : ℕ) → ((job_in_by by room kept l).refusal ≡ some n) ↔ Given (job_conditions_in_by by out room kept l) n
  pub taken : ((job_in_by by room kept l).refusal ≡ none) ↔ NoneHolds (job_conditions_in_by by out room kept l)

-- a job is refused by one of the table's numbers, whatever the room and the setting
abbrev pub NumberedInBy : Resolver → Type 0
NumberedInBy by = (room kept : ℕ) (l : List ℕ) (n : ℕ) → (job_in_by by room kept l).refusal ≡ some n → OfTable n
