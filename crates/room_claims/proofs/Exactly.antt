-- The number of a whole job at a room is given by the first of its conditions that holds.
use Prim.Native.Nat.{ℕ, zero, suc, ◌-◌}
use mathlib.Core.Path.{◌≡◌, sym, ◌∙◌}
use mathlib.Core.List.{List}
use Rattle.reginfo.specs.RegInfo.{RegInfo}
use Rattle.reginfo.specs.Refused as target
use Rattle.reginfo.specs.Refused.{Condition, first_of}
use Rattle.reginfo.proofs.First.{first-none, none_first, given-first, first-given}
use Rattle.function.specs.Function.{Function}
use Rattle.rules.specs.Scratch.{Cache, empty_cache}
use Rattle.rules.specs.Patch.{Patch, nothing_sorted}
use Rattle.rules.specs.Refusals.{entries_conditions}
use Rattle.parallel_moves.proofs.First.{first-append}
use Rattle.number.specs.Read.{got}
use Rattle.job_patch.specs.Patches.{patch}
use Rattle.job_rules.specs.Job.{Resolver, opening}
use Rattle.job_rules.specs.Conditions.{in_patch, Out, in_opening}
use Rattle.job_rules.proofs.WasRead.{patch-taken}
use Rattle.job_rules.proofs.Calls.{number_of, ExactCalls}
use Rattle.job_rules.proofs.Enough.{opens}
use Rattle.job_rules.proofs.Conditions.{answered, left-exactly, called, patch-exactly, opening-exactly}
use Rattle.answer.specs.Room.{words_taken, call_in, patches_in, conditions_in, job_in_by}
use Rattle.answer.proofs.Room.{Idle, in-exactly}
use Rattle.room_claims.specs.Conditions.{of_call_in, in_patches_in, job_conditions_in_by, JobRefusalsInBy}

module _ (by : Resolver) (out : Out) (t : RegInfo) (f : Function) (exact : ExactCalls by out t f) (idle : Idle out t f) where
  -- the entries of a patch that was read are refused no more
  call-exactly : (l : List ℕ) (p : Patch) (r : List ℕ) → patch t f l ≡ got p r → (left : ℕ) (c : Cache) → first_of (of_call_in out t f p left c) ≡ number_of (call_in by t f p left c)
  unfolding of_call_in conditions_in
  call-exactly l p r e left c =
      rw (first-append (entries_conditions t f p.entries nothing_sorted) (of_call_in out t f p left c), patch-taken t f l p r e) at (in-exactly by out t f exact idle p left c)

  patches-exactly : (n left : ℕ) (c : Cache) (l : List ℕ) → first_of (in_patches_in by out t f n left c l) ≡ (patches_in by t f n c left l).refusal
  unfolding patches_in in_patches_in
  patches-exactly zero left c l = left-exactly l
  patches-exactly (suc n) left c l =
      answered (patch t f l) (in_patch t f l) _ _ (patch-exactly t f l)
      (λ p r e. called (of_call_in out t f p left c) (call_in by t f p left c) _ _ (call-exactly l p r e left c)
      (λ c'. patches-exactly n (left - words_taken (call_in by t f p left c)) c' r))

-- whatever answers the calls, over every accepted target
module _ (by : Resolver) (out : Out) (exact : (t : RegInfo) (f : Function) → target.Accepted t → ExactCalls by out t f)
    (idle : (t : RegInfo) (f : Function) → target.Accepted t → Idle out t f) where
  job-exactly : (room kept : ℕ) (l : List ℕ) → first_of (job_conditions_in_by by out room kept l) ≡ (job_in_by by room kept l).refusal
  unfolding job_in_by job_conditions_in_by
  job-exactly room kept l =
      answered (opening kept l) (in_opening kept l) _ _ (opening-exactly kept l)
      (λ h r e. let ta = (opens kept l h r e).target-taken in
      patches-exactly by out h.target h.function (exact h.target h.function ta) (idle h.target h.function ta) h.patches room empty_cache r)

  -- for every room, every setting and every list of bytes
  pub refusals-by : (room kept : ℕ) (l : List ℕ) → JobRefusalsInBy by out room kept l
  refusals-by room kept l =
      let e = job-exactly room kept l in
      let cs : List Condition = job_conditions_in_by by out room kept l in
      record {
        given = λ n. (λ g. first-given cs n (e ∙ g), λ g. sym e ∙ given-first cs n g);
        taken = (λ g. first-none cs (e ∙ g), λ h. sym e ∙ none_first cs h);
      }
