-- Every condition of a whole job at a room has one of the table's numbers, so its refusal has.
use Prim.Native.Nat.{ℕ, zero, suc, ◌-◌}
use mathlib.Core.Path.{refl, subst}
use mathlib.Core.List.{List}
use Rattle.reginfo.specs.RegInfo.{RegInfo}
use Rattle.function.specs.Function.{Function}
use Rattle.rules.specs.Scratch.{Cache, empty_cache}
use Rattle.rules.specs.Patch.{Patch}
use Rattle.job_patch.specs.Patches.{patch}
use Rattle.job_rules.specs.Job.{Resolver, opening}
use Rattle.job_rules.specs.Conditions.{in_patch, Out, in_opening}
use Rattle.answer.specs.Words.{OfTable}
use Rattle.answer.specs.Room.{words_taken, call_in}
use Rattle.answer.proofs.Numbers.{Numbers, both, part, after-resolved, in-patch, in_opening_lem, at}
use Rattle.room_claims.specs.Conditions.{of_call_in, in_patches_in, job_conditions_in_by, JobRefusalsInBy, NumberedInBy}

module _ (by : Resolver) (out : Out) where
  of-call : (t : RegInfo) (f : Function) (p : Patch) (left : ℕ) (c : Cache) → Numbers (of_call_in out t f p left c)
  unfolding of_call_in
  of-call t f p left c = (refl, (refl, (refl, (refl, tt))))

  in-patches : (t : RegInfo) (f : Function) (n left : ℕ) (c : Cache) (l : List ℕ) → Numbers (in_patches_in by out t f n left c l)
  unfolding in_patches_in
  in-patches t f zero left c l = (refl, tt)
  in-patches t f (suc n) left c l =
      part (in_patch t f l) (patch t f l) _ (in-patch t f l)
      (λ p r. both (of_call_in out t f p left c) _ (of-call t f p left c)
      (after-resolved (call_in by t f p left c) _ (λ c'. in-patches t f n (left - words_taken (call_in by t f p left c)) c' r)))

  in-job : (room kept : ℕ) (l : List ℕ) → Numbers (job_conditions_in_by by out room kept l)
  unfolding job_conditions_in_by
  in-job room kept l =
      part (in_opening kept l) (opening kept l) _ (in_opening_lem kept l) (λ h r. in-patches h.target h.function h.patches room empty_cache r)

  pub numbered-by : ((room kept : ℕ) (l : List ℕ) → JobRefusalsInBy by out room kept l) → NumberedInBy by
  numbered-by refusals room kept l n e =
      let g = ((refusals room kept l).given n).0 e in
      subst OfTable g.number (at (job_conditions_in_by by out room kept l) g.at (in-job room kept l) g.is)
