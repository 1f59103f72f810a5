-- 02 m: a patch of a job's bytes, and a list of words examined for it. Patches before it are read and tested and not resolved, so that no list or
-- cache is wanted; 2 for a number that the job has no patch of.
use Rattle.std.specs.Prelude.{ℕ, zero, suc, List, ltb}
use Rattle.entity.specs.Logic.{pick}
use Rattle.reginfo.specs.RegInfo.{RegInfo}
use Rattle.function.specs.Function.{Function}
use Rattle.rules.specs.Patch.{Patch}
use Rattle.number.specs.Read.{Read, got, refused, then}
use Rattle.job_patch.specs.Patches.{patch, accepted}
use Rattle.job_rules.specs.Job.{Header, opening}
use Rattle.examine_rules.specs.Examine.{Verdict, Refused}
use Rattle.examine_rules.specs.Words.{examine_patch}

module _ (t : RegInfo) (f : Function) where
  -- the patch behind n others, each of which reading accepts
  unfoldable pub patch_at : ℕ → List ℕ → Read Patch
  patch_at zero l = patch t f l
  patch_at (suc n) l = then (accepted t f l) (λ p r. patch_at n r)

  abbrev pub examine_read : ℕ → List ℕ → Read Patch → Verdict
  examine_read most ws (refused k) = Refused k
  examine_read most ws (got p r) = examine_patch t f p most ws

  -- of `count` patches, the one with number n from 0
  unfoldable pub examine_at : (count n most : ℕ) → (ws l : List ℕ) → Verdict
  examine_at count n most ws l = pick (ltb n count) (examine_read most ws (patch_at n l)) (Refused 2)

abbrev pub examine_opened : (Function → ℕ) → ℕ → List ℕ → Read Header → Verdict
examine_opened most n ws (refused k) = Refused k
examine_opened most n ws (got h r) = examine_at h.target h.function h.patches n (most h.function) ws r

-- "an edit naming a slot from N + L on"
unfoldable pub examine_job : (n : ℕ) → (ws l : List ℕ) → Verdict
examine_job n ws l = examine_opened (λ f. f.limit) n ws (opening 1 l)

-- "(in a shared frame, N plus its limit)"; a limit over 2,048 is 2, tested first
unfoldable pub examine_job_in : (limit n : ℕ) → (ws l : List ℕ) → Verdict
examine_job_in limit n ws l = pick (ltb 2048 limit) (Refused 2) (examine_opened (λ f. limit) n ws (opening 1 l))
