-- 02 l, the job of a formula that shares a frame: "All have the first one's N (else 2, when that N is read)". Its N is from `least` to `most`: any
-- for the first, the first one's for the others.
use Rattle.std.specs.Prelude.{ℕ, ◌≤◌, ◌≡◌, Bool, true, List, ◌↔◌}
use Rattle.reginfo.specs.RegInfo.{RegInfo}
use Rattle.reginfo.specs.Refused.{target_refusal}
use Rattle.number.specs.Read.{Read, got, then}
use Rattle.reading.specs.Reading.{between}
use Rattle.job_target.specs.Target.{target}
use Rattle.job_function.specs.Reads.{function_within}
use Rattle.job_patch.specs.Patches.{unless_given}
use Rattle.job_rules.specs.Job.{Opened, Header, unless_early, opening}
use Rattle.job_rules.specs.Priced.{unless_outside}

unfoldable pub with_function_within : (least most : ℕ) → RegInfo → (kept : ℕ) → List ℕ → Read Opened
with_function_within least most t kept l = then (function_within least most t kept l) (λ f q. got (record { target = t; function = f }) q)

-- `beginning` and `opening` so, with 02 e's test where prices are given
unfoldable pub beginning_within : Bool → (least most kept : ℕ) → List ℕ → Read Opened
beginning_within ok least most kept l =
    unless_early kept l (then (target l) (λ t r. unless_given (target_refusal t) (unless_outside ok (with_function_within least most t kept r))))

-- the patch count behind them
abbrev pub counted : Opened → List ℕ → Read Header
counted x q = then (between 1 1024 q) (λ n p. got (record { target = x.target; function = x.function; patches = n }) p)

unfoldable pub opening_within : Bool → (least most kept : ℕ) → List ℕ → Read Header
opening_within ok least most kept l = then (beginning_within ok least most kept l) (λ x q. counted x q)

-- a job opens so exactly where it opens alone and has such an N
abbrev pub OpensWithin : Type 0
OpensWithin =
    (least most : ℕ) → most ≤ 4096 → (kept : ℕ) (l : List ℕ) (h : Header) (r : List ℕ)
    → (opening_within true least most kept l ≡ got h r) ↔ ((opening kept l ≡ got h r) × (least ≤ h.function.slots) × (h.function.slots ≤ most))
