-- 02 e: "New numbers: 19, a price outside its range, tested after 7": of a target whose prices are given beside the job. Where none are given,
-- nothing is tested.
use Rattle.std.specs.Prelude.{ℕ, ◌^◌, ◌<◌, ◌≤◌, ◌≡◌, Bool, true, List, ◌∷◌, ◌++◌, ◌↔◌, ltb, leb, length}
use Rattle.std.proofs.Math.Option.{none, some}
use Rattle.entity.specs.Logic.{pick, and, no}
use Rattle.reginfo.specs.RegInfo.{RegInfo}
use Rattle.reginfo.specs.Refused.{Condition, refused_if, target_refusal}
use Rattle.reginfo.specs.Refused as target
use Rattle.reginfo.specs.Given.{Given, NoneHolds}
use Rattle.function.specs.Function.{Function, is_setting}
use Rattle.function.specs.Refused as function
use Rattle.rules.specs.Edit.{Edit}
use Rattle.rules.specs.Scratch.{Cache, empty_cache}
use Rattle.rules.specs.Patch.{Patch, resolve}
use Rattle.rules.specs.Patch as rules
use Rattle.price.specs.declared.Prices.{Prices}
use Rattle.price.specs.Price.{in_range, price_of}
use Rattle.price.specs.Totals.{from_first}
use Rattle.number.specs.Read.{Read, refused, then}
use Rattle.job_target.specs.Target as given
use Rattle.job_function.specs.Reads as reads
use Rattle.job_patch.specs.Patches.{unless_given}
use Rattle.job_rules.specs.Job.{Opened, Header, Answers, unless_early, after_target, with_function, after_read, opening, patches, job}
use Rattle.job_rules.specs.Conditions.{after_got, in_tested, in_target, of_target, in_function, in_patches}

-- 19, unless the prices pass
abbrev pub unless_outside : {A : Type 0} → Bool → Read A → Read A
unless_outside ok x = pick ok x (refused 19)

-- `beginning` and `opening`, with that test behind the target's rules
unfoldable pub beginning_if : Bool → (kept : ℕ) → List ℕ → Read Opened
beginning_if ok kept l = unless_early kept l (then (given.target l) (λ t r. unless_given (target_refusal t) (unless_outside ok (with_function t kept r))))

unfoldable pub opening_if : Bool → (kept : ℕ) → List ℕ → Read Header
opening_if ok kept l = unless_early kept l (then (given.target l) (λ t r. unless_given (target_refusal t) (unless_outside ok (after_target t kept r))))

abbrev pub beginning_priced : Prices → (kept : ℕ) → List ℕ → Read Opened
beginning_priced p kept l = beginning_if (in_range p) kept l

abbrev pub opening_priced : Prices → (kept : ℕ) → List ℕ → Read Header
opening_priced p kept l = opening_if (in_range p) kept l

unfoldable pub job_priced : Prices → (kept : ℕ) → List ℕ → Answers
job_priced p kept l = after_read (opening_priced p kept l) (λ h r. patches h.target h.function h.patches empty_cache r)

-- ---- its conditions: 4 to 7, then 19, then the function's
unfoldable pub in_opening_priced : Prices → (kept : ℕ) → List ℕ → List Condition
in_opening_priced p kept l =
    refused_if 22 (no (is_setting kept))
    ∷ refused_if 2 (ltb 65536 (length l))
    ∷ (in_target l ++ after_got (given.target l)
    (λ t r. of_target t ++ (refused_if 19 (no (in_range p)) ∷ (in_function t r ++ after_got (reads.function t kept r)
    (λ f q. in_tested (λ x. and (leb 1 x) (leb x 1024)) q)))))

unfoldable pub conditions_priced : Prices → (kept : ℕ) → List ℕ → List Condition
conditions_priced p kept l = in_opening_priced p kept l ++ after_got (opening_priced p kept l) (λ h r. in_patches h.target h.function h.patches empty_cache r)

-- "Each is given when its condition holds and none earlier does, else not."
pub record RefusalsPriced (p : Prices) (kept : ℕ) (l : List ℕ) : Type 0 where
  pub given : (n : ℕ) → ((job_priced p kept l).refusal ≡ some n) ↔ Given (conditions_priced p kept l) n
  pub taken : ((job_priced p kept l).refusal ≡ none) ↔ NoneHolds (conditions_priced p kept l)

-- with prices in their range a job is opened and answered as without
abbrev pub AsUnpriced : Type 0
AsUnpriced = (p : Prices) → in_range p ≡ true → (kept : ℕ) (l : List ℕ) → (opening_priced p kept l ≡ opening kept l) × (job_priced p kept l ≡ job kept l)

-- of every resolved patch: it has at most 1,024 edits, and its total is below 2^26, so that its product with a run count is exact
abbrev pub Few : Type 0
Few =
    (p : Prices) → in_range p ≡ true → (t : RegInfo) (f : Function) → target.Accepted t → function.Accepted t f
    → (q : Patch) (room : ℕ) (c c' : Cache) (es : List Edit) (n : ℕ) → resolve t f q room c ≡ rules.resolved es c' n
    → (length es ≤ 1024) × (from_first (price_of p) es < 2 ^ 26)
