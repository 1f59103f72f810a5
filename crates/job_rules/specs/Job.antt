-- 01, The job: what the bytes of a job are answered with; 02 i: for a function of `kept` kept evictions, which is "given beside the job".
use Rattle.std.specs.Prelude.{ℕ, zero, suc, List, [], ◌∷◌, ltb, length}
use Rattle.std.proofs.Math.Option.{Option, none, some}
use Rattle.entity.specs.Logic.{pick, no}
use Rattle.reginfo.specs.RegInfo.{RegInfo}
use Rattle.reginfo.specs.Refused.{target_refusal}
use Rattle.function.specs.Function.{Function, is_setting}
use Rattle.rules.specs.Edit.{Edit}
use Rattle.rules.specs.Scratch.{Cache, empty_cache}
use Rattle.rules.specs.Patch.{Patch, Answer, resolve}
use Rattle.rules.specs.Patch as rules
use Rattle.number.specs.Read.{Read, got, refused, then}
use Rattle.reading.specs.Reading.{between}
use Rattle.job_target.specs.Target.{target}
use Rattle.job_function.specs.Reads.{function}
use Rattle.job_patch.specs.Patches.{unless_given, patch}

-- an accepted target, a function over it, and how many patches follow
pub record Header : Type 0 where
  pub target : RegInfo
  pub function : Function
  pub patches : ℕ

-- "patch count 1 to 1,024"
unfoldable pub after_target : RegInfo → (kept : ℕ) → List ℕ → Read Header
after_target t kept l = then (function t kept l) (λ f q. then (between 1 1024 q) (λ n p. got (record { target = t; function = f; patches = n }) p))

-- "4 to 7 rising after the target" (2 and 3 were given as it was read)
-- The target is tested before the function is read, since the function names its banks and classes.
unfoldable pub header : (kept : ℕ) → List ℕ → Read Header
header kept l = then (target l) (λ t r. unless_given (target_refusal t) (after_target t kept r))

-- the same up to the patch count: an accepted target and a function over it
pub record Opened : Type 0 where
  pub target : RegInfo
  pub function : Function

unfoldable pub with_function : RegInfo → (kept : ℕ) → List ℕ → Read Opened
with_function t kept l = then (function t kept l) (λ f q. got (record { target = t; function = f }) q)

-- 22: "a setting other than 1 or 2, tested before the job"; then 2: "a job over 65,536 bytes, tested first"
abbrev pub unless_early : {A : Type 0} → (kept : ℕ) → List ℕ → Read A → Read A
unless_early kept l x = pick (no (is_setting kept)) (refused 22) (pick (ltb 65536 (length l)) (refused 2) x)

unfoldable pub beginning : (kept : ℕ) → List ℕ → Read Opened
beginning kept l = unless_early kept l (then (target l) (λ t r. unless_given (target_refusal t) (with_function t kept r)))

-- of a patch that was resolved: its edits, how many slots the function then has, and the greatest position that it met
pub record Done : Type 0 where
  pub edits : List Edit
  pub made : ℕ
  pub position : ℕ

-- the patches resolved, and the refusal, if one came
pub record Answers : Type 0 where
  pub done : List Done
  pub refusal : Option ℕ

abbrev pub ends_with : Option ℕ → Answers
ends_with k = record { done = []; refusal = k }

abbrev pub before : Done → Answers → Answers
before d a = record { done = d ∷ a.done; refusal = a.refusal }

abbrev pub after_read : {A : Type 0} → Read A → (A → List ℕ → Answers) → Answers
after_read (got x r) next = next x r
after_read (refused k) next = ends_with (some k)

abbrev pub after_call : Answer → (Cache → Answers) → Answers
after_call (rules.refused k) next = ends_with (some k)
after_call (rules.resolved es c n) next = before (record { edits = es; made = c.made; position = n }) (next c)

-- 8: bytes left over
abbrev pub left_over : List ℕ → Answers
left_over [] = ends_with none
left_over (b ∷ l) = ends_with (some 8)

-- what a call answers: of a target, a function, a patch, the length of the lent list and a cache
-- A job is the same whether its patches are resolved whole or by groups: only the step differs.
abbrev pub Resolver : Type 0
Resolver = RegInfo → Function → Patch → (room : ℕ) → Cache → Answer

-- "There is one call for each patch, and what earlier patches gave stands": the list lent to a call has room for every patch
-- 1,024 is 8 for each of 128 moves, so 16 is never given.
unfoldable pub patches_by : Resolver → RegInfo → Function → ℕ → Cache → List ℕ → Answers
patches_by by t f zero c l = left_over l
patches_by by t f (suc n) c l = after_read (patch t f l) (λ p r. after_call (by t f p 1024 c) (λ c'. patches_by by t f n c' r))

abbrev pub patches : RegInfo → Function → ℕ → Cache → List ℕ → Answers
patches t f n c l = patches_by resolve t f n c l

unfoldable pub opening : (kept : ℕ) → List ℕ → Read Header
opening kept l = unless_early kept l (header kept l)

unfoldable pub job_by : Resolver → (kept : ℕ) → List ℕ → Answers
job_by by kept l = after_read (opening kept l) (λ h r. patches_by by h.target h.function h.patches empty_cache r)

abbrev pub job : (kept : ℕ) → List ℕ → Answers
job kept l = job_by resolve kept l
