-- What the numbers of a job ask of the calls: each is refused with the first of all its conditions that holds.
use Prim.Native.Nat.{ℕ}
use mathlib.Core.Path.{◌≡◌, refl}
use mathlib.Core.List.{List, [], ◌∷◌, ◌++◌}
use mathlib.Core.Option.{Option, none, some}
use Rattle.reginfo.specs.RegInfo.{RegInfo}
use Rattle.reginfo.specs.Refused.{Condition, refused_if, first_of}
use Rattle.reginfo.specs.Given.{Given, NoneHolds}
use Rattle.reginfo.proofs.First.{none_first, given-first}
use Rattle.function.specs.Function.{Function}
use Rattle.rules.specs.Edit.{Edit}
use Rattle.rules.specs.Scratch.{Cache}
use Rattle.rules.specs.Patch.{Patch, nothing_sorted, Answer, refused, resolved, sorted, patch_conditions, resolve}
use Rattle.rules.specs.Refusals.{entries_conditions, call_conditions}
use Rattle.rules.proofs.Refusals.{refusals}
use Rattle.job_rules.specs.Job.{Resolver}
use Rattle.job_rules.specs.Conditions.{Out, runs_out}

-- the number that an answer is refused with, if it is
abbrev pub number_of : Answer → Option ℕ
number_of (refused k) = some k
number_of (resolved es c n) = none

pub first-is : (cs : List Condition) (a : Answer) → ((n : ℕ) → a ≡ refused n → Given cs n)
    → ((es : List Edit) × (c : Cache) × (n : ℕ) × (a ≡ resolved es c n) → NoneHolds cs) → first_of cs ≡ number_of a
first-is cs (refused k) given taken = given-first cs k (given k refl)
first-is cs (resolved es c n) given taken = none_first cs (taken (es, c, n, refl))

abbrev pub ExactCalls : Resolver → Out → RegInfo → Function → Type 0
ExactCalls by out t f =
    (p : Patch) (room : ℕ) (c : Cache)
    → first_of (entries_conditions t f p.entries nothing_sorted ++ (patch_conditions t f p room (sorted t f p) ++ (refused_if 17 (out t f p c) ∷ []))) ≡ number_of (by t f p room c)

pub resolve-exact : (t : RegInfo) (f : Function) → ExactCalls resolve runs_out t f
unfolding call_conditions
resolve-exact t f p room c = let r = refusals t f p room c in first-is (call_conditions t f p room c) (resolve t f p room c) (λ n. (r.given n).0) r.taken.0
