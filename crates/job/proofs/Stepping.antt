-- A patch of a job, read and resolved.
use Prim.Native.Nat.{ℕ}
use mathlib.Core.Path.{◌≡◌, refl, ap, ◌∙◌}
use mathlib.Core.Bool.{Bool}
use mathlib.Core.List.{List}
use native.Mathlib.Omega.{arith}
use lib.ListN.{length, drop}
use Rattle.entity.specs.Logic.{has}
use Rattle.reginfo.specs.Table.{reg_info_of}
use Rattle.function.specs.Table.{function_of}
use Rattle.small_set.specs.Set.{set_of}
use Rattle.rules.specs.Patch.{Patch, Answer, resolve_sorted, resolve}
use Rattle.rules.specs.Patch as rules
use Rattle.slots.specs.Stacks.{cache_of}
use Rattle.entries.specs.Table.{sorted_of}
use Rattle.entries.specs.Known.{EntriesOk}
use Rattle.number.specs.Read.{Read, got, refused}
use Rattle.reading.specs.declared.Next.TheVariants as X
use Rattle.parallel_moves.specs.declared.Resolved.TheVariants as R
use Rattle.parallel_moves.specs.Given.{Built}
use Rattle.parallel_moves.specs.Answers.{Gives}
use Rattle.parallel_moves.proofs.First.{resolve-built}
use Rattle.job_patch.specs.Patches.{patch}
use Rattle.job_patch.specs.Steps.{Holds, PatchAt}
use Rattle.job.specs.declared.Step.{Step}
use Rattle.job.specs.declared.Step.TheVariants.{Edits, Refused}
use Rattle.job_rules.specs.Job.{Resolver}
use Rattle.job.specs.Steps.{CallAt, StepAt}
use Rattle.job_rules.proofs.WasRead.{patch-taken}

module _ (f : List ℕ) (next : ℕ) (list list' cache cache' : List ℕ) where
  pub call-refused : (a : Answer) (k : ℕ) → Gives f a (R.Refused k) list list' cache cache' → CallAt f a next (Refused k) list list' cache cache'
  call-refused (rules.refused n) k h = let e : k ≡ n = cc in (ap Refused e, h.1, h.2)
  call-refused (rules.resolved es c m) k h = absurd (let z : ◌≡◌ {A = ℕ} 0 1 = cc in omega arith)

  pub call-edits : (a : Answer) (n m : ℕ) → Gives f a (R.Edits n m) list list' cache cache' → CallAt f a next (Edits n m next) list list' cache cache'
  call-edits (rules.refused k) n m h = absurd (let z : ◌≡◌ {A = ℕ} 0 1 = cc in omega arith)
  call-edits (rules.resolved es c i) n m h = let e : n ≡ length es = h.1 in let q : m ≡ i = h.6 in (rw (e, q), h.2, h.3, h.4, h.5)

module _ (t f s : List ℕ) (x : Read Patch) (free : List Bool) (e w : List ℕ) where
  pub step-refused : (by : Resolver) (k : ℕ) (list cache : List ℕ) → PatchAt t f s x (X.Refused k) free e w → StepAt by t f s x (Refused k) list list cache cache
  step-refused by k list cache = go x
    where
      go : (x : Read Patch) → PatchAt t f s x (X.Refused k) free e w → StepAt by t f s x (Refused k) list list cache cache
      go (refused j) h = let z : k ≡ j = cc in (ap Refused z, refl, refl)
      go (got p rest) h = absurd (let z : ◌≡◌ {A = ℕ} 0 1 = cc in omega arith)

  pub entries-there : (next : ℕ) → PatchAt t f s x (X.At next) free e w → EntriesOk t f e w
  entries-there next = go x
    where
      go : (x : Read Patch) → PatchAt t f s x (X.At next) free e w → EntriesOk t f e w
      go (refused j) h = absurd (let z : ◌≡◌ {A = ℕ} 0 1 = cc in omega arith)
      go (got p rest) h = h.4.ok

  -- a patch that was read, and its call
  pub step-got : (by : Resolver) (next : ℕ) (r : Step) (list list' cache cache' : List ℕ) → PatchAt t f s x (X.At next) free e w
      → ((p : Patch) (rest : List ℕ) → x ≡ got p rest → Holds t f free e w p → CallAt f (by (reg_info_of t) (function_of f) p (length list) (cache_of cache)) next r list list' cache cache')
      → StepAt by t f s x r list list' cache cache'
  step-got by next r list list' cache cache' h g = go x h g
    where
      go : (x : Read Patch) → PatchAt t f s x (X.At next) free e w
          → ((p : Patch) (rest : List ℕ) → x ≡ got p rest → Holds t f free e w p → CallAt f (by (reg_info_of t) (function_of f) p (length list) (cache_of cache)) next r list list' cache cache')
          → StepAt by t f s x r list list' cache cache'
      go (refused j) h g = absurd (let z : ◌≡◌ {A = ℕ} 0 1 = cc in omega arith)
      go (got p rest) h g = let same : next ≡ h.0 = cc in (next, h.2 ∙ rw same, rw same h.3, g p rest refl h.4)

  -- such a patch is one built of entries, and its call is that of the rules
  pub step-read : (at next : ℕ) (r : Step) (list list' cache cache' : List ℕ) → patch (reg_info_of t) (function_of f) (drop at s) ≡ x → PatchAt t f s x (X.At next) free e w
      → ((p : Patch) → ((u : ℕ) → has u p.free ≡ set_of free u) → CallAt f (resolve_sorted (reg_info_of t) (function_of f) p (length list) (cache_of cache) (sorted_of e)) next r list list' cache cache')
      → StepAt resolve t f s x r list list' cache cache'
  step-read at next r list list' cache cache' is h g =
      step-got resolve next r list list' cache cache' h
      (λ p rest q o.
      let built : Built t f free e p = record { free-is = o.free-is; taken = patch-taken (reg_info_of t) (function_of f) (drop at s) p rest (is ∙ q); is = o.is } in
      rw (resolve-built t f free e p built (length list) (cache_of cache)) (g p o.free-is))
