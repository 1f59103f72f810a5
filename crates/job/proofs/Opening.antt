-- The opening of a job: target and function, and the patch count.
use Prim.Native.Nat.{ℕ, ◌<◌, ◌≤◌}
use mathlib.Core.Path.{◌≡◌, refl, sym, ap}
use mathlib.Core.Bool.{Bool, true, false}
use mathlib.Core.List.{List}
use mathlib.Core.Option.{none, some}
use mathlib.Core.Logic.{⊎_elim}
use native.Mathlib.Omega.{arith}
use lib.ListN.{length, drop}
use borrow.Author.Tests.{lt-ltb, le-ltb}
use Rattle.entity.specs.Logic.{no}
use Rattle.reginfo.specs.Refused.{Accepted, target_refusal}
use Rattle.reginfo.specs.Table.{reg_info_of, Indexed}
use Rattle.function.specs.Function.{is_setting}
use Rattle.function.specs.Known.{Checked}
use Rattle.function.specs.Table.{function_of}
use Rattle.function.proofs.Laws.{setting-is}
use Rattle.number.specs.Read.{Read, got, refused, then}
use Rattle.number.specs.declared.Number.{Number}
use Rattle.number.specs.declared.Number.TheVariants as N
use Rattle.reading.specs.Reading.{between}
use Rattle.reading.specs.Answer.{ReadAt}
use Rattle.reading.specs.declared.Next.{Next}
use Rattle.reading.specs.declared.Next.TheVariants as X
use Rattle.job_target.specs.Target.{target}
use Rattle.job_target.specs.Answer.{TargetAt}
use Rattle.job_function.specs.Reads.{function}
use Rattle.job_function.specs.Answer.{FunctionReadWithin}
use Rattle.job_function.proofs.Accepted.{read-within, read-accepted}
use Rattle.job_patch.specs.Patches.{unless_given}
use Rattle.job_rules.specs.Job.{Opened}
use Rattle.job_rules.specs.Priced.{unless_outside}
use Rattle.job_rules.specs.Formula.{with_function_within, beginning_within, counted, opening_within}
use Rattle.job.specs.Steps.{BegunAt, HeaderAt}

-- a setting fits in a cell of the table
pub setting-small : (n : ℕ) → is_setting n ≡ true → n < 65536
setting-small n h = ⊎_elim (λ e. omega arith) (λ e. omega arith) (setting-is n h)

-- the function of an accepted target
function-read : (least most : ℕ) → most ≤ 4096 → (kept : ℕ) → is_setting kept ≡ true → (s t f : List ℕ) (at : ℕ) (r : Next) → Accepted (reg_info_of t) → Indexed t → FunctionReadWithin least most t kept s at f r
    → BegunAt s (with_function_within least most (reg_info_of t) kept (drop at s)) r t f
unfolding with_function_within
function-read least most few kept set s t f at (X.Refused k) ok index h = rw (← h.reads) (refl, tt, tt)
function-read least most few kept set s t f at (X.At next) ok index h =
    let alone : function (reg_info_of t) kept (drop at s) ≡ got (function_of f) (drop next s) = ((read-within least most few (reg_info_of t) kept (drop at s) (function_of f) (drop next s)).0 (sym h.reads)).0 in
    let known : Checked t f = record { target = ok; indexed = index; function = (read-accepted (reg_info_of t) kept set (drop at s) (function_of f) (drop next s) alone).0 } in
    rw (← h.reads) (next, refl, refl, h.onward.1, refl, refl, known)

-- a target that is refused, and one that is not; `ok` tells whether the prices are in their range
module _ (ok : Bool) (least most kept : ℕ) (s t t' f : List ℕ) (at : ℕ) where
  abbrev behind : Read Opened
  behind = unless_given (target_refusal (reg_info_of t)) (unless_outside ok (with_function_within least most (reg_info_of t) kept (drop at s)))

  pub target-refused : (k : ℕ) → some k ≡ target_refusal (reg_info_of t) → BegunAt s behind (X.Refused k) t' f
  target-refused k h = rw (← h) (refl, tt, tt)

  pub prices-refused : ok ≡ false → none ≡ target_refusal (reg_info_of t) → BegunAt s behind (X.Refused 19) t' f
  prices-refused out h = rw (← h, out) (refl, tt, tt)

  pub target-taken : ok ≡ true → most ≤ 4096 → is_setting kept ≡ true → (r : Next) → none ≡ target_refusal (reg_info_of t) → reg_info_of t' ≡ reg_info_of t → Indexed t' → FunctionReadWithin least most t' kept s at f r
      → BegunAt s behind r t' f
  target-taken within few set r h e index g =
      let ok : Accepted (reg_info_of t') = rw e (sym h) in
      let h' = rw e at (function-read least most few kept set s t' f at r ok index g) in
      rw (← h, within) h'

module _ (ok : Bool) (least most kept : ℕ) (s t f : List ℕ) where
  pub other-setting : no (is_setting kept) ≡ true → BegunAt s (beginning_within ok least most kept s) (X.Refused 22) t f
  unfolding beginning_within
  other-setting set = rw set (refl, tt, tt)

  module _ (set : is_setting kept ≡ true) where
    pub too_long : 65536 < length s → BegunAt s (beginning_within ok least most kept s) (X.Refused 2) t f
    unfolding beginning_within
    too_long h = rw (set, lt-ltb 65536 (length s) h) (refl, tt, tt)

    pub beginning-refused : (k : ℕ) → length s ≤ 65536 → TargetAt s 0 t (X.Refused k) → BegunAt s (beginning_within ok least most kept s) (X.Refused k) t f
    unfolding beginning_within
    beginning-refused k l h = rw (set, le-ltb 65536 (length s) l, ← h.reads) (refl, tt, tt)

    pub beginning-read : (t' : List ℕ) (next : ℕ) (r : Next) → length s ≤ 65536 → TargetAt s 0 t (X.At next) → BegunAt s (unless_given (target_refusal (reg_info_of t)) (unless_outside ok (with_function_within least most (reg_info_of t) kept (drop next s)))) r t' f → BegunAt s (beginning_within ok least most kept s) r t' f
    unfolding beginning_within
    beginning-read t' next r l h g = rw (set, le-ltb 65536 (length s) l, ← h.reads) g

module _ (ok : Bool) (least most kept : ℕ) (s t f : List ℕ) where
  pub opening-refused : (k : ℕ) → BegunAt s (beginning_within ok least most kept s) (X.Refused k) t f → HeaderAt s (opening_within ok least most kept s) (N.Refused k) t f
  unfolding opening_within
  opening-refused k h = (go (beginning_within ok least most kept s) h)
    where
      go : (x : Read Opened) → BegunAt s x (X.Refused k) t f → HeaderAt s (then x (λ x q. counted x q)) (N.Refused k) t f
      go (refused j) h = let z : k ≡ j = cc in (ap N.Refused z, tt, tt)
      go (got x rest) h = absurd (let z : ◌≡◌ {A = ℕ} 0 1 = cc in omega arith)

  pub opening-read : (next : ℕ) (r : Number) → BegunAt s (beginning_within ok least most kept s) (X.At next) t f → ReadAt (between 1 1024) s next r → HeaderAt s (opening_within ok least most kept s) r t f
  unfolding opening_within
  opening-read next r h g = (go (beginning_within ok least most kept s) r h g)
    where
      go : (x : Read Opened) (r : Number) → BegunAt s x (X.At next) t f → ReadAt (between 1 1024) s next r → HeaderAt s (then x (λ x q. counted x q)) r t f
      go (refused j) r h g = absurd (let z : ◌≡◌ {A = ℕ} 0 1 = cc in omega arith)
      go (got x rest) (N.Refused j) h g = let same : next ≡ h.0 = cc in rw (h.2, ← same, ← g.reads) (refl, tt, tt)
      go (got x rest) (N.Is n q) h g = let same : next ≡ h.0 = cc in rw (h.2, ← same, ← g.reads) (q, refl, refl, g.onward.1, h.4, h.5, h.6)
