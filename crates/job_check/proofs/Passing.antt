-- A job read to its end, patch by patch: what its number is.
use Prim.Native.Nat.{ℕ, suc, ◌-◌, ◌<◌, ◌≤◌}
use mathlib.Core.Path.{◌≡◌, refl, sym, ap, ◌∙◌}
use mathlib.Core.Bool.{Bool}
use mathlib.Core.List.{List, [], ◌∷◌}
use mathlib.Core.Option.{Option, none, some}
use native.Mathlib.Omega.{arith}
use lib.ListN.{length, drop, length-drop}
use Rattle.reginfo.specs.RegInfo.{RegInfo}
use Rattle.reginfo.specs.Refused.{first_of}
use Rattle.reginfo.specs.Table.{reg_info_of}
use Rattle.function.specs.Function.{Function}
use Rattle.function.specs.Known.{Checked}
use Rattle.function.specs.Table.{function_of}
use Rattle.rules.specs.Patch.{Patch, sorted, patch_conditions}
use Rattle.number.specs.Read.{Read, got, refused, then}
use Rattle.number.specs.declared.Number.TheVariants as N
use Rattle.reading.specs.declared.Next.{Next}
use Rattle.reading.specs.declared.Next.TheVariants as X
use Rattle.job_patch.specs.Patches.{unless_given, patch, accepted}
use Rattle.job_patch.specs.Steps.{PatchAt}
use Rattle.job_rules.specs.Job.{Header, opening}
use Rattle.job.specs.Steps.{HeaderAt}
use Rattle.job_numbers.specs.Numbers.{Job, read_patches, read_job, number_of}

-- what is made of what was read has no number of its own
same_number : {A B : Type 0} (x : Read A) (f : A → List ℕ → B) → number_of (then x (λ a r. got (f a r) r)) ≡ number_of x
same_number (got a r) f = refl
same_number (refused k) f = refl

-- ---- one patch
module _ (t : RegInfo) (f : Function) (n : ℕ) where
  -- the patches behind one
  abbrev onward : Patch → List ℕ → Read (List Patch)
  onward p r = then (read_patches t f n r) (λ ps q. got (p ∷ ps) q)

  -- the patches from here on are this one, accepted, and those behind it
  reads : (l : List ℕ) → read_patches t f (suc n) l ≡ then (accepted t f l) onward
  unfolding read_patches accepted
  reads l = go (patch t f l)
    where
      given : (o : Option ℕ) (p : Patch) (r : List ℕ) → unless_given o (onward p r) ≡ then (unless_given o (got p r)) onward
      given none p r = refl
      given (some k) p r = refl

      go : (x : Read Patch)
          → then x (λ p r. unless_given (first_of (patch_conditions t f p 1024 (sorted t f p))) (onward p r))
          ≡ then (then x (λ p r. unless_given (first_of (patch_conditions t f p 1024 (sorted t f p))) (got p r))) onward
      go (got p r) = given (first_of (patch_conditions t f p 1024 (sorted t f p))) p r
      go (refused k) = refl

-- ---- all patches
module _ (t f s : List ℕ) where
  -- what reading gives with so many patches left
  abbrev pub number : ℕ → ℕ → Option ℕ
  number left at = number_of (read_patches (reg_info_of t) (function_of f) left (drop at s))

  module _ (free : List Bool) (e w : List ℕ) where
    refused-of : (n : ℕ) (x : Read Patch) (r : Next) (k : ℕ) → PatchAt t f s x r free e w → r ≡ X.Refused k
        → number_of (then x (onward (reg_info_of t) (function_of f) n)) ≡ some k
    refused-of n (refused j) r k h o = ap some (let a = h.0 in let z : j ≡ k = cc in z)
    refused-of n (got p q) r k h o = let a = h.1 in let z : ◌≡◌ {A = ℕ} 0 1 = cc in absurd (omega arith)

    onward-of : (n : ℕ) (x : Read Patch) (r : Next) (next : ℕ) → PatchAt t f s x r free e w → r ≡ X.At next
        → number_of (then x (onward (reg_info_of t) (function_of f) n)) ≡ number n next
    onward-of n (refused j) r next h o = let a = h.0 in let z : ◌≡◌ {A = ℕ} 0 1 = cc in absurd (omega arith)
    onward-of n (got p q) r next h o =
        let a = h.1 in
        let z : h.0 ≡ next = cc in
        same_number (read_patches (reg_info_of t) (function_of f) n q) (λ ps r. p ∷ ps) ∙ rw (h.2, z)

    module _ (left at : ℕ) (m : 0 < left) (r : Next) (h : PatchAt t f s (accepted (reg_info_of t) (function_of f) (drop at s)) r free e w) where
      one : number left at ≡ number_of (then (accepted (reg_info_of t) (function_of f) (drop at s)) (onward (reg_info_of t) (function_of f) (left - 1)))
      one = let z : left ≡ suc (left - 1) = omega arith in ap (λ (k : ℕ). number k at) z ∙ ap number_of (reads (reg_info_of t) (function_of f) (left - 1) (drop at s))

      pub refused-here : (k : ℕ) → r ≡ X.Refused k → number left at ≡ some k
      refused-here k o = one ∙ refused-of (left - 1) (accepted (reg_info_of t) (function_of f) (drop at s)) r k h o

      pub goes_on : (next : ℕ) → r ≡ X.At next → number left at ≡ number (left - 1) next
      goes_on next o = one ∙ onward-of (left - 1) (accepted (reg_info_of t) (function_of f) (drop at s)) r next h o

  over : (l : List ℕ) → 0 < length l → number_of (read_patches (reg_info_of t) (function_of f) 0 l) ≡ some 8
  unfolding read_patches
  over [] h = absurd (omega arith)
  over (b ∷ l) h = refl

  none_over : (l : List ℕ) → length l ≡ 0 → number_of (read_patches (reg_info_of t) (function_of f) 0 l) ≡ none
  unfolding read_patches
  none_over [] h = refl
  none_over (b ∷ l) h = absurd (omega arith)

  pub left_over : (left at : ℕ) → left ≤ 0 → at < length s → number left at ≡ some 8
  left_over left at h q = let z : left ≡ 0 = omega arith in rw z (over (drop at s) (rw (length-drop at s) (omega arith)))

  pub all_read : (left at : ℕ) → left ≤ 0 → length s ≤ at → number left at ≡ none
  all_read left at h q = let z : left ≡ 0 = omega arith in rw z (none_over (drop at s) (rw (length-drop at s) (omega arith)))

-- ---- the whole job
abbrev whole : Read Header → Read Job
whole x =
    then x
    (λ h r. then (read_patches h.target h.function h.patches r)
    (λ ps q. got (record { target = h.target; function = h.function; patches = ps }) q))

opens : (s : List ℕ) → read_job s ≡ whole (opening 1 s)
unfolding read_job
opens s = refl

module _ (s t f : List ℕ) where
  header_refused : (x : Read Header) (k : ℕ) → HeaderAt s x (N.Refused k) t f → number_of (whole x) ≡ some k
  header_refused (refused j) k h = let q : j ≡ k = cc in ap some q
  header_refused (got x r) k h = absurd (let z : ◌≡◌ {A = ℕ} 0 1 = cc in omega arith)

  pub unopened : (k : ℕ) → HeaderAt s (opening 1 s) (N.Refused k) t f → some k ≡ number_of (read_job s)
  unopened k h = sym (ap number_of (opens s) ∙ header_refused (opening 1 s) k h)

  module _ (count at : ℕ) where
    header-known : (x : Read Header) → HeaderAt s x (N.Is count at) t f → Checked t f
    header-known (refused j) h = absurd (let z : ◌≡◌ {A = ℕ} 0 1 = cc in omega arith)
    header-known (got x r) h = h.6

    pub opened : HeaderAt s (opening 1 s) (N.Is count at) t f → Checked t f
    opened h = header-known (opening 1 s) h

    header_read : (x : Read Header) → HeaderAt s x (N.Is count at) t f → number_of (whole x) ≡ number t f s count at
    header_read (refused j) h = absurd (let z : ◌≡◌ {A = ℕ} 0 1 = cc in omega arith)
    header_read (got x r) h =
        let n : x.patches ≡ count = cc in
        let a : h.0 ≡ at = cc in
        same_number (read_patches x.target x.function x.patches r) (λ ps q. record { target = x.target; function = x.function; patches = ps })
        ∙ rw (n, h.2, a, ← h.4, ← h.5)

    pub all-checked : (o : Option ℕ) → HeaderAt s (opening 1 s) (N.Is count at) t f → o ≡ number t f s count at → o ≡ number_of (read_job s)
    all-checked o h e = e ∙ sym (ap number_of (opens s) ∙ header_read (opening 1 s) h)
