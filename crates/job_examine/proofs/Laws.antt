-- What a reading that was answered says of the bytes.
use Prim.Native.Nat.{ℕ, zero, suc, ◌-◌, ◌<◌, ◌≤◌}
use mathlib.Core.Path.{◌≡◌, refl, sym, ap, ◌∙◌}
use mathlib.Core.Bool.{Bool}
use mathlib.Core.List.{List}
use mathlib.Core.Option.{none}
use native.Mathlib.Omega.{arith}
use lib.ListN.{drop}
use borrow.Author.Tests.{lt-ltb, le-ltb}
use Rattle.reginfo.specs.RegInfo.{RegInfo}
use Rattle.reginfo.specs.Refused.{first_of}
use Rattle.reginfo.specs.Table.{reg_info_of}
use Rattle.function.specs.Function.{Function}
use Rattle.function.specs.Known.{Checked}
use Rattle.function.specs.Table.{function_of}
use Rattle.rules.specs.Patch.{Patch, nothing_sorted}
use Rattle.rules.specs.Refusals.{entries_conditions}
use Rattle.number.specs.Read.{Read, got, refused, then}
use Rattle.number.specs.declared.Number.{Number}
use Rattle.number.specs.declared.Number.TheVariants as N
use Rattle.reading.specs.declared.Next.{Next}
use Rattle.reading.specs.declared.Next.TheVariants as X
use Rattle.job_patch.specs.Patches.{patch, accepted}
use Rattle.job_patch.specs.Steps.{Holds, PatchAt}
use Rattle.job_rules.specs.Job.{Header}
use Rattle.job.specs.Steps.{HeaderAt}
use Rattle.job_rules.proofs.WasRead.{patch-taken}
use Rattle.examine_rules.specs.Examine.{Refused}
use Rattle.job_examine.specs.Job.{patch_at, examine_read, examine_at, examine_opened}

-- ---- a patch
module _ (t f s : List ℕ) (free : List Bool) (e w : List ℕ) where
  pub read-refused : (d : Read Patch) (r : Next) (k : ℕ) → PatchAt t f s d r free e w → r ≡ X.Refused k → d ≡ refused k
  read-refused (refused j) r k h q = ap refused (let a = h.0 in let z : j ≡ k = cc in z)
  read-refused (got p rest) r k h q = let a = h.1 in let z : ◌≡◌ {A = ℕ} 0 1 = cc in absurd (omega arith)

  pub record Got (d : Read Patch) (q : ℕ) : Type 0 where
    pub p : Patch
    pub rest : List ℕ
    pub is : d ≡ got p rest
    pub on : rest ≡ drop q s
    pub holds : Holds t f free e w p

  pub read-got : (d : Read Patch) (r : Next) (q : ℕ) → PatchAt t f s d r free e w → r ≡ X.At q → Got d q
  read-got (refused j) r q h e = let a = h.0 in let z : ◌≡◌ {A = ℕ} 0 1 = cc in absurd (omega arith)
  read-got (got p rest) r q h e = let a = h.1 in let z : h.0 ≡ q = cc in record { p = p; rest = rest; is = refl; on = h.2 ∙ ap (λ (n : ℕ). drop n s) z; holds = h.4 }

module _ (t : RegInfo) (f : Function) where
  pub patch-first : (l : List ℕ) → patch_at t f 0 l ≡ patch t f l
  unfolding patch_at
  patch-first l = refl

  patch-suc : (n m : ℕ) (l : List ℕ) → n ≡ suc m → patch_at t f n l ≡ then (accepted t f l) (λ p r. patch_at t f m r)
  unfolding patch_at
  patch-suc n m l h = rw h

  pub patch-step : (n : ℕ) (l : List ℕ) → 0 < n → patch_at t f n l ≡ then (accepted t f l) (λ p r. patch_at t f (n - 1) r)
  patch-step n l h = patch-suc n (n - 1) l (omega arith)

  pub skip-refused : (n k : ℕ) (l : List ℕ) → 0 < n → accepted t f l ≡ refused k → patch_at t f n l ≡ refused k
  skip-refused n k l h q = patch-step n l h ∙ ap (λ (d : Read Patch). then d (λ p r. patch_at t f (n - 1) r)) q

  pub skip-got : (n : ℕ) (l rest : List ℕ) (p : Patch) → 0 < n → accepted t f l ≡ got p rest → patch_at t f n l ≡ patch_at t f (n - 1) rest
  skip-got n l rest p h q = patch-step n l h ∙ ap (λ (d : Read Patch). then d (λ p r. patch_at t f (n - 1) r)) q

  -- the entries of a patch that was read are refused no more
  pub taken_at : (n : ℕ) (l rest : List ℕ) (p : Patch) → patch_at t f n l ≡ got p rest → first_of (entries_conditions t f p.entries nothing_sorted) ≡ none
  unfolding patch_at
  taken_at zero l rest p h = patch-taken t f l p rest h
  taken_at (suc n) l rest p h = go (accepted t f l) h (taken_at n)
    where
      go : (d : Read Patch) → then d (λ p r. patch_at t f n r) ≡ got p rest → ((l rest : List ℕ) (p : Patch) → patch_at t f n l ≡ got p rest → first_of (entries_conditions t f p.entries nothing_sorted) ≡ none)
          → first_of (entries_conditions t f p.entries nothing_sorted) ≡ none
      go (refused k) h on = let z : ◌≡◌ {A = ℕ} 0 1 = cc in absurd (omega arith)
      go (got x r) h on = on r rest p h

  pub at_none : (count n most : ℕ) (ws l : List ℕ) → count ≤ n → Refused 2 ≡ examine_at t f count n most ws l
  unfolding examine_at
  at_none count n most ws l h = rw (le-ltb n count h)

  pub at_some : (count n most : ℕ) (ws l : List ℕ) (d : Read Patch) → n < count → patch_at t f n l ≡ d → examine_read t f most ws d ≡ examine_at t f count n most ws l
  unfolding examine_at
  at_some count n most ws l d h q = sym (rw (lt-ltb n count h) (ap (examine_read t f most ws) q))

-- ---- the opening
module _ (s t f : List ℕ) where
  pub opening-refused : (d : Read Header) (r : Number) (k : ℕ) → HeaderAt s d r t f → r ≡ N.Refused k → d ≡ refused k
  opening-refused (refused j) r k h q = ap refused (let a = h.0 in let z : j ≡ k = cc in z)
  opening-refused (got x rest) r k h q = let a = h.1 in let z : ◌≡◌ {A = ℕ} 0 1 = cc in absurd (omega arith)

  pub record Opens (d : Read Header) (c q : ℕ) : Type 0 where
    pub checked : Checked t f
    pub says : (most : Function → ℕ) (n : ℕ) (ws : List ℕ) → examine_at (reg_info_of t) (function_of f) c n (most (function_of f)) ws (drop q s) ≡ examine_opened most n ws d

  pub opening-got : (d : Read Header) (r : Number) (c q : ℕ) → HeaderAt s d r t f → r ≡ N.Is c q → Opens d c q
  opening-got (refused j) r c q h e = let a = h.0 in let z : ◌≡◌ {A = ℕ} 0 1 = cc in absurd (omega arith)
  opening-got (got x rest) r c q h e =
      let a = h.1 in
      let n : h.0 ≡ q = cc in
      let k : x.patches ≡ c = cc in
      record {
        checked = h.6;
        says = λ most i ws. same h.4 h.5 (sym k) (ap (λ (y : ℕ). drop y s) (sym n) ∙ sym h.2) most i ws;
      }
    where
      same : reg_info_of t ≡ x.target → function_of f ≡ x.function → c ≡ x.patches → drop q s ≡ rest → (most : Function → ℕ) (i : ℕ) (ws : List ℕ)
          → examine_at (reg_info_of t) (function_of f) c i (most (function_of f)) ws (drop q s) ≡ examine_at x.target x.function x.patches i (most x.function) ws rest
      same a b k r most i ws = rw (a, b, k, r)
