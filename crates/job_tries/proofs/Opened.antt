-- A function read with prices, alone or before a job's patches.
use Prim.Native.Nat.{ℕ, ◌<◌, ◌≤◌}
use mathlib.Core.Path.{◌≡◌, refl, sym, ap, subst, ◌∙◌}
use mathlib.Core.Bool.{Bool, true, false}
use mathlib.Core.List.{List, [], ◌∷◌}
use mathlib.Core.Option.{Option, none, some}
use native.Mathlib.Omega.{arith}
use borrow.Author.Tests.{lt-leb, le-leb}
use lib.ListN.{length, drop, length-drop}
use Rattle.reginfo.specs.RegInfo.{RegInfo}
use Rattle.reginfo.specs.Refused.{target_refusal}
use Rattle.reginfo.specs.Table.{reg_info_of}
use Rattle.function.specs.Function.{Function}
use Rattle.function.specs.Known.{Checked}
use Rattle.function.specs.Table.{function_of}
use Rattle.entries.specs.Answers.{added_of}
use Rattle.entries.specs.declared.Added.{Added}
use Rattle.entries.specs.declared.Added.TheVariants as A
use Rattle.price.specs.declared.Prices.{Prices}
use Rattle.price.specs.Price.{in_range}
use Rattle.number.specs.Read.{Read, got, refused, then}
use Rattle.number.specs.declared.Number.TheVariants as N
use Rattle.reading.specs.Reading.{between}
use Rattle.reading.specs.Answer.{ReadAt}
use Rattle.reading.specs.declared.Next.TheVariants as X
use Rattle.job_target.specs.Target.{target}
use Rattle.job_function.proofs.Accepted.{then-got}
use Rattle.job_patch.specs.Patches.{unless_given}
use Rattle.job_rules.specs.Job.{Opened, with_function}
use Rattle.job_rules.specs.Priced.{unless_outside, beginning_if, beginning_priced}
use Rattle.job.specs.Steps.{BegunAt}
use Rattle.job_rules.proofs.WasRead.{early-got, given-got}
use Rattle.job_numbers.specs.Numbers.{read_patches, number_of}
use Rattle.trying.specs.Tried.{tried}
use Rattle.trying.specs.Report.{Reported}
use Rattle.trying.specs.Steps.{SettingTried}
use Rattle.job_tries.specs.Tries.{rest_refusal, function_asked, asked, Both, TriedBy, FunctionAt}

-- ---- what stands behind a function
module _ (t : RegInfo) (f : Function) where
  rest-nothing : (l : List ℕ) → length l ≡ 0 → none ≡ rest_refusal t f l
  unfolding rest_refusal
  rest-nothing [] h = refl
  rest-nothing (b ∷ l) h = absurd (omega arith)

  rest-something : (l : List ℕ) → 0 < length l → rest_refusal t f l ≡ number_of (then (between 1 1024 l) (λ n q. read_patches t f n q))
  unfolding rest_refusal
  rest-something [] h = absurd (omega arith)
  rest-something (b ∷ l) h = refl

  module _ (s : List ℕ) (at : ℕ) where
    pub rest-none : length s ≤ at → none ≡ rest_refusal t f (drop at s)
    rest-none h = rest-nothing (drop at s) (rw (length-drop at s) (omega arith))

    rest_some : at < length s → rest_refusal t f (drop at s) ≡ number_of (then (between 1 1024 (drop at s)) (λ n q. read_patches t f n q))
    rest_some h = rest-something (drop at s) (rw (length-drop at s) (omega arith))

    pub rest-uncounted : (k : ℕ) → at < length s → ReadAt (between 1 1024) s at (N.Refused k) → some k ≡ rest_refusal t f (drop at s)
    rest-uncounted k h g = sym (rest_some h ∙ rw (← g.reads))

    pub rest-counted : (n next : ℕ) (o : Option ℕ) → at < length s → ReadAt (between 1 1024) s at (N.Is n next) → o ≡ number_of (read_patches t f n (drop next s))
        → o ≡ rest_refusal t f (drop at s)
    rest-counted n next o h g e = e ∙ sym (rest_some h ∙ rw (← g.reads))

-- ---- a function that was read with prices has these in their range
within : (ok : Bool) (x : Read Opened) (h : Opened) (r : List ℕ) → unless_outside ok x ≡ got h r → ok ≡ true
within true x h r e = refl
within false x h r e = absurd (let z : ◌≡◌ {A = ℕ} 0 1 = cc in omega arith)

begun-within : (ok : Bool) (kept : ℕ) (l : List ℕ) (h : Opened) (r : List ℕ) → beginning_if ok kept l ≡ got h r → ok ≡ true
unfolding beginning_if
begun-within ok kept l h r e =
    let a = early-got kept l _ h r e in
    let b = then-got (target l) _ h r a.2 in
    let c = given-got (target_refusal b.0) (unless_outside ok (with_function b.0 kept b.1)) h r b.3 in
    within ok (with_function b.0 kept b.1) h r c.1

module _ (p : Prices) (s t f : List ℕ) where
  abbrev rested : Read Opened → Read Opened
  rested x = then x (λ x r. unless_given (rest_refusal x.target x.function r) (got x r))

  pub unbegun : (k : ℕ) → BegunAt s (beginning_priced p 1 s) (X.Refused k) t f → FunctionAt p (function_asked p s) (A.Refused k) t f
  unfolding function_asked
  unbegun k h = go (beginning_priced p 1 s) h
    where
      go : (x : Read Opened) → BegunAt s x (X.Refused k) t f → FunctionAt p (rested x) (A.Refused k) t f
      go (refused j) h = let z : k ≡ j = cc in (ap A.Refused z, tt, tt)
      go (got x r) h = absurd (let z : ◌≡◌ {A = ℕ} 0 1 = cc in omega arith)

  pub begun-checked : (at : ℕ) → BegunAt s (beginning_priced p 1 s) (X.At at) t f → Checked t f
  begun-checked at h = go (beginning_priced p 1 s) h
    where
      go : (x : Read Opened) → BegunAt s x (X.At at) t f → Checked t f
      go (refused j) h = absurd (let z : ◌≡◌ {A = ℕ} 0 1 = cc in omega arith)
      go (got x r) h = h.6

  pub begun : (at : ℕ) (a : Added) → BegunAt s (beginning_priced p 1 s) (X.At at) t f → added_of a ≡ rest_refusal (reg_info_of t) (function_of f) (drop at s)
      → FunctionAt p (function_asked p s) a t f
  unfolding function_asked
  begun at a h g = go (beginning_priced p 1 s) refl h
    where
      ends : (o : Option ℕ) (x : Opened) (r : List ℕ) (a : Added) → added_of a ≡ o → reg_info_of t ≡ x.target → function_of f ≡ x.function → Checked t f → in_range p ≡ true
          → FunctionAt p (unless_given o (got x r)) a t f
      ends none x r A.Yes e i j c q = (refl, i, j, c, q)
      ends none x r (A.Refused k) e i j c q = absurd (let z : ◌≡◌ {A = ℕ} 0 1 = cc in omega arith)
      ends (some k) x r A.Yes e i j c q = absurd (let z : ◌≡◌ {A = ℕ} 0 1 = cc in omega arith)
      ends (some k) x r (A.Refused m) e i j c q = let z : m ≡ k = cc in (ap A.Refused z, tt, tt)

      go : (x : Read Opened) → beginning_priced p 1 s ≡ x → BegunAt s x (X.At at) t f → FunctionAt p (rested x) a t f
      go (refused j) e h = absurd (let z : ◌≡◌ {A = ℕ} 0 1 = cc in omega arith)
      go (got x r) e h =
          let same : at ≡ h.0 = cc in
          let o : added_of a ≡ rest_refusal x.target x.function r = rw (h.4, h.5, same, ← h.2) at g in
          ends (rest_refusal x.target x.function r) x r a o h.4 h.5 h.6 (begun-within (in_range p) 1 s x r e)

-- ---- how many patches are asked for
asked-few : (p : Prices) (n : ℕ) (l : List ℕ) → n < 1 → asked p n l ≡ refused 2
unfolding asked
asked-few p n l h = rw (lt-leb 1 n h)

asked-many : (p : Prices) (n : ℕ) (l : List ℕ) → 1 ≤ n → 1024 < n → asked p n l ≡ refused 2
unfolding asked
asked-many p n l h g = rw (le-leb 1 n h, lt-leb n 1024 g)

pub asked-within : (p : Prices) (n : ℕ) (l : List ℕ) → 1 ≤ n → n ≤ 1024 → asked p n l ≡ function_asked p l
unfolding asked
asked-within p n l h g = rw (le-leb 1 n h, le-leb n 1024 g)

-- what the tables hold of a function that was read
pub known : (p : Prices) (x : Read Opened) (t f : List ℕ) → FunctionAt p x A.Yes t f → Checked t f × (in_range p ≡ true)
known p (refused j) t f w = absurd (let z : ◌≡◌ {A = ℕ} 0 1 = cc in omega arith)
known p (got x r) t f w = (w.3, w.4)

module _ (p : Prices) (s : List ℕ) (seed n : ℕ) (one two : List ℕ) where
  pub too_few : n < 1 → TriedBy (asked p n s) p seed n 2 one two one two
  too_few h = rw (asked-few p n s h) (refl, refl, refl)

  pub too_many : 1 ≤ n → 1024 < n → TriedBy (asked p n s) p seed n 2 one two one two
  too_many h g = rw (asked-many p n s h g) (refl, refl, refl)

  pub not_opened : (k : ℕ) (t f : List ℕ) → 1 ≤ n → n ≤ 1024 → FunctionAt p (function_asked p s) (A.Refused k) t f → TriedBy (asked p n s) p seed n k one two one two
  not_opened k t f h g w = rw (asked-within p n s h g) (go (function_asked p s) w)
    where
      go : (x : Read Opened) → FunctionAt p x (A.Refused k) t f → TriedBy x p seed n k one two one two
      go (refused j) w = (cc, refl, refl)
      go (got x r) w = absurd (let z : ◌≡◌ {A = ℕ} 0 1 = cc in omega arith)

  pub opened : (t f one' two' : List ℕ) → 1 ≤ n → n ≤ 1024 → FunctionAt p (function_asked p s) A.Yes t f → Both (reg_info_of t) (function_of f) p seed n one' two'
      → TriedBy (asked p n s) p seed n 0 one two one' two'
  opened t f one' two' h g w b = rw (asked-within p n s h g) (go (function_asked p s) w)
    where
      go : (x : Read Opened) → FunctionAt p x A.Yes t f → TriedBy x p seed n 0 one two one' two'
      go (refused j) w = absurd (let z : ◌≡◌ {A = ℕ} 0 1 = cc in omega arith)
      go (got x r) w = (refl, rw (sym w.1, sym w.2) b)

-- the second setting is tried of the same function
pub both-tried : (t f f₁ f₂ : List ℕ) (p : Prices) (seed n : ℕ) (one two : List ℕ) → SettingTried t f 1 p seed n f₁ one → SettingTried t f₁ 2 p seed n f₂ two → Both (reg_info_of t) (function_of f) p seed n one two
both-tried t f f₁ f₂ p seed n one two a b = (a.reported, subst (λ (x : Function). Reported two p (tried (reg_info_of t) x 2 n seed).answers) a.function b.reported)
