-- The banks of a target.
use Prim.Native.Nat.{ℕ, ◌+◌, ◌-◌, ◌*◌, ◌<◌, ◌≤◌}
use mathlib.Core.Path.{◌≡◌, refl, sym, ap, ◌∙◌}
use mathlib.Core.Bool.{Bool, true, false}
use mathlib.Core.List.{List, map}
use native.Mathlib.Omega.{arith}
use lib.Dec.{leb}
use lib.ListN.{get_or}
use borrow.Author.Tests.{le-leb, lt-leb}
use Rattle.entity.specs.Logic.{or, any_in, indices}
use Rattle.entity.proofs.Laws.{indices_step}
use Rattle.reginfo.specs.RegInfo.{Bank}
use Rattle.reginfo.specs.Table.{bank_at}
use Rattle.number.specs.Read.{Read, got, then}
use Rattle.number.specs.Number.{number}
use Rattle.number.specs.Answer.{NumberAt}
use Rattle.number.specs.declared.Number.TheVariants.{Is, Refused}
use Rattle.reading.specs.Reading.{between, times}
use Rattle.reading.specs.Answer.{ReadAt, NextAt}
use Rattle.reading.specs.declared.Next as X
use Rattle.reading.proofs.Laws.{any-number, number-refused, number-then, done}
use Rattle.job_target.specs.Target.{unknown_class}
use Rattle.job_target.specs.Held.{held, bank_held}
use Rattle.job_target.specs.Steps.{Keeps}
use Rattle.job_target.proofs.Table.{keeps_same, keeps_then, keeps-more, bank-kept}
use Rattle.job_target.proofs.Rows.{Rows, rows_start, rows_step, rows-refused, rows_end}

-- what is left of a bank
abbrev stack_of : ℕ → ℕ → List ℕ → Read Bank
stack_of size top q = then (number q) (λ stack p. got (record { size = size; top = held top; stack = held stack }) p)

abbrev top_of : ℕ → List ℕ → Read Bank
top_of size r = then (number r) (λ top q. stack_of size top q)

module _ (s : List ℕ) (at : ℕ) (x : Bank) (kept : Type 0) where
  pub no_size : (k : ℕ) → ReadAt (between 0 31) s at (Refused k) → NextAt bank_held s at x kept (X.TheVariants.Refused k)
  unfolding bank_held
  no_size k h = number-refused (between 0 31) top_of s at x kept k h

  module _ (size a : ℕ) (h : ReadAt (between 0 31) s at (Is size a)) where
    pub no_top : (k : ℕ) → NumberAt s a (Refused k) → NextAt bank_held s at x kept (X.TheVariants.Refused k)
    unfolding bank_held
    no_top k g = number-then (between 0 31) top_of s at x kept size a (X.TheVariants.Refused k) h (number-refused number (stack_of size) s a x kept k (any-number s a (Refused k) g))

    module _ (top d : ℕ) (g : NumberAt s a (Is top d)) where
      with-top : (r : X.Next) → NextAt (stack_of size top) s d x kept r → NextAt bank_held s at x kept r
      unfolding bank_held
      with-top r f = number-then (between 0 31) top_of s at x kept size a r h (number-then number (stack_of size) s a x kept top d r (any-number s a (Is top d) g) f)

      pub no_stack : (k : ℕ) → NumberAt s d (Refused k) → NextAt bank_held s at x kept (X.TheVariants.Refused k)
      no_stack k f = with-top (X.TheVariants.Refused k) (number-refused number (λ stack p. got (record { size = size; top = held top; stack = held stack }) p) s d x kept k (any-number s d (Refused k) f))

      pub bank-read : (stack next : ℕ) → NumberAt s d (Is stack next) → x ≡ record { size = size; top = held top; stack = held stack } → kept → NextAt bank_held s at x kept (X.TheVariants.At next)
      bank-read stack next f e k =
          with-top (X.TheVariants.At next)
          (number-then number (λ stack p. got (record { size = size; top = held top; stack = held stack }) p) s d x kept stack next (X.TheVariants.At next) (any-number s d (Is stack next) f)
          (done (λ p. got (record { size = size; top = held top; stack = held stack }) p) s next x kept (λ l. rw e) k))

-- ---- the rows
pub record BankRows (s : List ℕ) (from n : ℕ) (t₀ t : List ℕ) (at b left : ℕ) : Type 0 where
  pub rows : Rows bank_held bank_at s from n t at b left
  pub keeps : Keeps t₀ t 8704 32

module _ (s : List ℕ) (from n : ℕ) (few : n ≤ 8) (t₀ : List ℕ) where
  pub banks-start : BankRows s from n t₀ t₀ from 0 n
  banks-start = record { rows = rows_start bank_held bank_at s from n t₀; keeps = keeps_same t₀ 8704 32 }

  module _ (t : List ℕ) (at b left : ℕ) (h : BankRows s from n t₀ t at b left) (t' : List ℕ) where
    pub banks-step : (next : ℕ) → 0 < left → NextAt bank_held s at (bank_at t' b) (Keeps t t' (8704 + b * 4) 4) (X.TheVariants.At next) → BankRows s from n t₀ t' next (b + 1) (left - 1)
    banks-step next l g = record {
      rows = rows_step bank_held bank_at s from n t at b left h.rows t' (Keeps t t' (8704 + b * 4) 4) next l g (λ k z. bank-kept t t' b k g.past.2 z);
      keeps = keeps_then t₀ t t' 8704 32 h.keeps (keeps-more t t' (8704 + b * 4) 4 8704 32 (omega arith) (omega (arith, h.rows.sum)) g.past.2);
    }

    pub banks-refused : (k : ℕ) (y : List Bank) (also : Type 0) → 0 < left → NextAt bank_held s at (bank_at t' b) (Keeps t t' (8704 + b * 4) 4) (X.TheVariants.Refused k) → NextAt (times n bank_held) s from y also (X.TheVariants.Refused k)
    banks-refused k y also l g = rows-refused bank_held bank_at s from n t at b left h.rows t' (Keeps t t' (8704 + b * 4) 4) k y also l g

  pub banks-end : (t : List ℕ) (at b left : ℕ) → BankRows s from n t₀ t at b left → left ≤ 0 → NextAt (times n bank_held) s from (map (bank_at t) (indices 0 n)) (Keeps t₀ t 8704 32) (X.TheVariants.At at)
  banks-end t at b left h z = rows_end bank_held bank_at s from n t at b left (Keeps t₀ t 8704 32) h.rows z h.keeps

-- ---- a bank's class that there is not
module _ (t : List ℕ) (b n x : ℕ) (top : x ≡ get_or t (8705 + b * 4) 0) where
  pub top-unknown : n ≤ x → true ≡ unknown_class n (bank_at t b)
  unfolding bank_at
  top-unknown h = rw (← top, le-leb n x h)

  pub stack-unknown : x < n → (y : ℕ) → y ≡ get_or t (8706 + b * 4) 0 → leb n y ≡ unknown_class n (bank_at t b)
  unfolding bank_at
  stack-unknown h y e = rw (← top, ← e, lt-leb n x h)

any_step : (p : Bank → Bool) (t : List ℕ) (b left : ℕ) → 0 < left → any_in p (map (bank_at t) (indices b left)) ≡ or (p (bank_at t b)) (any_in p (map (bank_at t) (indices (b + 1) (left - 1))))
unfolding any_in
any_step p t b left h = ap (λ (l : List ℕ). any_in p (map (bank_at t) l)) (indices_step b left h)

pub record Searched (t : List ℕ) (banks n b left : ℕ) : Type 0 where
  pub same : any_in (unknown_class n) (map (bank_at t) (indices b left)) ≡ any_in (unknown_class n) (map (bank_at t) (indices 0 banks))
  pub sum : b + left ≡ banks

module _ (t : List ℕ) (banks n : ℕ) where
  pub search-start : Searched t banks n 0 banks
  search-start = record { same = refl; sum = omega arith }

  module _ (b left : ℕ) (h : Searched t banks n b left) where
    pub search-found : (x : Bool) → 0 < left → x ≡ unknown_class n (bank_at t b) → x ≡ true → true ≡ any_in (unknown_class n) (map (bank_at t) (indices 0 banks))
    search-found x l e z = let u : unknown_class n (bank_at t b) ≡ true = sym e ∙ z in rw u at (sym (any_step (unknown_class n) t b left l)) ∙ h.same

    pub search-on : (x : Bool) → 0 < left → x ≡ unknown_class n (bank_at t b) → x ≡ false → Searched t banks n (b + 1) (left - 1)
    search-on x l e z =
        let u : unknown_class n (bank_at t b) ≡ false = sym e ∙ z in
        record { same = rw u at (sym (any_step (unknown_class n) t b left l)) ∙ h.same; sum = omega (arith, h.sum) }

    pub search-end : left ≤ 0 → false ≡ any_in (unknown_class n) (map (bank_at t) (indices 0 banks))
    unfolding any_in indices
    search-end z = let e : left ≡ 0 = omega arith in rw e at h.same
