-- What a call by groups answers, as counts and numbers.
use Prim.Native.Nat.{ℕ}
use mathlib.Core.Path.{◌≡◌, refl}
use mathlib.Core.List.{List}
use native.Mathlib.Omega.{arith}
use Rattle.rules.specs.Patch.{Answer, refused, resolved}
use Rattle.parallel_moves.specs.declared.Resolved.TheVariants as R
use Rattle.parallel_moves.specs.Answers.{Gives}
use Rattle.groups_c.specs.Called.{CalledAs}

module _ (f : List ℕ) (position : ℕ) (list list' cache cache' : List ℕ) where
  pub gave-edits : (a : Answer) (n m : ℕ) → Gives f a (R.Edits n m) list list' cache cache' → CalledAs f a n 0 position m list list' cache cache'
  gave-edits (refused k) n m h = absurd (let z : ◌≡◌ {A = ℕ} 0 1 = cc in omega arith)
  gave-edits (resolved es c i) n m h = (h.1, refl, h.6, h.2, h.3, h.4, h.5, h.7)

  pub gave-number : (a : Answer) (k : ℕ) → Gives f a (R.Refused k) list list' cache cache' → CalledAs f a 0 k position position list list' cache cache'
  gave-number (refused n) k h = let e : k ≡ n = cc in (refl, e, refl, h.1, h.2)
  gave-number (resolved es c i) k h = absurd (let z : ◌≡◌ {A = ℕ} 0 1 = cc in omega arith)
