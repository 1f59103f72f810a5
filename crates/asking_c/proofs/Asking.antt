-- What `ask` and `take` answer, as counts and numbers.
use Prim.Native.Nat.{ℕ}
use mathlib.Core.Path.{◌≡◌, refl, ap}
use mathlib.Core.List.{List}
use native.Mathlib.Omega.{arith}
use Rattle.function.specs.Table.{function_of}
use Rattle.rules.specs.Patch.{Answer, refused, resolved}
use Rattle.slots.specs.Stacks.{stamp_of}
use Rattle.parallel_moves.specs.declared.asking.Asked.TheVariants as A
use Rattle.parallel_moves.specs.declared.asking.Preview.{Preview}
use Rattle.parallel_moves.specs.declared.asking.TakeAnswer.TheVariants as K
use Rattle.parallel_moves.specs.Answers.{Asks, Takes}
use Rattle.asking_c.specs.Asked.{AskedAs, TakenAs}

module _ (f : List ℕ) (made position stamp : ℕ) (list list' cache slots' : List ℕ) where
  pub gave-preview : (r : Answer) (n : ℕ) (a : Preview) → Asks f (function_of f).limit r (A.Ready n a) list list' cache slots'
      → AskedAs f r n 0 made a.made position a.position stamp a.stamp list list' cache slots'
  gave-preview (refused k) n a h = absurd (let z : ◌≡◌ {A = ℕ} 0 1 = cc in omega arith)
  gave-preview (resolved es c i) n a h =
      let e : ◌≡◌ {A = Preview} a (record { made = c.made; position = i; stamp = stamp_of cache }) = cc in
      ((cc), refl, ap (λ (a : Preview). a.made) e, ap (λ (a : Preview). a.position) e, ap (λ (a : Preview). a.stamp) e, h.1, h.2, h.3)

  pub gave-number : (r : Answer) (k : ℕ) → Asks f (function_of f).limit r (A.Refused k) list list' cache slots' → AskedAs f r 0 k made made position position stamp stamp list list' cache slots'
  gave-number (refused n) k h = let e : k ≡ n = cc in (refl, e, refl, refl, refl, h.1, tt)
  gave-number (resolved es c i) k h = absurd (let z : ◌≡◌ {A = ℕ} 0 1 = cc in omega arith)

module _ (a : Preview) (slots cache cache' : List ℕ) where
  pub was-taken : Takes a slots cache K.Yes cache' → TakenAs a.made a.stamp slots cache 0 cache'
  was-taken h = record { same = λ e. (refl, (h.same e).1); other = λ n. absurd (let q = (h.other n).0 in let z : ◌≡◌ {A = ℕ} 0 1 = cc in omega arith) }

  pub was-late : (k : ℕ) → Takes a slots cache (K.Refused k) cache' → TakenAs a.made a.stamp slots cache k cache'
  was-late k h =
      record {
        same = λ e. absurd (let q = (h.same e).0 in let z : ◌≡◌ {A = ℕ} 0 1 = cc in omega arith);
        other = λ n. let q = (h.other n).0 in let z : k ≡ 20 = cc in (z, (h.other n).1);
      }
