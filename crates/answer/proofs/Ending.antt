-- How a whole answer ended, read back from what `answer_job` answered.
use Prim.Native.Nat.{ℕ}
use mathlib.Core.Path.{◌≡◌, refl}
use mathlib.Core.Option.{Option, none, some}
use native.Mathlib.Omega.{arith}
use Rattle.answer.specs.Words.{number_of}
use Rattle.answer.specs.declared.Whole.TheVariants.{Answered, Refused}
use Rattle.answer.specs.Whole.{ended}

pub none-refused : (n m : ℕ) (o : Option ℕ) → Answered n ≡ ended o m → (n ≡ m) × (0 ≡ number_of o)
none-refused n m none e = (cc, refl)
none-refused n m (some k) e = absurd (let z : ◌≡◌ {A = ℕ} 0 1 = cc in omega arith)

pub one-refused : (k n m : ℕ) (o : Option ℕ) → Refused k n ≡ ended o m → (n ≡ m) × (k ≡ number_of o)
one-refused k n m none e = absurd (let z : ◌≡◌ {A = ℕ} 0 1 = cc in omega arith)
one-refused k n m (some j) e = (cc, cc)
