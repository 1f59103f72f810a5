-- What `write_numbers` answers, as a length and a number.
use Prim.Native.Nat.{ℕ}
use mathlib.Core.Path.{◌≡◌, refl}
use mathlib.Core.List.{List}
use native.Mathlib.Omega.{arith}
use lib.ListN.{length}
use Rattle.job_numbers.specs.Numbers.{Written, wrote, not_written}
use Rattle.job_writer.specs.declared.Written.TheVariants.{Bytes, Refused}
use Rattle.job_writer.specs.Steps.{WrittenAs}
use Rattle.job_writer_c.specs.Told.{ToldAs}

pub length-told : (x : Written) (out out' : List ℕ) (n : ℕ) → WrittenAs x out out' (Bytes n) → ToldAs x n 0 out out'
length-told (wrote l) out out' n w = let e : n ≡ length l = cc in (e, refl, w.1, w.2)
length-told (not_written k) out out' n w = absurd (let z : ◌≡◌ {A = ℕ} 0 1 = cc in omega arith)

pub refusal-told : (x : Written) (out out' : List ℕ) (k : ℕ) → WrittenAs x out out' (Refused k) → ToldAs x 0 k out out'
refusal-told (wrote l) out out' k w = absurd (let z : ◌≡◌ {A = ℕ} 0 1 = cc in omega arith)
refusal-told (not_written j) out out' k w = let e : k ≡ j = cc in (refl, e, w.1)
