-- The bytes of a job handed out.
use Prim.Native.Nat.{ℕ, ◌+◌, ◌<◌, ◌≤◌}
use mathlib.Core.Path.{◌≡◌, refl, ap, subst}
use mathlib.Core.List.{List}
use mathlib.Core.Option.{none, some}
use native.Mathlib.Omega.{arith}
use lib.ListN.{length, take}
use borrow.Author.Tests.{lt-ltb, le-ltb}
use Rattle.function.specs.Function.{is_setting}
use Rattle.print.specs.Put.{Room}
use Rattle.print.specs.Put as print
use Rattle.number.specs.Read.{refused}
use Rattle.job_rules.specs.Job.{opening}
use Rattle.std.specs.Prelude.{Option, Some, None}
use Rattle.job_bytes.specs.Puts.{Puts}
use Rattle.job_numbers.specs.Numbers.{bytes_of, read_job, number_of, written}
use Rattle.job_writer.specs.declared.Written.{Written}
use Rattle.job_writer.specs.declared.Written.TheVariants.{Bytes, Refused}
use Rattle.job_writer.specs.Steps.{handed, settled, Within, WrittenAs}

-- ---- 18, before anything is written
pub no_room : (l out : List ℕ) → length out < length l → WrittenAs (handed l (length out)) out out (Refused 18)
no_room l out h = rw (lt-ltb (length out) (length l) h) (refl, refl)

pub front-room : (l out : List ℕ) → length l ≤ length out → Room out 0 l
front-room l out h = record { fits = omega arith }

pub handed_out : (l out out' : List ℕ) (r : ℕ) → length l ≤ length out → print.Put out out' 0 l r → WrittenAs (handed l (length out)) out out' (Bytes r)
handed_out l out out' r h p =
    let z : 0 + length l ≡ length l = omega arith in
    let n : r ≡ length l = omega (arith, p.next) in
    rw (le-ltb (length out) (length l) h) (ap Bytes n, h, rw z at p.stands)

-- ---- the reader's number before that
pub reader-refuses : (l out : List ℕ) (k : ℕ) → some k ≡ number_of (read_job l) → WrittenAs (settled l (length out)) out out (Refused k)
reader-refuses l out k e = rw (← e) (refl, refl)

pub reader-accepts : (l out out' : List ℕ) (r : Written) → none ≡ number_of (read_job l) → WrittenAs (handed l (length out)) out out' r
    → WrittenAs (settled l (length out)) out out' r
reader-accepts l out out' r e h = rw (← e) h

-- ---- over 65,536 bytes, before that
too_long : (l : List ℕ) → 65536 < length l → read_job l ≡ refused 2
unfolding read_job opening is_setting
too_long l h = rw (lt-ltb 65536 (length l) h)

module _ (ns work₀ work out : List ℕ) where
  pub over-is-2 : (p : Option ℕ) → Puts work₀ 0 (bytes_of ns) work p → p ≡ None → WrittenAs (written ns (length out)) out out (Refused 2)
  unfolding written
  over-is-2 p h e = rw (too_long (bytes_of ns) (h.over e)) (refl, refl)

  pub all_settled : (p : Option ℕ) (n : ℕ) (out' : List ℕ) (r : Written) → Puts work₀ 0 (bytes_of ns) work p → p ≡ Some n
      → WrittenAs (settled (take n work) (length out)) out out' r → WrittenAs (written ns (length out)) out out' r
  unfolding written
  all_settled p n out' r h e w = rw (h.stand n e) at w

pub put-within : (room : ℕ) (ns work₀ work : List ℕ) (p : Option ℕ) → room ≡ 65536 → Puts work₀ 0 (bytes_of ns) work p → Within room p
put-within room ns work₀ work (Some n) e h = rw e (h.within n refl (omega arith))
put-within room ns work₀ work None e h = tt

pub within-at : (room : ℕ) (p : Option ℕ) (n : ℕ) → Within room p → p ≡ Some n → n ≤ room
within-at room p n h e = subst (Within room) e h
