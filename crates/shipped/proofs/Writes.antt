-- What a table holds after writes.
use Prim.Native.Nat.{ℕ, suc, ◌+◌, ◌-◌, ◌*◌, ◌/◌, ◌%◌, ◌<◌, ◌≤◌}
use mathlib.Core.Path.{◌≡◌, refl, ap, ◌∙◌}
use mathlib.Core.List.{List, [], ◌∷◌, ◌++◌}
use native.Mathlib.Omega.{arith}
use lib.ListN.{length, get_or, set, drop, drop_of_length-le}
use Rattle.entity.proofs.Laws.{drop-step}
use Rattle.shipped.specs.Writes.{Write, written, rising, copied, reg_writes, regs_writes, class_writes, bank_writes, shipped_writes}

pub written-append : (t : List ℕ) (a b : List Write) → written t (a ++ b) ≡ written (written t a) b
unfolding written
written-append t [] b = refl
written-append t (w ∷ a) b = written-append (set t w.cell w.word) a b

-- one number more, one register more
pub rising_step : (t : List ℕ) (i x n : ℕ) → 0 < n → written t (rising i x n) ≡ written (set t i x) (rising (i + 1) (x + 1) (n - 1))
unfolding written rising
rising_step t i x n h = let l : n ≡ suc (n - 1) = omega arith in ap (λ (m : ℕ). written t (rising i x m)) l

-- one number of a list more
pub copied-step : (t : List ℕ) (i j : ℕ) (l : List ℕ) → j < length l → written t (copied i (drop j l)) ≡ written (set t i (get_or l j 0)) (copied (i + 1) (drop (j + 1) l))
unfolding written copied
copied-step t i j l h = rw (drop-step l j 0 h)

pub copied_none : (t : List ℕ) (i j : ℕ) (l : List ℕ) → length l ≤ j → written t (copied i (drop j l)) ≡ t
unfolding written copied
copied_none t i j l h = rw (drop_of_length-le l {i = j} h)

pub regs-step : (t : List ℕ) (r n : ℕ) → 0 < n → written t (regs_writes r n) ≡ written (written t (reg_writes r)) (regs_writes (r + 1) (n - 1))
unfolding regs_writes
regs-step t r n h =
    let l : n ≡ suc (n - 1) = omega arith in
    ap (λ (m : ℕ). written t (regs_writes r m)) l ∙ written-append t (reg_writes r) (regs_writes (r + 1) (n - 1))

-- a class and a bank, part by part
pub class-written : (t : List ℕ) (c r n : ℕ) → written t (class_writes c r n) ≡ written (written (written (set (set (set (set t (8192 + c * 8) (c / 2)) (8193 + c * 8) (1 - c % 2)) (8194 + c * 8) n) (8195 + c * 8) n) (rising (9216 + c * 512) r n)) (rising (41984 + c * 512) r n)) (rising (74752 + c * 512 + r) 0 n)
unfolding written class_writes
class-written t c r n = written-append _ (rising (9216 + c * 512) r n) _ ∙ written-append _ (rising (41984 + c * 512) r n) _

pub bank-written : (t : List ℕ) (b r n : ℕ) → written t (bank_writes b r n) ≡ written (written (set (set (set t (8704 + b * 4) (2 + b)) (8705 + b * 4) (b * 2)) (8706 + b * 4) (b * 2 + 1)) (class_writes (b * 2) r n)) (class_writes (b * 2 + 1) r n)
unfolding written bank_writes
bank-written t b r n = written-append _ (class_writes (b * 2) r n) _

pub shipped-written : (t : List ℕ) → written t shipped_writes ≡ written (written (written (written (set (set (set (set t 8736 32) 8737 3) 8738 56) 8739 6) (bank_writes 0 0 32)) (bank_writes 1 32 16)) (bank_writes 2 48 8)) (regs_writes 0 56)
unfolding written shipped_writes
shipped-written t = written-append _ (bank_writes 0 0 32) _ ∙ written-append _ (bank_writes 1 32 16) _ ∙ written-append _ (bank_writes 2 48 8) _
