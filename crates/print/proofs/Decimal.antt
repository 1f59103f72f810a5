-- `decimal` is right: it reads back, has no leading zero, and is as long as the number is large.
use Prim.Native.Nat.{ℕ, zero, suc, ◌+◌, ◌-◌, ◌*◌, ◌/◌, ◌%◌, ◌^◌, ◌<◌, ◌≤◌}
use mathlib.Core.Path.{◌≡◌, refl, ◌∙◌}
use mathlib.Core.List.{List, [], ◌∷◌, ◌++◌}
use mathlib.Core.Bool.{Bool, true, false}
use native.Mathlib.Omega.{arith}
use native.Mathlib.Nat.{pow-suc, one-le-pow}
use lib.Dec.{ltb}
use lib.ListN.{length, get_or, length-append, get_or-append}
use borrow.Author.Tests.{ltb-true, ltb-false, lt-ltb}
use Rattle.io.specs.Digits.{last_digits, IsDigitCount, hex_digit_ascii}
use Rattle.print.specs.Text.{digits_of, decimal}
use Rattle.print.specs.Spelled.{read_on, read_decimal, Digits, Spelled}

digits_step : (most x : ℕ) → 0 < x → digits_of (suc most) x ≡ digits_of most (x / 10) ++ ((48 + x % 10) ∷ [])
unfolding digits_of
digits_step most zero h = absurd (omega arith)
digits_step most (suc x) h = refl

no-digits : (most : ℕ) → digits_of most 0 ≡ []
unfolding digits_of
no-digits zero = refl
no-digits (suc most) = refl

-- what holds of one digit, and of one digit more, holds of every number's digits
module _ (P : ℕ → List ℕ → Type 0) (one : (x : ℕ) → x < 10 → P x ((48 + x) ∷ [])) (more : (x : ℕ) (l : List ℕ) → 10 ≤ x → P (x / 10) l → P x (l ++ ((48 + x % 10) ∷ []))) where
  last-digit : (most x : ℕ) (b : Bool) → ltb x 10 ≡ b → (10 ≤ x → P (x / 10) (digits_of most (x / 10))) → P x (digits_of most (x / 10) ++ ((48 + x % 10) ∷ []))
  last-digit most x true e next =
      let h : x < 10 = ltb-true x 10 e in
      let z : x / 10 ≡ 0 = omega arith in
      let d : x % 10 ≡ x = omega arith in
      rw (z, no-digits most, d) (one x h)
  last-digit most x false e next = let h : 10 ≤ x = ltb-false x 10 e in more x (digits_of most (x / 10)) h (next h)

  of-digits : (most x : ℕ) → 0 < x → x ≤ most → P x (digits_of most x)
  of-digits zero x h m = absurd (omega arith)
  of-digits (suc most) x h m = rw (digits_step most x h) (last-digit most x (ltb x 10) refl (λ far. of-digits most (x / 10) (omega arith) (omega arith)))

  pub of-decimal : (x : ℕ) → P x (decimal x)
  unfolding decimal
  of-decimal x = last-digit x x (ltb x 10) refl (λ far. of-digits x (x / 10) (omega arith) (omega arith))

-- ---- the number it is
read-append : (x : ℕ) (l m : List ℕ) → read_on x (l ++ m) ≡ read_on (read_on x l) m
unfolding read_on
read-append x [] m = refl
read-append x (d ∷ l) m = read-append (x * 10 + (d - 48)) l m

pub read_back : (x : ℕ) → read_decimal (decimal x) ≡ x
unfolding read_on
read_back =
    of-decimal (λ x l. read_decimal l ≡ x)
    (λ x h. omega arith)
    (λ x l h e. read-append 0 l ((48 + x % 10) ∷ []) ∙ rw e (omega arith))

-- ---- no leading zero
record Led (x : ℕ) (l : List ℕ) : Type 0 where
  pub some : 0 < length l
  pub no_zero : 0 < x → 48 < get_or l 0 0

led : (x : ℕ) → Led x (decimal x)
led =
    of-decimal Led
    (λ x h. record { some = omega arith; no_zero = λ p. omega arith })
    (λ x l h e. record { some = rw (length-append l ((48 + x % 10) ∷ [])) (omega (arith, e.some)); no_zero = λ p. rw (get_or-append l ((48 + x % 10) ∷ []) 0 0 e.some) (e.no_zero (omega arith)) })

nought : (x : ℕ) → x ≡ 0 → decimal x ≡ 48 ∷ []
unfolding decimal digits_of
nought x e = rw e

-- ---- every byte is a digit
digits_append : (l m : List ℕ) → Digits l → Digits m → Digits (l ++ m)
digits_append [] m a b = b
digits_append (d ∷ l) m a b = (a.0, a.1, digits_append l m a.2 b)

all_digits : (x : ℕ) → Digits (decimal x)
all_digits =
    of-decimal (λ x l. Digits l)
    (λ x h. (omega arith, omega arith, tt))
    (λ x l h e. digits_append l ((48 + x % 10) ∷ []) e (omega arith, omega arith, tt))

pub right : (x : ℕ) → Spelled x (decimal x)
right x = record { digits = all_digits x; reads-back = read_back x; no-leading-zero = (led x).no_zero; nought = nought x }

-- ---- how long it is
pub short : (x k : ℕ) → x < 10 ^ suc k → length (decimal x) ≤ suc k
short =
    of-decimal (λ x l. (k : ℕ) → x < 10 ^ suc k → length l ≤ suc k)
    (λ x h k p. omega arith)
    more
  where
    more : (x : ℕ) (l : List ℕ) → 10 ≤ x → ((k : ℕ) → x / 10 < 10 ^ suc k → length l ≤ suc k) → (k : ℕ) → x < 10 ^ suc k → length (l ++ ((48 + x % 10) ∷ [])) ≤ suc k
    more x l h e zero p = absurd (omega (arith, pow-suc 10 0))
    more x l h e (suc k) p = rw (length-append l ((48 + x % 10) ∷ [])) (omega (arith, e k (omega (arith, pow-suc 10 (suc k)))))

-- ---- as `io::decimal` spells it
one_less : (j : ℕ) → 10 ^ (suc j - 1) ≡ 10 ^ j
one_less j = let m : suc j - 1 ≡ j = omega arith in rw m

as-digit : (d : ℕ) → d < 10 → hex_digit_ascii d ≡ 48 + d
as-digit d h = rw (lt-ltb d 10 h)

pub spelled : (x k : ℕ) → IsDigitCount 10 1 x k → last_digits 10 k x ≡ decimal x
spelled = of-decimal (λ x l. (k : ℕ) → IsDigitCount 10 1 x k → last_digits 10 k x ≡ l) one more
  where
    one : (x : ℕ) → x < 10 → (k : ℕ) → IsDigitCount 10 1 x k → last_digits 10 k x ≡ (48 + x) ∷ []
    one x h zero f = absurd (omega arith)
    one x h (suc zero) f = let d : x % 10 ≡ x = omega arith in rw (d, as-digit x h)
    one x h (suc (suc j)) f = absurd (omega (arith, f.2 (omega arith), one_less (suc j), pow-suc 10 j, one-le-pow j 10 (omega arith)))

    more : (x : ℕ) (l : List ℕ) → 10 ≤ x → ((k : ℕ) → IsDigitCount 10 1 (x / 10) k → last_digits 10 k (x / 10) ≡ l) → (k : ℕ) → IsDigitCount 10 1 x k → last_digits 10 k x ≡ l ++ ((48 + x % 10) ∷ [])
    more x l h e zero f = absurd (omega arith)
    more x l h e (suc zero) f = absurd (omega (arith, pow-suc 10 0))
    more x l h e (suc (suc j)) f =
        let fewer : IsDigitCount 10 1 (x / 10) (suc j) = (omega arith, omega (arith, f.1, pow-suc 10 (suc j)), λ p. omega (arith, f.2 (omega arith), one_less (suc j), one_less j, pow-suc 10 j)) in
        rw (e (suc j) fewer, as-digit (x % 10) (omega arith))
