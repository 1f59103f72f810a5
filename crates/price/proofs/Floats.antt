-- Whole numbers below 2^53 as floats: each is exact, and so is a product that stays below.
use Prim.Native.Nat.{ℕ, ◌*◌, ◌^◌, ◌<◌}
use native.Mathlib.Nat.{le_of_lt, lt_of_lt_of_le, lt_of_le_of_lt, zero-lt-suc, mul-one, mul-pos, mul-mul-mul_comm, mul-le-mul_left, mul-lt-mul_of_pos_right}
use mathlib.Core.Path.{◌≡◌, sym, ap, ◌∙◌, subst}
use mathlib.Core.Bool.{Bool, false}
use lib.Dec.{T, le→leb, lit≤}
use lib.IntN.{pos}
use lib.Pow.{pow_pos}
use lib.Ieee.{Float, fin, Format, binary64, up, down, unlike, round, mul, of_int, in_float}
use lib.Ieee.Fits.{down_pos}
use lib.Ieee.Exact.{HasValue}
use lib.Ieee.Back.{round_whole, unsigned_back}
use lib.Ieee.Scale.{round_same}
use Rattle.price.specs.Exact.{Exactly}

-- the cast of a whole number up to 2^53 loses nothing
pub in-float : (n : ℕ) → n < 2 ^ 53 → T (in_float binary64 (pos n))
unfolding in_float
in-float n h = le→leb n (2 ^ 53) (le_of_lt h)

pub of-exact : (n : ℕ) → n < 2 ^ 53 → Exactly (of_int binary64 (pos n)) n
unfolding of_int
of-exact n h =
    record {
      value = round_whole binary64 false n (le_of_lt h);
      below = h;
      casts = (unsigned_back binary64 64 n (in-float n h) (lt_of_lt_of_le h (lit≤ tt))).0;
      back = (unsigned_back binary64 64 n (in-float n h) (lt_of_lt_of_le h (lit≤ tt))).1;
    }

-- two whole numbers multiplied: their product, rounded once
mul-value : (f : Format) (x y : Float) (a b : ℕ) → HasValue x false a 1 → HasValue y false b 1 → mul f x y ≡ round f false (a * b) 1
unfolding mul
mul-value f (fin s m e) (lib.Ieee.inf _) a b v w = elim w [ ]
mul-value f (fin s m e) lib.Ieee.nan a b v w = elim w [ ]
mul-value f (lib.Ieee.inf _) y a b v w = elim v [ ]
mul-value f lib.Ieee.nan y a b v w = elim v [ ]
mul-value f (fin s m e) (fin t n d) a b v w =
    ap (λ (r : Bool). round f (unlike r t) (m * up e * (n * up d)) (down e * down d)) v.0
    ∙ ap (λ (r : Bool). round f (unlike false r) (m * up e * (n * up d)) (down e * down d)) w.0
    ∙ round_same f false (m * up e * (n * up d)) (down e * down d) (a * b) 1 (mul-pos (down_pos e) (down_pos d)) (zero-lt-suc 0)
    (mul-one (m * up e * (n * up d))
    ∙ ap (λ (x : ℕ). x * (n * up d)) (sym (mul-one (m * up e)) ∙ v.1)
    ∙ ap (λ (x : ℕ). a * down e * x) (sym (mul-one (n * up d)) ∙ w.1)
    ∙ mul-mul-mul_comm a (down e) b (down d))

pub mul-exact : (x y : Float) (a b : ℕ) → Exactly x a → Exactly y b → a * b < 2 ^ 53 → Exactly (mul binary64 x y) (a * b)
unfolding of_int
mul-exact x y a b v w h = subst (λ (z : Float). Exactly z (a * b)) (sym (mul-value binary64 x y a b v.value w.value)) (of-exact (a * b) h)

-- two numbers below 2^26
pub wider : {n : ℕ} → n < 2 ^ 26 → n < 2 ^ 53
wider h = lt_of_lt_of_le h (lit≤ tt)

pub below : {a b : ℕ} → a < 2 ^ 26 → b < 2 ^ 26 → a * b < 2 ^ 53
below {a} {b} ha hb = lt_of_lt_of_le (lt_of_le_of_lt (mul-le-mul_left a (le_of_lt hb)) (mul-lt-mul_of_pos_right ha (pow_pos 26))) (lit≤ tt)
