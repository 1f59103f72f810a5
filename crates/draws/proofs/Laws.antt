use Rattle.std.proofs.Common.{◌≡◌, ℕ, zero, suc, ◌+◌, ◌-◌, ◌*◌, ◌/◌, ◌%◌, ◌<◌, ◌≤◌, sym, refl, ap, ◌∙◌, mod-lt, mod-eq_of_lt, arith}
use native.Mathlib.Nat.{add-mul-mod_self_right, mul-mod_left, mod-add-div'}
use Rattle.draws.specs.Draws.{after, NoDrawRepeats, EveryNumberDrawn}

-- The step is odd: 340,573,321 times it is 1 more than a multiple of 2^32 (which stands here as a numeral, for omega).
one_more : (s k x : ℕ) → x ≡ (s + k * 2654435769) % 4294967296 → (x + 2654435769) % 4294967296 ≡ (s + suc k * 2654435769) % 4294967296
one_more s k x h = omega arith

pub after_is : (s k : ℕ) → s < 4294967296 → after s k ≡ (s + k * 2654435769) % 4294967296
unfolding after
after_is s zero h = omega arith
after_is s (suc k) h = one_more s k (after s k) (after_is s k h)

-- what is added leaves no remainder
whole : (x y : ℕ) → x % 4294967296 ≡ (x + y) % 4294967296 → y ≡ ((x + y) / 4294967296 - x / 4294967296) * 4294967296
whole x y h = omega arith

-- 340,573,321 times the step is 210,485,888 times 2^32 and 1 more
turned : (d t : ℕ) → d * 2654435769 ≡ t * 4294967296 → d + 210485888 * d * 4294967296 ≡ t * 340573321 * 4294967296
turned d t h = omega arith

none : (d : ℕ) → 0 < d → d ≡ 0 → ⊥
none d p h = omega arith

apart : (x d : ℕ) → 0 < d → d < 4294967296 → x % 4294967296 ≡ (x + d * 2654435769) % 4294967296 → ⊥
apart x d p q h =
    let t = (x + d * 2654435769) / 4294967296 - x / 4294967296 in
    let e = turned d t (whole x (d * 2654435769) h) in
    let z : d % 4294967296 ≡ 0 = sym (add-mul-mod_self_right d (210485888 * d) 4294967296) ∙ ap (λ (n : ℕ). n % 4294967296) e ∙ mul-mod_left (t * 340573321) 4294967296 in
    none d p (sym (mod-eq_of_lt q) ∙ z)

shifted : (s i d : ℕ) → s + (i + d) * 2654435769 ≡ s + i * 2654435769 + d * 2654435769
shifted s i d = omega arith

pub no-draw-repeats : NoDrawRepeats
no-draw-repeats s i j h l g e =
    let d = j - i in
    let j-is : j ≡ i + d = omega arith in
    apart (s + i * 2654435769) d (omega arith) (omega arith)
    (sym (after_is s i h) ∙ e ∙ after_is s j h ∙ ap (λ (k : ℕ). (s + k * 2654435769) % 4294967296) j-is ∙ ap (λ (n : ℕ). n % 4294967296) (shifted s i d))

split : (a q r : ℕ) → a ≡ r + q * 4294967296 → a * 2654435769 ≡ r * 2654435769 + q * 2654435769 * 4294967296
split a q r h = omega arith

-- a remainder may be taken before a product
mod-mul : (a : ℕ) → a % 4294967296 * 2654435769 % 4294967296 ≡ a * 2654435769 % 4294967296
mod-mul a =
    sym (ap (λ (n : ℕ). n % 4294967296) (split a (a / 4294967296) (a % 4294967296) (sym (mod-add-div' a 4294967296)))
    ∙ add-mul-mod_self_right (a % 4294967296 * 2654435769) (a / 4294967296 * 2654435769) 4294967296)

undone : (w : ℕ) → w * 340573321 * 2654435769 ≡ w + 210485888 * w * 4294967296
undone w = omega arith

reached : (w : ℕ) → w * 340573321 % 4294967296 * 2654435769 % 4294967296 ≡ w % 4294967296
reached w = mod-mul (w * 340573321) ∙ ap (λ (n : ℕ). n % 4294967296) (undone w) ∙ add-mul-mod_self_right w (210485888 * w) 4294967296

-- from the seed s, as many draws lead to n as lead from 0 to what lies between; none of them is a whole turn
turn : ℕ → ℕ
turn zero = 4294967296
turn (suc k) = suc k

turn-fits : (k : ℕ) → k < 4294967296 → (1 ≤ turn k) × (turn k ≤ 4294967296)
unfolding turn
turn-fits zero h = (omega arith, omega arith)
turn-fits (suc k) h = (omega arith, omega arith)

turn_is : (s k : ℕ) → (s + turn k * 2654435769) % 4294967296 ≡ (s + k * 2654435769) % 4294967296
unfolding turn
turn_is s zero = omega arith
turn_is s (suc k) = refl

lands : (s n w k : ℕ) → s < 4294967296 → n < 4294967296 → w ≡ n + (4294967296 - s) → k * 2654435769 % 4294967296 ≡ w % 4294967296 → (s + k * 2654435769) % 4294967296 ≡ n
lands s n w k h g e r = omega arith

pub every-number-drawn : EveryNumberDrawn
every-number-drawn s n h g =
    let w = n + (4294967296 - s) in
    let k = w * 340573321 % 4294967296 in
    let f = turn-fits k (mod-lt (w * 340573321) (omega arith)) in
    (turn k, f.0, f.1, after_is s (turn k) h ∙ turn_is s k ∙ lands s n w k h g refl (reached w))
