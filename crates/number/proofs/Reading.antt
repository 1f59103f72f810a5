-- Reading group by group: what the groups so far come to, and what is left to read.
use Prim.Native.Nat.{ℕ, zero, suc, ◌+◌, ◌-◌, ◌*◌, ◌%◌, ◌^◌, ◌<◌, ◌≤◌}
use mathlib.Core.Path.{◌≡◌, refl, sym, ap, ◌∙◌}
use mathlib.Core.Bool.{Bool, true, false}
use mathlib.Core.List.{List, [], ◌∷◌}
use native.Mathlib.Omega.{arith}
use native.Mathlib.Nat.{mul_assoc, mul-le-mul_right, le-mul_of_pos_right, one-le-pow, pow-succ'}
use lib.Dec.{eqb, ltb}
use lib.ListN.{length, get_or, drop, drop_of_length-le}
use borrow.Author.Tests.{lt-ltb, le-ltb, eqb-false, ne_eqb}
use Rattle.entity.specs.Logic.{pick}
use Rattle.entity.proofs.Laws.{drop-step}
use Rattle.number.specs.Read.{Read, got, refused, then}
use Rattle.number.specs.Number.{joined, groups, below, number}
use Rattle.number.specs.Answer.{NumberAt}
use Rattle.number.specs.declared.Number.TheVariants.{Is, Refused}

-- after groups that come to n, at most k more, the first of which counts w times
unfoldable pub further : ℕ → ℕ → ℕ → List ℕ → Read ℕ
further n w k l = then (groups k l) (λ m r. pick (eqb m 0) (refused 1) (below (n + m * w) r))

first : (b : ℕ) (l : List ℕ) → 128 ≤ b → further (b % 128) 128 4 l ≡ number (b ∷ l)
unfolding further groups number
first b l h = go (groups 4 l) ∙ rw (le-ltb b 128 h)
  where
    high : (t : Bool) (m : ℕ) (r : List ℕ) → pick t (refused 1) (below m r) ≡ then (pick t (refused 1) (got m r)) below
    high true m r = refl
    high false m r = refl

    go : (x : Read ℕ) → then x (λ m r. pick (eqb m 0) (refused 1) (below (b % 128 + m * 128) r)) ≡ then (then x (joined b)) below
    go (got m r) = high (eqb m 0) (b % 128 + m * 128) r
    go (refused k) = refl

next_one : (n w k b : ℕ) (l : List ℕ) → 128 ≤ b → further (n + b % 128 * w) (w * 128) k l ≡ further n w (suc k) (b ∷ l)
unfolding further groups
next_one n w k b l h = go (groups k l) ∙ rw (le-ltb b 128 h)
  where
    high : (t : Bool) (m : ℕ) (r : List ℕ) → eqb m 0 ≡ t → pick t (refused 1) (below (n + b % 128 * w + m * (w * 128)) r) ≡ then (pick t (refused 1) (got (b % 128 + m * 128) r)) (λ m r. pick (eqb m 0) (refused 1) (below (n + m * w) r))
    high true m r t = refl
    high false m r t =
        let z : m ≡ 0 → ⊥ = eqb-false m 0 t in
        let e : n + b % 128 * w + m * (w * 128) ≡ n + (b % 128 + m * 128) * w = omega arith in
        rw (ne_eqb (b % 128 + m * 128) 0 (λ q. omega arith), e)

    go : (x : Read ℕ) → then x (λ m r. pick (eqb m 0) (refused 1) (below (n + b % 128 * w + m * (w * 128)) r)) ≡ then (then x (joined b)) (λ m r. pick (eqb m 0) (refused 1) (below (n + m * w) r))
    go (got m r) = high (eqb m 0) m r refl
    go (refused k) = refl

last_one : (n w k b : ℕ) (l : List ℕ) → b < 128 → pick (eqb b 0) (refused 1) (below (n + b % 128 * w) l) ≡ further n w (suc k) (b ∷ l)
unfolding further groups
last_one n w k b l h =
    let e : b % 128 ≡ b = omega arith in
    rw (e, lt-ltb b 128 h)

nothing_left : (n w k : ℕ) → refused 1 ≡ further n w k []
unfolding further groups
nothing_left n w zero = refl
nothing_left n w (suc k) = refl

too_many : (n w : ℕ) (l : List ℕ) → refused 1 ≡ further n w 0 l
unfolding further groups
too_many n w l = refl

-- ---- no byte, and one byte
refuses : (s : List ℕ) (at : ℕ) → refused 1 ≡ number (drop at s) → NumberAt s at (Refused 1)
refuses s at e = record { reads = e; onward = tt }

pub past_end : (s : List ℕ) (at : ℕ) → length s ≤ at → NumberAt s at (Refused 1)
unfolding groups number
past_end s at h = refuses s at (rw (drop_of_length-le s h))

pub one_byte : (s : List ℕ) (at : ℕ) → at < length s → get_or s at 0 < 128 → NumberAt s at (Is (get_or s at 0) (at + 1))
unfolding groups number
one_byte s at h b = record {
  reads = rw (drop-step s at 0 h, lt-ltb (get_or s at 0) 128 b, lt-ltb (get_or s at 0) 4294967296 (omega arith));
  onward = (omega arith, omega arith);
}

-- ---- the loop, at an offset `next` of the bytes, with `left` groups allowed
pub record Reading (s : List ℕ) (at n weight next left : ℕ) : Type 0 where
  pub same : further n weight left (drop next s) ≡ number (drop at s)
  pub weighs : weight * 128 ^ left ≡ 34359738368
  pub small : n < weight
  pub past : at < next
  pub within : next ≤ length s

pub product : (b weight : ℕ) → b % 128 * weight ≤ 127 * weight
product b weight = mul-le-mul_right weight (omega arith)

pub begun : (s : List ℕ) (at b : ℕ) → b ≡ get_or s at 0 → at < length s → 128 ≤ get_or s at 0 → Reading s at (b % 128) 128 (at + 1) 4
begun s at b e h t = record {
  same = rw (e, drop-step s at 0 h) (first (get_or s at 0) (drop (at + 1) s) t);
  weighs = refl;
  small = omega arith;
  past = omega arith;
  within = omega arith;
}

module _ (s : List ℕ) (at n weight next left : ℕ) (i : Reading s at n weight next left) where
  pub cut_off : length s ≤ next → NumberAt s at (Refused 1)
  cut_off h = refuses s at (nothing_left n weight left ∙ rw (drop_of_length-le s h) at i.same)

  pub over-long : left ≡ 0 → NumberAt s at (Refused 1)
  over-long h = refuses s at (too_many n weight (drop next s) ∙ rw h at i.same)

  module _ (more : 0 < left) where
    one_less : left ≡ suc (left - 1)
    one_less = omega arith

    weighs-next : weight * 128 * 128 ^ (left - 1) ≡ 34359738368
    weighs-next = mul_assoc weight 128 (128 ^ (left - 1)) ∙ sym (ap (λ (p : ℕ). weight * p) (pow-succ' 128 (left - 1))) ∙ rw (← one_less) i.weighs

    -- a group that is left counts at most 2^28 times
    pub light : weight ≤ 268435456
    light = omega (arith, weighs-next, le-mul_of_pos_right (weight * 128) (one-le-pow (left - 1) 128 (omega arith)))

    module _ (b : ℕ) (byte : b ≡ get_or s next 0) (there : next < length s) where
      here : drop next s ≡ b ∷ drop (next + 1) s
      here = rw byte (drop-step s next 0 there)

      same_here : further n weight (suc (left - 1)) (b ∷ drop (next + 1) s) ≡ number (drop at s)
      same_here = rw (← here, ← one_less) i.same

      pub stepped : 128 ≤ b → Reading s at (n + b % 128 * weight) (weight * 128) (next + 1) (left - 1)
      stepped h = record {
        same = next_one n weight (left - 1) b (drop (next + 1) s) h ∙ same_here;
        weighs = weighs-next;
        small = omega (arith, i.small, product b weight);
        past = omega (arith, i.past);
        within = omega arith;
      }

      pub last : b < 128 → NumberAt s at (pick (eqb b 0) (Refused 1) (pick (ltb (n + b % 128 * weight) 4294967296) (Is (n + b % 128 * weight) (next + 1)) (Refused 1)))
      last h = go (eqb b 0) (ltb (n + b % 128 * weight) 4294967296) (last_one n weight (left - 1) b (drop (next + 1) s) h ∙ same_here)
        where
          go : (z t : Bool) → pick z (refused 1) (pick t (got (n + b % 128 * weight) (drop (next + 1) s)) (refused 1)) ≡ number (drop at s) → NumberAt s at (pick z (Refused 1) (pick t (Is (n + b % 128 * weight) (next + 1)) (Refused 1)))
          go true t e = refuses s at e
          go false true e = record { reads = e; onward = (omega (arith, i.past), omega arith) }
          go false false e = refuses s at e
