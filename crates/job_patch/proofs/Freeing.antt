-- The free units of a patch, one after the other.
use Prim.Native.Nat.{ℕ, suc, ◌+◌, ◌-◌, ◌<◌, ◌≤◌}
use mathlib.Core.Path.{◌≡◌, refl, ◌∙◌}
use mathlib.Core.Bool.{Bool, true, false}
use mathlib.Core.List.{List, ◌∷◌}
use native.Mathlib.Omega.{arith}
use lib.Dec.{eqb, ltb}
use lib.ListN.{length, drop}
use borrow.Author.Tests.{lt-ltb, le-ltb, ltb-true}
use Rattle.entity.specs.Logic.{pick, or, has}
use Rattle.small_set.specs.Set.{set_of, empty_set, inserted}
use Rattle.number.specs.Read.{Read, got, refused, then}
use Rattle.number.specs.Number.{number}
use Rattle.number.specs.Answer.{NumberAt}
use Rattle.number.specs.declared.Number.TheVariants as N
use Rattle.reading.specs.Reading.{tested, below}
use Rattle.reading.specs.Answer.{ReadAt}
use Rattle.reading.specs.declared.Next.{Next}
use Rattle.reading.specs.declared.Next.TheVariants.{At, Refused}
use Rattle.job_patch.specs.Patches.{rising}
use Rattle.job_patch.specs.Steps.{Freed}

pub or-none : (a : Bool) → or a false ≡ a
or-none true = refl
or-none false = refl

-- a unit in the set, or in front of those listed
pub shifted : (a b c : Bool) → or a (or b c) ≡ or (pick b true a) c
shifted true true c = refl
shifted false true c = refl
shifted a false c = refl

module _ (s : List ℕ) (limit : ℕ) where
  more : (u : ℕ) (before : ℕ → Bool) (x : Read (List ℕ)) (r : Next) (free : List Bool) → Freed s x (inserted before u) r free → Freed s (then x (λ us q. got (u ∷ us) q)) before r free
  unfolding inserted has
  more u before (refused k) r free h = h
  more u before (got us rest) r free h = (h.0, h.1, h.2, h.3, λ y. shifted (before y) (eqb y u) (has y us) ∙ h.4 y)

  -- of n units from `at` on, `left` are left from q on, none below `least`
  pub record Freeing (at n q least left : ℕ) (free : List Bool) : Type 0 where
    pub within : q ≤ length s
    pub rest : (r : Next) (free' : List Bool) → Freed s (rising left limit least (drop q s)) (set_of free) r free' → Freed s (rising n limit 0 (drop at s)) empty_set r free'

  pub freeing-start : (at n : ℕ) (free : List Bool) → at ≤ length s → set_of free ≡ empty_set → Freeing at n at 0 n free
  freeing-start at n free l e = record { within = l; rest = λ r free' g. rw e at g }

  module _ (at n q least left : ℕ) (free : List Bool) (h : Freeing at n q least left free) where
    pub freeing-refused : (k : ℕ) → 0 < left → ReadAt (below limit) s q (N.Refused k) → Freed s (rising n limit 0 (drop at s)) empty_set (Refused k) free
    unfolding rising
    freeing-refused k p g = let l : left ≡ suc (left - 1) = omega arith in h.rest (Refused k) free (rw (l, ← g.reads) (refl, tt))

    pub freeing-fallen : (u next : ℕ) → 0 < left → ReadAt (below limit) s q (N.Is u next) → u < least → Freed s (rising n limit 0 (drop at s)) empty_set (Refused 3) free
    unfolding rising
    freeing-fallen u next p g low = let l : left ≡ suc (left - 1) = omega arith in h.rest (Refused 3) free (rw (l, ← g.reads, lt-ltb u least low) (refl, tt))

    pub freeing_step : (u next : ℕ) (free' : List Bool) → 0 < left → ReadAt (below limit) s q (N.Is u next) → least ≤ u → set_of free' ≡ inserted (set_of free) u → Freeing at n next (u + 1) (left - 1) free'
    unfolding rising
    freeing_step u next free' p g high is =
        let l : left ≡ suc (left - 1) = omega arith in
        record {
          within = g.onward.1;
          rest = λ r free'' o. h.rest r free'' (rw (l, ← g.reads, le-ltb u least high) (more u (set_of free) (rising (left - 1) limit (u + 1) (drop next s)) r free'' (rw is at o)));
        }

    pub freeing-end : left ≤ 0 → Freed s (rising n limit 0 (drop at s)) empty_set (At q) free
    unfolding rising has
    freeing-end z = let l : left ≡ 0 = omega arith in h.rest (At q) free (rw l (q, refl, refl, h.within, λ u. or-none (set_of free u)))

  -- a unit that was read is below the limit
  pub read_below : (at u next : ℕ) → ReadAt (below limit) s at (N.Is u next) → u < limit
  unfolding tested
  read_below at u next g = go (number (drop at s)) g.reads
    where
      go : (x : Read ℕ) → got u (drop next s) ≡ then x (λ n r. pick (ltb n limit) (got n r) (refused 2)) → u < limit
      go (refused k) e = absurd (let z : ◌≡◌ {A = ℕ} 0 1 = cc in omega arith)
      go (got n r) e = in-range (ltb n limit) refl e
        where
          in-range : (b : Bool) → ltb n limit ≡ b → got u (drop next s) ≡ pick b (got n r) (refused 2) → u < limit
          in-range true q e = let z : u ≡ n = cc in rw z (ltb-true n limit q)
          in-range false q e = absurd (let z : ◌≡◌ {A = ℕ} 0 1 = cc in omega arith)

  -- the count in front
  pub free-refused : (at k : ℕ) (free : List Bool) → NumberAt s at (N.Refused k) → Freed s (then (number (drop at s)) (λ n p. rising n limit 0 p)) empty_set (Refused k) free
  free-refused at k free h = rw (← h.reads) (refl, tt)

  pub free-counted : (at n next : ℕ) (r : Next) (free : List Bool) → NumberAt s at (N.Is n next) → Freed s (rising n limit 0 (drop next s)) empty_set r free → Freed s (then (number (drop at s)) (λ n p. rising n limit 0 p)) empty_set r free
  free-counted at n next r free h g = rw (← h.reads) g
