-- Lists of numbers that stand once each.
use Prim.Native.Nat.{ℕ, ◌+◌, ◌-◌, ◌<◌, ◌≤◌}
use mathlib.Core.Path.{◌≡◌, ap, ◌∙◌}
use mathlib.Core.Bool.{Bool, true, false}
use mathlib.Core.List.{List, []}
use native.Mathlib.Omega.{arith}
use lib.Dec.{eqb}
use Rattle.entity.specs.Logic.{pick, cells}
use Rattle.number.specs.declared.Number.TheVariants.{Is, Refused}
use Rattle.reading.specs.Reading.{below, distinct, fresh}
use Rattle.reading.specs.Answer.{ReadAt, NextAt}
use Rattle.reading.specs.declared.Next as X
use Rattle.reading.proofs.Laws.{under}
use Rattle.reading.proofs.Lists.{Listing, listing_start, listing_step, listing-refused, listing-end}
use Rattle.job_target.specs.Steps.{Put, Keeps, NewIn, ListKept}
use Rattle.job_target.proofs.Table.{keeps_same, keeps-put, keeps_then, keeps-more, cells-more}
use Rattle.job_target.proofs.Flags.{count, count_most, count-empty, count_room, count-more}

-- ---- the next number
module _ (limit : ℕ) (seen seen' : ℕ → Bool) (s : List ℕ) (at : ℕ) where
  pub none-there : (k : ℕ) → ReadAt (below limit) s at (Refused k) → ReadAt (fresh limit seen) s at (Refused k) × NewIn limit seen seen' (Refused k)
  unfolding fresh
  none-there k h = (record { reads = rw (← h.reads); onward = tt }, tt)

  module _ (x next : ℕ) (h : ReadAt (below limit) s at (Is x next)) where
    pub seen-before : seen x ≡ true → ReadAt (fresh limit seen) s at (Refused 3) × NewIn limit seen seen' (Refused 3)
    unfolding fresh
    seen-before e = (record { reads = rw (← h.reads, e); onward = tt }, tt)

    pub seen-now : seen x ≡ false → ((y : ℕ) → seen' y ≡ pick (eqb y x) true (seen y)) → ReadAt (fresh limit seen) s at (Is x next) × NewIn limit seen seen' (Is x next)
    unfolding fresh
    seen-now e i = (record { reads = rw (← h.reads, e); onward = h.onward }, (under limit s at x next h, e, i))

-- ---- the list, from the cell `start` on
pub record Cells (limit : ℕ) (s : List ℕ) (from n start : ℕ) (t₀ : List ℕ) (seen : ℕ → Bool) (t : List ℕ) (at i left : ℕ) : Type 0 where
  pub listing : Listing limit s from n seen (cells t start i) at left
  pub sum : i + left ≡ n
  pub size : count seen 512 ≡ i
  pub keeps : Keeps t₀ t start i

module _ (limit : ℕ) (s : List ℕ) (from n start : ℕ) (t₀ : List ℕ) where
  pub cells-start : (seen : ℕ → Bool) → ((x : ℕ) → seen x ≡ false) → Cells limit s from n start t₀ seen t₀ from 0 n
  unfolding cells
  cells-start seen none =
      record { listing = listing_start limit s from n seen none; sum = omega arith; size = count-empty seen 512 none; keeps = keeps_same t₀ start 0 }

  module _ (low : limit ≤ 512) (seen : ℕ → Bool) (t : List ℕ) (at i left : ℕ) (h : Cells limit s from n start t₀ seen t at i left) where
    module _ (seen' : ℕ → Bool) (x next : ℕ) (new : NewIn limit seen seen' (Is x next)) where
      pub room : i < 512
      room = omega (arith, count_room seen 512 x (omega (arith, new.0)) new.1, h.size)

      pub low-enough : x < 512
      low-enough = omega (arith, new.0)

      pub cells-step : (t' : List ℕ) → 0 < left → ReadAt (fresh limit seen) s at (Is x next) → Put t t' (start + i) x → Cells limit s from n start t₀ seen' t' next (i + 1) (left - 1)
      cells-step t' l g p =
          record {
            listing = rw (cells-more t t' start i x p) (listing_step limit s from n seen (cells t start i) at left h.listing x next seen' new.2 l g);
            sum = omega (arith, h.sum);
            size = count-more seen seen' 512 x new.2 new.1 low-enough ∙ ap (λ (k : ℕ). k + 1) h.size;
            keeps = keeps_then t₀ t t' start (i + 1) (keeps-more t₀ t start i start (i + 1) (omega arith) (omega arith) h.keeps) (keeps-put t t' (start + i) x start (i + 1) p (omega arith) (omega arith));
          }

    pub cells-refused : (k : ℕ) (y : List ℕ) (also : Type 0) → 0 < left → ReadAt (fresh limit seen) s at (Refused k) → NextAt (distinct n limit []) s from y also (X.TheVariants.Refused k)
    cells-refused k y also l g = listing-refused limit s from n seen (cells t start i) at left h.listing k y also l g

  pub cells-end : (seen : ℕ → Bool) (t : List ℕ) (at i left : ℕ) → Cells limit s from n start t₀ seen t at i left → left ≤ 0 → NextAt (distinct n limit []) s from (cells t start n) (ListKept t₀ t start n) (X.TheVariants.At at)
  cells-end seen t at i left h z =
      let e : i ≡ n = omega (arith, h.sum) in
      let k : ListKept t₀ t start n = record { few = omega (arith, count_most seen 512, h.size); keeps = rw e at h.keeps } in
      listing-end limit s from n seen (cells t start n) at left (rw e at h.listing) (ListKept t₀ t start n) z k
