-- The table of a frame holds what 02 l's rules have.
use Prim.Native.Nat.{ℕ, zero, suc, ◌+◌, ◌-◌, ◌<◌, ◌≤◌}
use mathlib.Core.Path.{◌≡◌, refl, sym, ap, subst, ◌∙◌}
use mathlib.Core.List.{List, [], ◌∷◌, map}
use mathlib.Core.Logic.{⊎_elim}
use mathlib.Core.Bool.{Bool, true, false}
use native.Mathlib.Omega.{arith}
use lib.Dec.{eqb, ltb}
use borrow.Author.Tests.{ltb-false}
use lib.ListN.{length, get_or}
use Rattle.entity.specs.Logic.{pick, or}
use Rattle.rules.specs.Counts.{sum}
use Rattle.rules.proofs.Steps.{same?}
use Rattle.rules.proofs.Sum.{sum-part, sum-zero}
use Rattle.reginfo.proofs.First.{first-none}
use Rattle.frame_rules.specs.Frame.{Inlined, total, frame_conditions, Formula, Frame, no_formula, lacks, others_lack, with_cache}
use Rattle.frame_rules.proofs.Calls.{reach_far, lack-split, at_own, at_other}
use Rattle.frame_rules.proofs.Promise.{reach-is}
use Rattle.frame_table.specs.Table.{number_of, limit_of, counter_of, share_of, made_of, lacks_of, lacks_beside, others_lack_of, reach_of}
use Rattle.frame_table.specs.Opening.{sum_of, share_conditions, SameConditions}
use Rattle.frame_table.specs.Steps.{OneOpened}
use Rattle.frame_table.specs.Held.{Holds, OpenedHolds, ReachIs, WentHolds, frame_of, FrameOk, FilledOk, SlotsOk, WentOk}

-- ---- opening
shares-many : (l : List Inlined) → length (map (λ (x : Inlined). x.share) l) ≡ length l
shares-many [] = refl
shares-many (x ∷ l) = ap suc (shares-many l)

shares_sum : (l : List Inlined) → sum_of (map (λ (x : Inlined). x.share) l) ≡ total l
unfolding sum_of total
shares_sum [] = refl
shares_sum (x ∷ l) = ap (λ (n : ℕ). x.share + n) (shares_sum l)

share-at : (l : List Inlined) (j : ℕ) → get_or (map (λ (x : Inlined). x.share) l) j 0 ≡ (get_or l j no_formula).share
share-at [] j = refl
share-at (x ∷ l) zero = refl
share-at (x ∷ l) (suc j) = share-at l j

pub same-conditions : SameConditions
unfolding share_conditions frame_conditions
same-conditions limit l = rw (shares-many l, shares_sum l) refl

pub opened-holds : OpenedHolds
opened-holds limit l frame g =
    record {
      number = g.number ∙ shares-many l;
      limit = g.limit_is;
      counter = g.counter;
      share = λ j h. g.share j (omega (arith, shares-many l)) ∙ share-at l j;
      made = λ j h. g.made j (omega (arith, shares-many l));
    }

-- ---- how far the counter may go
sum_below : (f g : ℕ → ℕ) (n : ℕ) → ((k : ℕ) → k < n → f k ≡ g k) → sum f n ≡ sum g n
unfolding sum
sum_below f g zero h = refl
sum_below f g (suc n) h = omega (arith, h n (omega arith), sum_below f g n (λ k l. h k (omega arith)))

pub others_same : (frame : List ℕ) (s : Frame) → Holds frame s → (i : ℕ) → others_lack_of frame i ≡ others_lack s i
unfolding others_lack_of others_lack
others_same frame s k i =
    rw k.number
    (sum_below (lacks_beside frame i) (λ j. pick (eqb j i) 0 (lacks s j)) s.number (λ j h. ap (λ (n : ℕ). pick (eqb j i) 0 n) (let a = k.share j h in let b = k.made j h in rw (a, b) refl)))

pub reach-held : ReachIs
reach-held frame s k kept i h = let o = others_same frame s k i in rw (o, k.limit) (sym (reach-is s i h kept))

-- ---- after a call
pub went-holds : WentHolds
went-holds frame s k few i h c a frame' w =
    record {
      number = w.number ∙ k.number;
      limit = w.limit ∙ k.limit;
      counter = w.counter;
      share = λ j l.
          ⊎_elim
          (λ e. subst (λ (y : ℕ). share_of frame' y ≡ ((with_cache s i c a).formulas y).share) (sym e) (w.share i (omega arith) ∙ k.share i h ∙ sym (ap (λ (y : Formula). y.share) (at_own s i c a))))
          (λ d. w.share j (omega arith) ∙ k.share j l ∙ sym (ap (λ (y : Formula). y.share) (at_other s i c a j d))) (same? j i);
      made = λ j l.
          ⊎_elim
          (λ e. subst (λ (y : ℕ). made_of frame' y ≡ ((with_cache s i c a).formulas y).made) (sym e) (w.own ∙ (rw (k.made i h, k.counter) refl) ∙ sym (ap (λ (y : Formula). y.made) (at_own s i c a))))
          (λ d. w.others j d ∙ k.made j l ∙ sym (ap (λ (y : Formula). y.made) (at_other s i c a j d))) (same? j i);
    }

-- ---- promises kept
sum-shift : (f : ℕ → ℕ) (n : ℕ) → sum f (suc n) ≡ f 0 + sum (λ k. f (suc k)) n
unfolding sum
sum-shift f zero = refl
sum-shift f (suc n) = omega (arith, sum-shift f n)

shares-sum-is : (l : List ℕ) → sum (λ j. get_or l j 0) (length l) ≡ sum_of l
unfolding sum_of
shares-sum-is [] = sum-zero _ 0 (λ k h. absurd (omega arith))
shares-sum-is (n ∷ l) = omega (arith, sum-shift (λ j. get_or (n ∷ l) j 0) (length l), shares-sum-is l)

-- two functions that differ at one number below n
change : (f g : ℕ → ℕ) (n v : ℕ) → v < n → ((k : ℕ) → k < n → (k ≡ v → ⊥) → f k ≡ g k) → sum f n + g v ≡ sum g n + f v
unfolding sum
change f g zero v l h = absurd (omega arith)
change f g (suc n) v l h =
    ⊎_elim
    (λ e. subst (λ (z : ℕ). f n + sum f n + g z ≡ g n + sum g n + f z) e (omega (arith, sum_below f g n (λ k b. h k (omega arith) (λ q. omega (arith, e, q, b))))))
    (λ d. omega (arith, h n (omega arith) d, change f g n v (omega arith) (λ k b. h k (omega arith)))) (same? n v)

pub own-low : (frame : List ℕ) → FrameOk frame → (i : ℕ) → i < number_of frame → made_of frame i ≤ counter_of frame
own-low frame k i h = omega (arith, k.kept.counted, sum-part (λ j. made_of frame j) (number_of frame) i h)

held-self : (frame : List ℕ) → Holds frame (frame_of frame)
held-self frame = record { number = refl; limit = refl; counter = refl; share = λ j h. refl; made = λ j h. refl }

pub reach-low : (frame : List ℕ) → FrameOk frame → (i : ℕ) → i < number_of frame → (counter_of frame ≤ reach_of frame i) × (reach_of frame i ≤ limit_of frame)
reach-low frame k i h = (rw (reach-held frame (frame_of frame) (held-self frame) k.kept i h) (reach_far (frame_of frame) i), omega arith)

pub went-ok : WentOk
went-ok frame i n frame' k h low high w =
    let s = frame_of frame in
    let few : i < 16 = omega (arith, h, k.number) in
    let made-sum = change (λ j. made_of frame' j) (λ j. made_of frame j) (number_of frame) i h (λ j b d. w.others j d) in
    let lacks-sum = change (λ j. lacks_of frame' j) (λ j. lacks_of frame j) (number_of frame) i h (λ j b d. let a = w.others j d in let e = w.share j (omega (arith, k.number, b)) in rw (a, e) refl) in
    let lacks-own : lacks_of frame' i ≡ share_of frame i - (made_of frame i + (n - counter_of frame)) = let a = w.own in let e = w.share i few in rw (a, e) refl in
    let split = lack-split s i h in
    let far : n ≤ limit_of frame - others_lack s i = subst (λ (x : ℕ). n ≤ limit_of frame - x) (others_same frame s (held-self frame) i) high in
    record {
      number = rw w.number k.number;
      limit = rw w.limit k.limit;
      slots = rw w.slots k.slots;
      kept =
          record {
            counted = rw w.number (omega (arith, w.counter, k.kept.counted, made-sum, w.own, low));
            within = rw w.number (omega (arith, w.counter, w.limit, k.kept.within, lacks-sum, lacks-own, split, low, far));
          };
    }

pub slots-ok : SlotsOk
slots-ok frame n frame' k low w =
    let same : (j : ℕ) → lacks_of frame' j ≡ lacks_of frame j = λ j. let a = w.share j in let b = w.made j in rw (a, b) refl in
    record {
      number = rw w.number k.number;
      limit = rw w.limit k.limit;
      slots = rw w.slots low;
      kept =
          record {
            counted = rw w.number (w.counter ∙ k.kept.counted ∙ sym (sum_below (λ j. made_of frame' j) (λ j. made_of frame j) (number_of frame) (λ j h. w.made j)));
            within = rw w.number (omega (arith, w.counter, w.limit, k.kept.within, sum_below (λ j. lacks_of frame' j) (λ j. lacks_of frame j) (number_of frame) (λ j h. same j)));
          };
    }

pub open-ok : (frame : List ℕ) (i : ℕ) (frame' : List ℕ) → FrameOk frame → OneOpened frame i frame' → FrameOk frame'
open-ok frame i frame' k w =
    let number : number_of frame' ≡ number_of frame = w.rest 0 (λ e. omega arith) in
    let limit : limit_of frame' ≡ limit_of frame = w.rest 1 (λ e. omega arith) in
    let counter : counter_of frame' ≡ counter_of frame = w.rest 2 (λ e. omega arith) in
    let made : (j : ℕ) → j < number_of frame → made_of frame' j ≡ made_of frame j = λ j h. w.rest (20 + j) (λ e. omega (arith, k.number)) in
    let same : (j : ℕ) → j < number_of frame → lacks_of frame' j ≡ lacks_of frame j = λ j h. rw (w.rest (4 + j) (λ e. omega (arith, k.number)), made j h) refl in
    record {
      number = rw number k.number;
      limit = rw limit k.limit;
      slots = rw (w.rest 3 (λ e. omega arith)) k.slots;
      kept =
          record {
            counted = rw number (counter ∙ k.kept.counted ∙ sym (sum_below (λ j. made_of frame' j) (λ j. made_of frame j) (number_of frame) made));
            within = rw number (omega (arith, counter, limit, k.kept.within, sum_below (λ j. lacks_of frame' j) (λ j. lacks_of frame j) (number_of frame) same));
          };
    }

pub filled_ok : FilledOk
unfolding share_conditions
filled_ok limit shares frame e g =
    let few : length shares ≤ 16 = ltb-false 16 (length shares) (or-false-right (eqb (length shares) 0) (ltb 16 (length shares)) (first-none _ e 0 (omega arith))) in
    let low : limit ≤ 2048 = ltb-false 2048 limit (first-none _ e 1 (omega arith)) in
    let enough : sum_of shares ≤ limit = ltb-false limit (sum_of shares) (first-none _ e 2 (omega arith)) in
    record {
      number = omega (arith, g.number, few);
      limit = omega (arith, g.limit_is, low);
      slots = omega (arith, g.slots);
      kept =
          record {
            counted = g.counter ∙ sym (sum-zero (λ j. made_of frame j) (number_of frame) (λ j h. g.made j (omega (arith, g.number, h))));
            within = omega (arith, g.counter, g.limit_is, enough, shares-sum-is shares, lacks-are);
          };
    }
  where
    or-false-right : (a b : Bool) → or a b ≡ false → b ≡ false
    or-false-right true b h = let z : ◌≡◌ {A = ℕ} 0 1 = cc in absurd (omega arith)
    or-false-right false b h = h

    lacks-are : sum (λ j. lacks_of frame j) (number_of frame) ≡ sum (λ j. get_or shares j 0) (length shares)
    lacks-are = rw g.number (sum_below (λ j. lacks_of frame j) (λ j. get_or shares j 0) (length shares) (λ j h. omega (arith, g.share j h, g.made j h)))
