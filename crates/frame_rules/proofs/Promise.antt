-- The promised shares.
use Prim.Native.Nat.{ℕ, zero, suc, ◌+◌, ◌-◌, ◌<◌, ◌≤◌}
use mathlib.Core.Path.{◌≡◌, refl, sym, ap}
use mathlib.Core.Bool.{Bool, true, false}
use mathlib.Core.List.{List, [], ◌∷◌}
use mathlib.Core.Option.{Option, none, some}
use mathlib.Core.Logic.{inl, inr, ⊎_elim}
use native.Mathlib.Omega.{arith}
use lib.Dec.{ltb}
use lib.ListN.{length, get_or}
use borrow.Author.Tests.{ltb-true, ltb-false, lt-ltb, le-ltb}
use Rattle.entity.specs.Logic.{or}
use Rattle.reginfo.proofs.First.{first-none}
use Rattle.reginfo.specs.Refused.{first_of}
use Rattle.rules.specs.Scratch.{Cache, ScratchAllocator, acquire_from}
use Rattle.rules.specs.Counts.{sum}
use Rattle.rules.specs.Patch.{refused, answer_of, sorted}
use Rattle.rules.specs.Take.{Counted, stamped_by}
use Rattle.rules.proofs.Enough.{only-by-slots}
use Rattle.rules.proofs.Tested.{tested}
use Rattle.rules.proofs.Sum.{sum-change, sum-zero}
use Rattle.frame_rules.specs.Frame.{Inlined, total, frame_conditions, or_given, open_refusal, formulas_refusal, first_slots, Asked, Formula, Frame, no_formula, opened, lacks, others_lack, greater, reach, cache_in, now_in, function_in, resolve_in, standing_in, asked_in, made_to, with_cache, FrameCall, after_call, after_calls, Named}
use Rattle.frame_rules.specs.Promise.{MayMake, MakesSlot, Kept, PromisedTo, Promised, WithinShare}
use Rattle.frame_rules.proofs.Calls.{along, sum-cong, most, least, either, reach_far, lack-split, resolved-within, Moved, PreviewsIn, moved, at_own, at_other, previews-after, previews-opened}

pub may-make : MayMake
unfolding reach
may-make s i x h =
    go (s.formulas i).share (s.formulas i).made (others_lack s i) (ltb ((s.formulas i).made + (x - s.counter)) (s.formulas i).share) refl (ltb (x + others_lack s i) s.limit) refl
  where
    go : (sh ma la : ℕ) (u : Bool) → ltb (ma + (x - s.counter)) sh ≡ u → (v : Bool) → ltb (x + la) s.limit ≡ v → ltb x (s.counter + greater (sh - ma) (s.limit - (s.counter + la))) ≡ or u v
    go sh ma la true e v k =
        let q : ma + (x - s.counter) < sh = ltb-true _ _ e in
        let m = most (sh - ma) (s.limit - (s.counter + la)) in
        lt-ltb x (s.counter + greater (sh - ma) (s.limit - (s.counter + la))) (omega (arith, m.0))
    go sh ma la false e true k =
        let q : x + la < s.limit = ltb-true _ _ k in
        let m = most (sh - ma) (s.limit - (s.counter + la)) in
        lt-ltb x (s.counter + greater (sh - ma) (s.limit - (s.counter + la))) (omega (arith, m.1))
    go sh ma la false e false k =
        let q : sh ≤ ma + (x - s.counter) = ltb-false _ _ e in
        let r : s.limit ≤ x + la = ltb-false _ _ k in
        le-ltb x (s.counter + greater (sh - ma) (s.limit - (s.counter + la))) (omega (arith, least (sh - ma) (s.limit - (s.counter + la)) (x - s.counter) (omega arith) (omega arith)))

pub makes-slot : MakesSlot
unfolding acquire_from
makes-slot s i z c h e = rw (e, may-make s i c.made h) refl

-- ---- what every call keeps
-- slots made up to reach
kept-moved : (s : Frame) (i : ℕ) (c : Counted) (l : List (Option Asked)) → i < s.number → s.counter ≤ c.cache.made → c.cache.made ≤ reach s i → Kept s → Kept (with_cache s i c l)
unfolding reach
kept-moved s i c l h lo hi k =
    let f = at_own s i c l in
    let made-is : ((with_cache s i c l).formulas i).made ≡ made_to s i c.cache.made = ap (λ (y : Formula). y.made) f in
    let lacks-is : lacks (with_cache s i c l) i ≡ (s.formulas i).share - made_to s i c.cache.made = ap (λ (y : Formula). y.share - y.made) f in
    let made-sum = sum-change (λ j. ((with_cache s i c l).formulas j).made) (λ j. (s.formulas j).made) s.number i h (λ j d. ap (λ (y : Formula). y.made) (at_other s i c l j d)) in
    let lacks-sum = sum-change (lacks (with_cache s i c l)) (lacks s) s.number i h (λ j d. ap (λ (y : Formula). y.share - y.made) (at_other s i c l j d)) in
    let split = lack-split s i h in
    record {
      counted = omega (arith, k.counted, made-sum, made-is, lo);
      within =
          ⊎_elim
          (λ e. let d : c.cache.made ≤ s.counter + lacks s i = omega (arith, hi, e) in omega (arith, k.within, lacks-sum, lacks-is, split, lo))
          (λ e. let d : c.cache.made ≤ s.counter + (s.limit - (s.counter + others_lack s i)) = omega (arith, hi, e) in omega (arith, k.within, lacks-sum, lacks-is, split, lo))
          (either (lacks s i) (s.limit - (s.counter + others_lack s i)));
    }

pub kept-after : (s : Frame) (x : FrameCall) → x.formula < s.number → PreviewsIn s x.formula → Kept s → Kept (after_call s x)
kept-after s x h v k = go (moved s x.formula x.request v)
  where
    go : Moved s x.formula (stamped_by (now_in s x.formula) (standing_in s x.formula x.request)) → Kept (after_call s x)
    go (inl q) =
        let e = ap (λ (y : Cache). y.made) q.0 in
        kept-moved s x.formula (stamped_by (now_in s x.formula) (standing_in s x.formula x.request)) (asked_in s x.formula x.request) h (omega (arith, e)) (omega (arith, e, reach_far s x.formula)) k
    go (inr q) =
        let w = resolved-within s x.formula q.patch q.room q.edits _ q.position q.is in
        kept-moved s x.formula (stamped_by (now_in s x.formula) (standing_in s x.formula x.request)) (asked_in s x.formula x.request) h w.0 w.1 k

-- ---- at the opening
given-none : (o u : Option ℕ) → or_given o u ≡ none → (o ≡ none) × (u ≡ none)
given-none none u e = (refl, e)
given-none (some n) u e = let z : ◌≡◌ {A = ℕ} 0 1 = cc in absurd (omega arith)

pub opens : (limit : ℕ) (l : List Inlined) → open_refusal limit l ≡ none → (first_of (frame_conditions limit l) ≡ none) × (formulas_refusal (first_slots l) l ≡ none)
unfolding open_refusal
opens limit l e = given-none _ _ e

sum-shift : (f : ℕ → ℕ) (n : ℕ) → sum f (suc n) ≡ f 0 + sum (λ k. f (suc k)) n
unfolding sum
sum-shift f zero = refl
sum-shift f (suc n) = omega (arith, sum-shift f n)

total-is : (l : List Inlined) → sum (λ j. (get_or l j no_formula).share) (length l) ≡ total l
unfolding total
total-is [] = sum-zero _ 0 (λ k h. absurd (omega arith))
total-is (x ∷ l) = omega (arith, sum-shift (λ j. (get_or (x ∷ l) j no_formula).share) (length l), total-is l)

pub kept-opened : (limit : ℕ) (l : List Inlined) → open_refusal limit l ≡ none → Kept (opened limit l)
unfolding frame_conditions
kept-opened limit l e =
    let t : total l ≤ limit = ltb-false limit (total l) (first-none _ (opens limit l e).0 2 (omega arith)) in
    record {
      counted = sym (sum-zero (λ j. 0) (length l) (λ k h. refl));
      within = omega (arith, total-is l, sum-cong (lacks (opened limit l)) (λ j. (get_or l j no_formula).share) (length l) (λ k. omega arith));
    }

pub low-limit : (limit : ℕ) (l : List Inlined) → open_refusal limit l ≡ none → limit ≤ 2048
unfolding frame_conditions
low-limit limit l e = ltb-false 2048 limit (first-none _ (opens limit l e).0 1 (omega arith))

-- ---- between calls
ran_out : (o : Option ScratchAllocator) → answer_of o ≡ refused 17 → o ≡ none
ran_out none e = refl
ran_out (some k) e = let z : ◌≡◌ {A = ℕ} 0 1 = cc in absurd (omega arith)

pub reach-is : (s : Frame) (i : ℕ) → i < s.number → Kept s → reach s i ≡ s.limit - others_lack s i
unfolding reach
reach-is s i h k =
    let m = most (lacks s i) (s.limit - (s.counter + others_lack s i)) in
    let n = least (lacks s i) (s.limit - (s.counter + others_lack s i)) (s.limit - (s.counter + others_lack s i)) (omega (arith, lack-split s i h, k.within)) (omega arith) in
    omega (arith, m.1, n, k.within, lack-split s i h)

pub promised-to : (s : Frame) (i : ℕ) → i < s.number → Kept s → PromisedTo s i
unfolding resolve_in
promised-to s i h k =
    let free : s.counter + lacks s i ≤ reach s i = omega (arith, reach-is s i h k, lack-split s i h, k.within) in
    record {
      is = reach-is s i h k;
      free = free;
      within = omega (arith, reach-is s i h k);
      lasts = λ x d.
          ap (λ (y : Formula). y.share - y.made)
          (at_other s x.formula (stamped_by (now_in s x.formula) (standing_in s x.formula x.request)) (asked_in s x.formula x.request) i (λ e. d (sym e)));
      above = λ p room e.
          let t = (s.formulas i).target in
          let q = tested t (function_in s i) p room (cache_in s i) (refused 17) refl e in
          let o = only-by-slots t (function_in s i) p (sorted t (function_in s i) p) (cache_in s i) in
          let out = o.2.out.0 (ran_out _ q.1) in
          (o.0, o.1, omega (arith, out.0, out.1, free));
    }

-- what calls keep: the answers of askings, and the promise
pub record Sound (n : ℕ) (s : Frame) : Type 0 where
  pub number : s.number ≡ n
  pub previews : (i : ℕ) → PreviewsIn s i
  pub kept : Kept s

pub sound-after : (n : ℕ) (s : Frame) (x : FrameCall) → x.formula < n → Sound n s → Sound n (after_call s x)
sound-after n s x h k =
    record { number = k.number; previews = previews-after s x.formula x.request k.previews; kept = kept-after s x (omega (arith, k.number, h)) (k.previews x.formula) k.kept }

pub sound-opened : (limit : ℕ) (l : List Inlined) → open_refusal limit l ≡ none → Sound (length l) (opened limit l)
sound-opened limit l e = record { number = refl; previews = previews-opened limit l; kept = kept-opened limit l e }

pub sound : (limit : ℕ) (l : List Inlined) → open_refusal limit l ≡ none → (calls : List FrameCall) → Named (length l) calls → Sound (length l) (after_calls calls (opened limit l))
sound limit l e calls k = along (length l) (Sound (length l)) (sound-after (length l)) calls k (opened limit l) (sound-opened limit l e)

pub promised : Promised
promised limit l e calls k =
    let g = sound limit l e calls k in
    (g.kept, λ i h. promised-to (after_calls calls (opened limit l)) i (omega (arith, g.number, h)) g.kept)

-- a run that ends in two allocators with slots enough ends in one
pub within-share : WithinShare
within-share limit l e calls k i h p room w out =
    let y = ((promised limit l e calls k).1 i h).above p room out in
    let a = w.1.1 (w.1.0 + y.1.0) (omega arith) in
    let b = y.1.1 (w.1.0 + y.1.0) (omega arith) in
    let same : w.0 ≡ y.0 = cc in
    let m : w.0.cache.made ≡ y.0.cache.made = ap (λ (x : ScratchAllocator). x.cache.made) same in
    omega (arith, w.2, y.2, m)
