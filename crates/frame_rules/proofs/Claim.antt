-- Demand 3 in a frame, and where the slots lie.
use Prim.Native.Nat.{ℕ, ◌+◌, ◌<◌, ◌≤◌}
use mathlib.Core.Path.{◌≡◌, refl, sym, ap, subst, ◌∙◌}
use mathlib.Core.Bool.{true, false, false≢true}
use mathlib.Core.List.{List, [], ◌∷◌}
use mathlib.Core.Option.{Option, none, some}
use mathlib.Core.Logic.{◌⊎◌, inl, inr, ⊎_elim}
use native.Mathlib.Omega.{arith}
use lib.ListN.{length, get_or}
use Rattle.entity.specs.Logic.{has, twice}
use Rattle.reginfo.specs.RegInfo.{RegInfo}
use Rattle.function.specs.Function.{Function}
use Rattle.rules.specs.Scratch.{Cache}
use Rattle.rules.specs.Patch.{Patch, Answer, refused, sorted, cache_after}
use Rattle.rules.specs.Refusals.{with_limit}
use Rattle.rules.specs.Take.{Counted, Request, resolving, asking, taking, Standing, stamped_by}
use Rattle.rules.proofs.Accepted.{accepted}
use Rattle.rules.proofs.Steps.{same?}
use Rattle.machine.specs.Claim.{Answered, Owed}
use Rattle.machine.specs.Slots.{Stacked}
use Rattle.machine.proofs.Banked.{banked}
use Rattle.machine.proofs.Cache.{CacheOk}
use Rattle.machine.proofs.Demand.{called, cache-fresh}
use Rattle.machine.proofs.SlotCounts.{less?}
use Rattle.machine.proofs.Slots.{Onward, run-onward}
use Rattle.frame_rules.specs.Frame.{Inlined, first_slots, open_refusal, Asked, Formula, Frame, no_formula, opened, reach, cache_in, now_in, function_in, resolve_in, take_in, taken_in, standing_in, asked_in, with_cache, FrameCall, after_call, Named}
use Rattle.frame_rules.specs.Claim.{FrameClaim, FrameDemand3, FrameStacks, FrameSlots}
use Rattle.frame_rules.proofs.Calls.{along, Moved, PreviewsIn, moved, goes_on, at_own, at_other, take-now, take-late, fresh-or-late}
use Rattle.frame_rules.proofs.Given.{Known, known-opened, known-after, is-target, is-function, is-slots, is_within}
use Rattle.frame_rules.proofs.Unread.{answered-same}

-- what stands in the list is refused with 20, or a patch resolved now
pub stands : (s : Frame) (i : ℕ) (x : Request) → PreviewsIn s i → (y : Standing) → standing_in s i x ≡ some y → (y.answer ≡ refused 20) ⊎ ((room : ℕ) × (resolve_in s i y.patch room ≡ y.answer))
unfolding standing_in
stands s i (resolving p room) k y e =
    let is : record { patch = p; answer = resolve_in s i p room } ≡ y = cc in
    inr (room, subst (λ (y : Standing). resolve_in s i y.patch room ≡ y.answer) is refl)
stands s i (asking p room) k y e = let z : ◌≡◌ {A = ℕ} 0 1 = cc in absurd (omega arith)
stands s i (taking n) k y e = go (get_or (s.formulas i).asked n none) refl e
  where
    go : (o : Option Asked) → get_or (s.formulas i).asked n none ≡ o → taken_in o s i ≡ some y → (y.answer ≡ refused 20) ⊎ ((room : ℕ) × (resolve_in s i y.patch room ≡ y.answer))
    go none h e = let z : ◌≡◌ {A = ℕ} 0 1 = cc in absurd (omega arith)
    go (some a) h e =
        let is : record { patch = a.preview.patch; answer = take_in a s i } ≡ y = cc in
        subst (λ (y : Standing). (y.answer ≡ refused 20) ⊎ ((room : ℕ) × (resolve_in s i y.patch room ≡ y.answer))) is
        (⊎_elim (λ q. inr (a.preview.room, (k n a h).same q.0 q.1 ∙ sym (take-now s i a q.0 q.1))) (λ q. inl (take-late s i a q)) (fresh-or-late s i a))

-- a cache in order stays so with another L and a counter that went on
raised : (t : RegInfo) (f : Function) (l : ℕ) (c : Cache) (m : ℕ) → c.made ≤ m → CacheOk t f c → CacheOk t (with_limit t f l) (record { stacks = c.stacks; made = m })
raised t f l c m h k = record { once = k.once; sole = k.sole; low = k.low; made = λ z s y. omega (arith, h, k.made z s y) }

lowered : (t : RegInfo) (f : Function) (l : ℕ) (c : Cache) → CacheOk t (with_limit t f l) c → CacheOk t f c
lowered t f l c k = record { once = k.once; sole = k.sole; low = k.low; made = k.made }

module _ (limit : ℕ) (l : List Inlined) (ok : open_refusal limit l ≡ none) where
  -- ---- demand 3
  abbrev CachesOk : Frame → Type 0
  CachesOk s = (i : ℕ) → i < length l → CacheOk (s.formulas i).target (s.formulas i).function (cache_in s i)

  -- one call
  module _ (s : Frame) (g : Known limit l s) (co : CachesOk s) (x : FrameCall) (h : x.formula < length l) where
    abbrev j : ℕ
    j = x.formula

    abbrev t : RegInfo
    t = (s.formulas j).target

    abbrev f : Function
    f = (s.formulas j).function

    call : (p : Patch) (room : ℕ) (r : Answer) → resolve_in s j p room ≡ r → Answered t f p r × CacheOk t f (cache_after (cache_in s j) r)
    unfolding resolve_in
    call p room r e =
        let y = called t (function_in s j) (is-target limit l ok s g j h) (is_within limit l ok s g j h) (record { patch = p; room = room }) (cache_in s j) (raised t f (reach s j) (cache_in s j) s.counter (omega arith) (co j h)) r e in
        (answered-same t f (reach s j) p r y.0, lowered t f (reach s j) (cache_after (cache_in s j) r) y.1)

    standing-ok : (o : Option Standing) → standing_in s j x.request ≡ o → Owed t f o × CacheOk t f (stamped_by (now_in s j) o).cache
    standing-ok none e = (tt, co j h)
    standing-ok (some y) e = ⊎_elim (λ q. rw q (tt, co j h)) (λ q. call y.patch q.0 y.answer q.1) (stands s j x.request (g.sound.previews j) y e)

    abbrev c : Counted
    c = stamped_by (now_in s j) (standing_in s j x.request)

    caches-after : CachesOk (after_call s x)
    caches-after i il = ⊎_elim own other (same? i j)
      where
        InOrder : Formula → Type 0
        InOrder y = CacheOk y.target y.function (record { stacks = y.stacks; made = c.cache.made })

        own : i ≡ j → InOrder ((after_call s x).formulas i)
        own q =
            subst (λ (k : ℕ). InOrder ((after_call s x).formulas k)) (sym q)
            (subst InOrder (sym (at_own s j c (asked_in s j x.request))) (standing-ok (standing_in s j x.request) refl).1)

        other : (i ≡ j → ⊥) → InOrder ((after_call s x).formulas i)
        other d =
            subst InOrder (sym (at_other s j c (asked_in s j x.request) i d))
            (lowered _ _ 0 _ (raised (s.formulas i).target (s.formulas i).function 0 (cache_in s i) c.cache.made (goes_on s j c (moved s j x.request (g.sound.previews j))) (co i il)))

  claim : (calls : List FrameCall) → Named (length l) calls → (s : Frame) → Known limit l s → CachesOk s → FrameClaim calls s
  claim [] k s g co = tt
  claim (x ∷ xs) k s g co =
      ((standing-ok s g co x k.0 _ refl).0, claim xs k.1 (after_call s x) (known-after limit l s x k.0 g) (caches-after s g co x k.0))

  -- ---- where the slots lie
  abbrev pub N : ℕ
  N = first_slots l

  pub stacked-of : (s : Frame) → Known limit l s → FrameStacks N s → (i : ℕ) → i < length l → Stacked (function_in s i) (cache_in s i)
  stacked-of s g k i h =
      let n : i < s.number = omega (arith, g.sound.number, h) in
      record {
        once = k.once i n;
        sole = λ x y z a b. (k.sole x i i y z n n a b).1;
        low = λ x z a. omega (arith, is-slots limit l ok s g i h, k.low x i z n a);
        below = λ x z a. omega (arith, is-slots limit l ok s g i h, k.below x i z n a);
      }

  -- slots made by formula j
  module _ (s : Frame) (g : Known limit l s) (k : FrameStacks N s) (j : ℕ) (h : j < length l) (c : Counted) (left : List (Option Asked)) (o : Onward (function_in s j) (cache_in s j) c.cache) where
    abbrev s' : Frame
    s' = with_cache s j c left

    slots-is : (function_in s j).slots ≡ N
    slots-is = is-slots limit l ok s g j h

    own_is : (s'.formulas j).stacks ≡ c.cache.stacks
    own_is = ap (λ (y : Formula). y.stacks) (at_own s j c left)

    other-is : (i : ℕ) → (i ≡ j → ⊥) → (s'.formulas i).stacks ≡ (s.formulas i).stacks
    other-is i d = ap (λ (y : Formula). y.stacks) (at_other s j c left i d)

    -- where a slot lies: with j, or where it lay
    lies : (x i z : ℕ) → has x ((s'.formulas i).stacks z) ≡ true → ((i ≡ j) × (has x (c.cache.stacks z) ≡ true)) ⊎ ((i ≡ j → ⊥) × (has x ((s.formulas i).stacks z) ≡ true))
    lies x i z a =
        ⊎_elim (λ q. inl (q, sym (ap (λ st. has x (st z)) own_is) ∙ subst (λ (y : ℕ). has x ((s'.formulas y).stacks z) ≡ true) q a))
        (λ d. inr (d, sym (ap (λ st. has x (st z)) (other-is i d)) ∙ a)) (same? i j)

    lay : (x z : ℕ) → has x (c.cache.stacks z) ≡ true → x < N + s.counter → has x ((s.formulas j).stacks z) ≡ true
    lay x z a b = o.old x z (omega (arith, b, slots-is)) a

    onward-stacks : FrameStacks N s'
    onward-stacks =
        record {
          listed = λ x lo hi. ⊎_elim (λ b. before x (k.listed x lo b)) (λ b. let q = o.fresh x (omega (arith, b, slots-is)) (omega (arith, hi, slots-is)) in (j, omega (arith, h, g.sound.number), q.0, ap (λ st. has x (st q.0)) own_is ∙ q.1)) (less? x (N + s.counter));
          once = λ i n z. ⊎_elim (λ q. subst (λ (y : ℕ). twice ((s'.formulas y).stacks z) ≡ false) (sym q) (ap (λ st. twice (st z)) own_is ∙ o.stacked.once z)) (λ d. ap (λ st. twice (st z)) (other-is i d) ∙ k.once i n z) (same? i j);
          sole = λ x i m y z n p a b.
              ⊎_elim
              (λ q. ⊎_elim
              (λ r. (q.0 ∙ sym r.0, o.stacked.sole x y z q.1 r.1))
              (λ r. let w = k.sole x j m y z (omega (arith, h, g.sound.number)) p (lay x y q.1 (k.below x m z p r.1)) r.1 in (q.0 ∙ w.0, w.1)) (lies x m z b))
              (λ q. ⊎_elim
              (λ r. let w = k.sole x i j y z n (omega (arith, h, g.sound.number)) q.1 (lay x z r.1 (k.below x i y n q.1)) in (w.0 ∙ sym r.0, w.1))
              (λ r. k.sole x i m y z n p q.1 r.1) (lies x m z b)) (lies x i y a);
          low = λ x i z n a. ⊎_elim (λ q. omega (arith, slots-is, o.stacked.low x z q.1)) (λ q. k.low x i z n q.1) (lies x i z a);
          below = λ x i z n a. ⊎_elim (λ q. omega (arith, slots-is, o.stacked.below x z q.1)) (λ q. omega (arith, o.grows, k.below x i z n q.1)) (lies x i z a);
        }
      where
        before : (x : ℕ) → (i : ℕ) × (i < s.number) × (z : ℕ) × (has x ((s.formulas i).stacks z) ≡ true) → (i : ℕ) × (i < s.number) × (z : ℕ) × (has x ((s'.formulas i).stacks z) ≡ true)
        before x q =
            ⊎_elim
            (λ e. (j, omega (arith, h, g.sound.number), q.2, ap (λ st. has x (st q.2)) own_is ∙ o.stays x q.2 (subst (λ (y : ℕ). has x ((s.formulas y).stacks q.2) ≡ true) e q.3)))
            (λ d. (q.0, q.1, q.2, ap (λ st. has x (st q.2)) (other-is q.0 d) ∙ q.3)) (same? q.0 j)

  stays_on : (f : Function) (c : Cache) → Stacked f c → Onward f c c
  stays_on f c k = record { stacked = k; grows = omega arith; stays = λ s z a. a; old = λ s z b a. a; fresh = λ s lo hi. absurd (omega arith) }

  pub onward-of : (s : Frame) (g : Known limit l s) (k : FrameStacks N s) (j : ℕ) (h : j < length l) (c : Counted) → Moved s j c → Onward (function_in s j) (cache_in s j) c.cache
  unfolding resolve_in
  onward-of s g k j h c (inl q) = rw q.0 (stays_on (function_in s j) (cache_in s j) (stacked-of s g k j h))
  onward-of s g k j h c (inr q) =
      let t = (s.formulas j).target in
      let r = accepted t (function_in s j) q.patch q.room (cache_in s j) c.cache q.edits q.position q.is in
      subst (Onward (function_in s j) (cache_in s j)) (sym r.cache)
      (run-onward t (function_in s j) (is-target limit l ok s g j h) (banked t (function_in s j) (is_within limit l ok s g j h)) q.patch (sorted t (function_in s j) q.patch) (cache_in s j) r.allocator r.ok (stacked-of s g k j h) r.ran)

  pub record Lying (s : Frame) : Type 0 where
    pub known : Known limit l s
    pub stacks : FrameStacks N s

  pub lying-after : (s : Frame) (x : FrameCall) → x.formula < length l → Lying s → Lying (after_call s x)
  lying-after s x h k =
      record {
        known = known-after limit l s x h k.known;
        stacks =
            onward-stacks s k.known k.stacks x.formula h (stamped_by (now_in s x.formula) (standing_in s x.formula x.request)) (asked_in s x.formula x.request)
            (onward-of s k.known k.stacks x.formula h _ (moved s x.formula x.request (k.known.sound.previews x.formula)));
      }

  pub lying-opened : Lying (opened limit l)
  unfolding has twice
  lying-opened =
      record {
        known = known-opened limit l ok;
        stacks =
            record {
              listed = λ x lo hi. absurd (omega arith);
              once = λ i n z. refl;
              sole = λ x i j y z n p a b. absurd (false≢true a);
              low = λ x i z n a. absurd (false≢true a);
              below = λ x i z n a. absurd (false≢true a);
            };
      }

  pub caches-opened : CachesOk (opened limit l)
  caches-opened i h =
      let k = cache-fresh (get_or l i no_formula).target (get_or l i no_formula).function (is-target limit l ok (opened limit l) (known-opened limit l ok) i h) (is-function limit l ok (opened limit l) (known-opened limit l ok) i h) in
      record { once = k.once; sole = k.sole; low = k.low; made = k.made }

pub frame-demand-3 : FrameDemand3
frame-demand-3 limit l e calls k = claim limit l e calls k (opened limit l) (known-opened limit l e) (caches-opened limit l e)

pub frame-slots : FrameSlots
frame-slots limit l e calls k = (along (length l) (Lying limit l e) (lying-after limit l e) calls k (opened limit l) (lying-opened limit l e)).stacks
