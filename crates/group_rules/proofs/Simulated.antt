-- A call by groups in a frame leads where resolving its groups one after the other leads, but for the count: so every frame that mixed calls
-- lead to is, but for counts and answers to take, one that 02 l's calls lead to.
use Prim.Native.Nat.{ℕ, ◌-◌, ◌<◌, ◌≤◌}
use mathlib.Core.Path.{◌≡◌, refl, sym, ap, subst, ◌∙◌}
use mathlib.Core.List.{List, [], ◌∷◌, ◌++◌}
use mathlib.Core.Option.{Option, none, some}
use mathlib.Core.Logic.{⊎_elim}
use native.Mathlib.Omega.{arith}
use lib.Dec.{eqb}
use lib.ListN.{length}
use borrow.Author.Tests.{eq-eqb}
use Rattle.entity.specs.Logic.{pick, has, twice}
use Rattle.rules.specs.Edit.{Edit}
use Rattle.rules.specs.Scratch.{Cache}
use Rattle.rules.specs.Counts.{sum}
use Rattle.rules.specs.Patch.{Patch, Answer, refused, resolved, resolve}
use Rattle.rules.specs.Take as take
use Rattle.rules.specs.Take.{Counted, stamped_by}
use Rattle.rules.proofs.Steps.{same?}
use Rattle.frame_rules.specs.Frame as frame
use Rattle.frame_rules.specs.Frame.{Inlined, open_refusal, Asked, Formula, Frame, opened, lacks, others_lack, reach, cache_in, now_in, function_in, resolve_in, made_to, with_cache}
use Rattle.frame_rules.specs.Promise.{Kept}
use Rattle.frame_rules.specs.Claim.{FrameStacks}
use Rattle.frame_rules.proofs.Calls.{sum-cong, reach-same, resolved-within, at_own, at_other, resolve_same}
use Rattle.frame_rules.proofs.Promise.{reach-is, sound}
use Rattle.group_rules.specs.Groups.{followed_by, behind, resolve_parts}
use Rattle.group_rules.proofs.Joined.{joint}

-- the same frame but for counts and answers to take
pub record SameBut (s s' : Frame) : Type 0 where
  pub limit : s'.limit ≡ s.limit
  pub number : s'.number ≡ s.number
  pub counter : s'.counter ≡ s.counter
  pub target : (j : ℕ) → (s'.formulas j).target ≡ (s.formulas j).target
  pub function : (j : ℕ) → (s'.formulas j).function ≡ (s.formulas j).function
  pub share : (j : ℕ) → (s'.formulas j).share ≡ (s.formulas j).share
  pub stacks : (j : ℕ) → (s'.formulas j).stacks ≡ (s.formulas j).stacks
  pub made : (j : ℕ) → (s'.formulas j).made ≡ (s.formulas j).made

pub same_self : (s : Frame) → SameBut s s
same_self s =
    record { limit = refl; number = refl; counter = refl; target = λ j. refl; function = λ j. refl; share = λ j. refl; stacks = λ j. refl; made = λ j. refl }

pub same-lacks : (s s' : Frame) → SameBut s s' → (j : ℕ) → lacks s' j ≡ lacks s j
same-lacks s s' b j = rw (b.share j, b.made j) refl

pub same-reach : (s s' : Frame) → SameBut s s' → (i : ℕ) → reach s' i ≡ reach s i
same-reach s s' b i = reach-same s s' i b.limit b.number b.counter (same-lacks s s' b)

pub same-resolve : (s s' : Frame) → SameBut s s' → (i : ℕ) (p : Patch) (room : ℕ) → resolve_in s' i p room ≡ resolve_in s i p room
same-resolve s s' b i p room = resolve_same s s' i (b.target i) (b.function i) (b.stacks i) b.counter (same-reach s s' b i) p room

pub same_kept : (s s' : Frame) → SameBut s s' → Kept s → Kept s'
same_kept s s' b k =
    record {
      counted = b.counter ∙ k.counted ∙ sym (ap (sum (λ j. (s'.formulas j).made)) b.number ∙ sum-cong (λ j. (s'.formulas j).made) (λ j. (s.formulas j).made) s.number b.made);
      within =
          omega (arith, k.within, b.counter, b.limit, ap (sum (lacks s')) b.number, sum-cong (lacks s') (lacks s) s.number (same-lacks s s' b));
    }

pub same-stacks : (n : ℕ) (s s' : Frame) → SameBut s s' → FrameStacks n s → FrameStacks n s'
same-stacks n s s' b k =
    record {
      listed = λ x lo hi. let q = k.listed x lo (omega (arith, b.counter, hi)) in (q.0, omega (arith, b.number, q.1), q.2, there x q.0 q.2 ∙ q.3);
      once = λ i h z. ap (λ st. twice (st z)) (b.stacks i) ∙ k.once i (omega (arith, b.number, h)) z;
      sole = λ x i j y z h m a c. k.sole x i j y z (omega (arith, b.number, h)) (omega (arith, b.number, m)) (sym (there x i y) ∙ a) (sym (there x j z) ∙ c);
      low = λ x i z h a. k.low x i z (omega (arith, b.number, h)) (sym (there x i z) ∙ a);
      below = λ x i z h a. omega (arith, b.counter, k.below x i z (omega (arith, b.number, h)) (sym (there x i z) ∙ a));
    }
  where
    there : (x i z : ℕ) → has x ((s'.formulas i).stacks z) ≡ has x ((s.formulas i).stacks z)
    there x i z = ap (λ st. has x (st z)) (b.stacks i)

-- s' is s with the cache c for formula i
pub record Then (s s' : Frame) (i : ℕ) (c : Cache) : Type 0 where
  pub limit : s'.limit ≡ s.limit
  pub number : s'.number ≡ s.number
  pub counter : s'.counter ≡ c.made
  pub target : (s'.formulas i).target ≡ (s.formulas i).target
  pub function : (s'.formulas i).function ≡ (s.formulas i).function
  pub share : (s'.formulas i).share ≡ (s.formulas i).share
  pub stacks : (s'.formulas i).stacks ≡ c.stacks
  pub made : (s'.formulas i).made ≡ made_to s i c.made
  pub other : (j : ℕ) → (j ≡ i → ⊥) → s'.formulas j ≡ s.formulas j

pub then-with : (s : Frame) (i : ℕ) (v : Counted) (a : List (Option Asked)) → Then s (with_cache s i v a) i v.cache
then-with s i v a =
    let o = at_own s i v a in
    record {
      limit = refl;
      number = refl;
      counter = refl;
      target = ap (λ (y : Formula). y.target) o;
      function = ap (λ (y : Formula). y.function) o;
      share = ap (λ (y : Formula). y.share) o;
      stacks = ap (λ (y : Formula). y.stacks) o;
      made = ap (λ (y : Formula). y.made) o;
      other = λ j d. at_other s i v a j d;
    }

-- one after the other
pub then-then : (s s' s'' : Frame) (i : ℕ) (c d : Cache) → s.counter ≤ c.made → c.made ≤ d.made → Then s s' i c → Then s' s'' i d → Then s s'' i d
then-then s s' s'' i c d lo hi a b =
    record {
      limit = b.limit ∙ a.limit;
      number = b.number ∙ a.number;
      counter = b.counter;
      target = b.target ∙ a.target;
      function = b.function ∙ a.function;
      share = b.share ∙ a.share;
      stacks = b.stacks;
      made = omega (arith, b.made, a.made, a.counter, lo, hi);
      other = λ j e. b.other j e ∙ a.other j e;
    }

-- so led from frames that are the same but for counts, they are the same but for counts
pub then_same : (s s' r r' : Frame) (i : ℕ) (c : Cache) → SameBut s r → Then s s' i c → Then r r' i c → SameBut s' r'
then_same s s' r r' i c b a d =
    record {
      limit = d.limit ∙ b.limit ∙ sym a.limit;
      number = d.number ∙ b.number ∙ sym a.number;
      counter = d.counter ∙ sym a.counter;
      target = λ j. at (λ y. y.target) j (d.target ∙ b.target i ∙ sym a.target) (b.target j);
      function = λ j. at (λ y. y.function) j (d.function ∙ b.function i ∙ sym a.function) (b.function j);
      share = λ j. at (λ y. y.share) j (d.share ∙ b.share i ∙ sym a.share) (b.share j);
      stacks = λ j. at (λ y. y.stacks) j (d.stacks ∙ sym a.stacks) (b.stacks j);
      made = λ j. at (λ y. y.made) j (omega (arith, d.made, a.made, b.made i, b.counter)) (b.made j);
    }
  where
    at : {A : Type 0} (h : Formula → A) (j : ℕ) → h (r'.formulas i) ≡ h (s'.formulas i) → h (r.formulas j) ≡ h (s.formulas j) → h (r'.formulas j) ≡ h (s'.formulas j)
    at h j own old =
        ⊎_elim (λ e. subst (λ (k : ℕ). h (r'.formulas k) ≡ h (s'.formulas k)) (sym e) own) (λ e. ap h (d.other j e) ∙ old ∙ sym (ap h (a.other j e))) (same? j i)

-- the others lack what they lacked
then-lacks : (s s' : Frame) (i : ℕ) (c : Cache) → Then s s' i c → others_lack s' i ≡ others_lack s i
unfolding others_lack
then-lacks s s' i c a =
    ap (sum (λ j. pick (eqb j i) 0 (lacks s' j))) a.number
    ∙ sum-cong (λ j. pick (eqb j i) 0 (lacks s' j)) (λ j. pick (eqb j i) 0 (lacks s j)) s.number
    (λ j. ⊎_elim (λ e. rw (eq-eqb j i e) refl) (λ e. ap (λ (y : Formula). pick (eqb j i) 0 (y.share - y.made)) (a.other j e)) (same? j i))

-- how far the counter may go stands still while a formula makes slots
pub then-reach : (s s' : Frame) (i : ℕ) (c : Cache) → i < s.number → Kept s → Kept s' → Then s s' i c → reach s' i ≡ reach s i
then-reach s s' i c h k k' a =
    reach-is s' i (omega (arith, a.number, h)) k' ∙ ap (λ (n : ℕ). n - others_lack s' i) a.limit ∙ ap (λ (n : ℕ). s.limit - n) (then-lacks s s' i c a) ∙ sym (reach-is s i h k)

-- ---- lists of 02 l's calls
after-append : (a b : List frame.FrameCall) (s : Frame) → frame.after_calls (a ++ b) s ≡ frame.after_calls b (frame.after_calls a s)
unfolding frame.after_calls
after-append [] b s = refl
after-append (x ∷ a) b s = after-append a b (frame.after_call s x)

named-append : (n : ℕ) (a b : List frame.FrameCall) → frame.Named n a → frame.Named n b → frame.Named n (a ++ b)
named-append n [] b h k = k
named-append n (x ∷ a) b h k = (h.0, named-append n a b h.1 k)

abbrev resolves : ℕ → Patch → ℕ → frame.FrameCall
resolves i q room = record { formula = i; request = take.resolving q room }

resolve-then : (s : Frame) (i : ℕ) (q : Patch) (room : ℕ) (es : List Edit) (c : Cache) (n : ℕ) → resolve_in s i q room ≡ resolved es c n → Then s (frame.after_call s (resolves i q room)) i c
unfolding frame.standing_in
resolve-then s i q room es c n e =
    subst (λ (r : Answer). Then s (with_cache s i (stamped_by (now_in s i) (some (record { patch = q; answer = r }))) (frame.asked_in s i (take.resolving q room))) i c) (sym e)
    (then-with s i _ _)

module _ (limit : ℕ) (l : List Inlined) (ok : open_refusal limit l ≡ none) where
  abbrev pub by : List frame.FrameCall → Frame
  by calls = frame.after_calls calls (opened limit l)

  -- one more
  abbrev more : List frame.FrameCall → frame.FrameCall → List frame.FrameCall
  more calls x = calls ++ (x ∷ [])

  by-more : (calls : List frame.FrameCall) (x : frame.FrameCall) → by (more calls x) ≡ frame.after_call (by calls) x
  unfolding frame.after_calls
  by-more calls x = after-append calls (x ∷ []) (opened limit l)

  by-kept : (calls : List frame.FrameCall) → frame.Named (length l) calls → Kept (by calls)
  by-kept calls k = (sound limit l ok calls k).kept

  by_number : (calls : List frame.FrameCall) → frame.Named (length l) calls → (by calls).number ≡ length l
  by_number calls k = (sound limit l ok calls k).number

  -- where a frame leads, and what was made
  pub record Led (s : Frame) (i : ℕ) (c : Cache) : Type 0 where
    pub calls : List frame.FrameCall
    pub named : frame.Named (length l) calls
    pub then : Then s (by calls) i c
    pub grows : s.counter ≤ c.made

  pub led-one : (calls : List frame.FrameCall) → frame.Named (length l) calls → (i : ℕ) → i < length l → (q : Patch) (room : ℕ) (es : List Edit) (c : Cache) (n : ℕ)
      → resolve_in (by calls) i q room ≡ resolved es c n → Led (by calls) i c
  led-one calls k i h q room es c n e =
      record {
        calls = more calls (resolves i q room);
        named = named-append (length l) calls (resolves i q room ∷ []) k (h, tt);
        then = rw (by-more calls (resolves i q room)) (resolve-then (by calls) i q room es c n e);
        grows = (resolved-within (by calls) i q room es c n e).0;
      }

  -- groups one after the other
  module _ (i : ℕ) (il : i < length l) (room : ℕ) where
    abbrev PartsIn : Frame → List Patch → Answer
    PartsIn s qs = resolve_parts (s.formulas i).target (function_in s i) qs room (cache_in s i)

    -- what is left of them, in the frame that the first leads to
    rest_in : (s s' : Frame) (c : Cache) → i < s.number → Kept s → Kept s' → Then s s' i c → (qs : List Patch) → resolve_parts (s.formulas i).target (function_in s i) qs room c ≡ PartsIn s' qs
    rest_in s s' c h k k' a qs =
        rw (then-reach s s' i c h k k' a, a.target, a.function, a.stacks, a.counter) refl

    pub led-parts : (qs : List Patch) (calls : List frame.FrameCall) → frame.Named (length l) calls → (es : List Edit) (c : Cache) (n : ℕ) → PartsIn (by calls) qs ≡ resolved es c n → Led (by calls) i c
    unfolding resolve_parts resolve_in
    led-parts [] calls k es c n e =
        let z : cache_in (by calls) i ≡ c = cc in
        subst (Led (by calls) i) z
        (record {
          calls = calls;
          named = k;
          then = record { limit = refl; number = refl; counter = refl; target = refl; function = refl; share = refl; stacks = refl; made = omega arith; other = λ j d. refl };
          grows = omega arith;
        })
    led-parts (q ∷ qs) calls k es c n e =
        let s = by calls in
        let j = joint (resolve (s.formulas i).target (function_in s i) q room (cache_in s i)) (λ d. resolve_parts (s.formulas i).target (function_in s i) qs room d) es c n e in
        let one = led-one calls k i il q room j.front j.between j.at j.first in
        let r : PartsIn (by one.calls) qs ≡ resolved j.back c j.at' =
        sym (rest_in s (by one.calls) j.between (omega (arith, by_number calls k, il)) (by-kept calls k) (by-kept one.calls one.named) one.then qs) ∙ j.rest in
        let two = led-parts qs one.calls one.named j.back c j.at' r in
        let up : j.between.made ≤ c.made = omega (arith, two.grows, one.then.counter) in
        record {
          calls = two.calls;
          named = two.named;
          then = then-then s (by one.calls) (by two.calls) i j.between c one.grows up one.then two.then;
          grows = omega (arith, one.grows, up);
        }

    -- one of them is refused: in a frame that calls lead to
    pub record Refused (n : ℕ) : Type 0 where
      pub calls : List frame.FrameCall
      pub named : frame.Named (length l) calls
      pub patch : Patch
      pub is : resolve_in (by calls) i patch room ≡ refused n

    behind-refused : (es : List Edit) (m : ℕ) (r : Answer) (n : ℕ) → behind es m r ≡ refused n → r ≡ refused n
    behind-refused es m (refused k) n e = e
    behind-refused es m (resolved fs d k) n e = let z : ◌≡◌ {A = ℕ} 0 1 = cc in absurd (omega arith)

    pub parts-refused : (qs : List Patch) (calls : List frame.FrameCall) → frame.Named (length l) calls → (n : ℕ) → PartsIn (by calls) qs ≡ refused n → Refused n
    unfolding resolve_parts resolve_in
    parts-refused [] calls k n e = let z : ◌≡◌ {A = ℕ} 0 1 = cc in absurd (omega arith)
    parts-refused (q ∷ qs) calls k n e = go (resolve ((by calls).formulas i).target (function_in (by calls) i) q room (cache_in (by calls) i)) refl e (λ c h. parts-refused qs c h n)
      where
        go : (r : Answer) → resolve ((by calls).formulas i).target (function_in (by calls) i) q room (cache_in (by calls) i) ≡ r
            → followed_by r (λ d. resolve_parts ((by calls).formulas i).target (function_in (by calls) i) qs room d) ≡ refused n
            → ((c : List frame.FrameCall) → frame.Named (length l) c → PartsIn (by c) qs ≡ refused n → Refused n) → Refused n
        go (refused m) h e on = record { calls = calls; named = k; patch = q; is = h ∙ e }
        go (resolved es d m) h e on =
            let one = led-one calls k i il q room es d m h in
            on one.calls one.named
            (sym (rest_in (by calls) (by one.calls) d (omega (arith, by_number calls k, il)) (by-kept calls k) (by-kept one.calls one.named) one.then qs) ∙ behind-refused es m _ n e)
