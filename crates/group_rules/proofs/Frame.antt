-- Demand 3, the slots, the promised shares and 02 j in a frame, over lists in which patches are resolved by groups too.
use Prim.Native.Nat.{ℕ, ◌+◌, ◌-◌, ◌*◌, ◌<◌, ◌≤◌}
use mathlib.Core.Path.{◌≡◌, refl, sym, ap, subst, ◌∙◌}
use mathlib.Core.Bool.{Bool, true, false, true≢false, ◌&&◌}
use mathlib.Core.List.{List, [], ◌∷◌, ◌++◌}
use mathlib.Core.Option.{Option, none, some}
use mathlib.Core.Logic.{◌⊎◌, inl, inr, ⊎_elim}
use native.Mathlib.Omega.{arith}
use lib.Dec.{T, ltb}
use lib.ListN.{length, get_or}
use Rattle.entity.specs.Logic.{no, has, twice}
use Rattle.entity.proofs.Laws.{or-false}
use Rattle.reginfo.specs.RegInfo.{RegInfo}
use Rattle.reginfo.specs.Refused.{Condition, or_else, first_of}
use Rattle.function.specs.Function.{Function}
use Rattle.rules.specs.Edit.{Edit}
use Rattle.rules.specs.Scratch.{Cache, ScratchAllocator}
use Rattle.rules.specs.Patch.{Entry, Patch, Sorted, nothing_sorted, bound, Answer, refused, resolved, answer_of, unless_refused, cache_after, add, sorted, entry_conditions, free_destination, last_overlaps, patch_conditions, resolve}
use Rattle.rules.specs.Refusals.{entries_conditions, EndsWithSlots}
use Rattle.rules.specs.Take as take
use Rattle.rules.specs.Take.{Counted, Standing, answer_in, stamped_by}
use Rattle.rules.proofs.Enough.{only-by-slots}
use Rattle.rules.proofs.Steps.{same?}
use Rattle.rules.proofs.Tested.{tested, entry_other}
use Rattle.machine.specs.Claim.{Answered, Owed}
use Rattle.machine.specs.Enough.{num_sizes}
use Rattle.machine.proofs.Cache.{CacheOk}
use Rattle.machine.proofs.Demand.{called}
use Rattle.machine.proofs.Memory.{distinct}
use Rattle.machine.proofs.Tests.{of-yes}
use Rattle.frame_rules.specs.Frame as frame
use Rattle.frame_rules.specs.Frame.{Inlined, open_refusal, first_slots, Asked, Formula, Frame, no_formula, opened, reach, cache_in, now_in, function_in, resolve_in, taken_in, made_to, with_cache}
use Rattle.frame_rules.specs.Promise.{Kept, PromisedTo}
use Rattle.frame_rules.specs.Claim.{FrameStacks}
use Rattle.frame_rules.specs.Takes.{Unchanged}
use Rattle.frame_rules.proofs.Calls.{reach-same, Moved, Stands, PreviewsIn, moved, previews-after, previews-opened, at_own, at_other, resolve_same, lacks-stay, take-now, take-late, fresh-or-late}
use Rattle.frame_rules.proofs.Promise.{promised-to}
use Rattle.frame_rules.proofs.Given.{Known, known, is-target, is_within, is-slots}
use Rattle.frame_rules.proofs.Claim as claims
use Rattle.frame_rules.proofs.EnoughShare.{enough-share}
use Rattle.frame_rules.proofs.Unread.{answered-same}
use Rattle.frame_rules.proofs.Takes as takes
use Rattle.group_rules.specs.Groups.{followed_by, behind, parts, resolve_parts, whole_conditions, resolve_by_groups}
use Rattle.group_rules.specs.Requests.{Request, single, grouping}
use Rattle.group_rules.specs.Frame.{groups_in, standing_in, answered_in, asked_in, after_in, FrameCall, after_call, after_calls, Named, FrameClaim, FrameDemand3, FrameSlots, OutAbove, PromisedToGroups, Promised, EnoughShare, RefusedUnchanged}
use Rattle.group_rules.proofs.Refusals.{by_number}
use Rattle.group_rules.proofs.Joined.{passed-whole, grouped}
use Rattle.group_rules.proofs.Simulated.{SameBut, same_self, same-reach, same-resolve, same_kept, same-stacks, then-with, then_same, by, Led, led-one, led-parts, parts-refused}

-- ---- answers to take, after a call by groups
-- the cache and its count stay, or the count is raised
abbrev Raised : Frame → ℕ → Counted → Type 0
Raised s j v = ((v.cache ≡ cache_in s j) × (v.count ≡ (s.formulas j).count)) ⊎ ((s.formulas j).count < v.count)

module _ (s : Frame) (j : ℕ) (v : Counted) (l : List (Option Asked)) (up : s.counter ≤ v.cache.made) where
  abbrev then : Frame
  then = with_cache s j v l

  reach-stays : (i : ℕ) → v.cache.made ≡ s.counter → reach then i ≡ reach s i
  reach-stays i e = reach-same s then i refl refl e (lacks-stay s j v l e)

  other-stands : (i : ℕ) → (i ≡ j → ⊥) → (a : Asked) → Stands s i a → Stands then i a
  other-stands i d a g =
      let f : then.formulas i ≡ s.formulas i = at_other s j v l i d in
      record {
        count_low = rw f g.count_low;
        counter-low = omega (arith, g.counter-low, up);
        same = λ e h.
            let q : v.cache.made ≡ s.counter = omega (arith, g.counter-low, up, h) in
            resolve_same s then i (ap (λ (y : Formula). y.target) f) (ap (λ (y : Formula). y.function) f) (ap (λ (y : Formula). y.stacks) f) q (reach-stays i q) a.preview.patch a.preview.room
            ∙ g.same (e ∙ ap (λ (y : Formula). y.count) f) (h ∙ q);
      }

  own-stands : (a : Asked) → Stands s j a → Raised s j v → Stands then j a
  own-stands a g (inr m) =
      let count-is : (then.formulas j).count ≡ v.count = ap (λ (y : Formula). y.count) (at_own s j v l) in
      record {
        count_low = omega (arith, g.count_low, count-is, m);
        counter-low = omega (arith, g.counter-low, up);
        same = λ e k. absurd (omega (arith, g.count_low, count-is, m, e));
      }
  own-stands a g (inl h) =
      let f = at_own s j v l in
      let count-is : (then.formulas j).count ≡ v.count = ap (λ (y : Formula). y.count) f in
      let q : v.cache.made ≡ s.counter = ap (λ (y : Cache). y.made) h.0 in
      record {
        count_low = omega (arith, g.count_low, count-is, h.1);
        counter-low = omega (arith, g.counter-low, q);
        same = λ e k.
            resolve_same s then j (ap (λ (y : Formula). y.target) f) (ap (λ (y : Formula). y.function) f) (ap (λ (y : Formula). y.stacks) f ∙ ap (λ (y : Cache). y.stacks) h.0) q (reach-stays j q) a.preview.patch a.preview.room
            ∙ g.same (e ∙ count-is ∙ h.1) (k ∙ q);
      }

-- with the answers to take as they were
previews-on : (s : Frame) (j : ℕ) (v : Counted) → s.counter ≤ v.cache.made → Raised s j v → ((i : ℕ) → PreviewsIn s i) → (i : ℕ) → PreviewsIn (with_cache s j v (s.formulas j).asked) i
previews-on s j v up m k i n a e = ⊎_elim own other (same? i j)
  where
    own : i ≡ j → Stands (with_cache s j v (s.formulas j).asked) i a
    own q =
        let e' : get_or ((with_cache s j v (s.formulas j).asked).formulas j).asked n none ≡ some a = subst (λ (y : ℕ). get_or ((with_cache s j v (s.formulas j).asked).formulas y).asked n none ≡ some a) q e in
        let e'' : get_or (s.formulas j).asked n none ≡ some a = sym (ap (λ (y : Formula). get_or y.asked n none) (at_own s j v (s.formulas j).asked)) ∙ e' in
        subst (λ (y : ℕ). Stands (with_cache s j v (s.formulas j).asked) y a) (sym q) (own-stands s j v (s.formulas j).asked up a (k j n a e'') m)

    other : (i ≡ j → ⊥) → Stands (with_cache s j v (s.formulas j).asked) i a
    other d = other-stands s j v (s.formulas j).asked up i d a (k i n a (sym (ap (λ (y : Formula). get_or y.asked n none) (at_other s j v (s.formulas j).asked i d)) ∙ e))

raised_by : (s : Frame) (j : ℕ) (p : Patch) (r : Answer) → Raised s j (stamped_by (now_in s j) (some (record { patch = p; answer = r })))
raised_by s j p (refused n) = inl (refl, omega arith)
raised_by s j p (resolved es c n) = inr (omega arith)

once-distinct : (l : List ℕ) → twice l ≡ false → T (distinct l)
unfolding twice distinct
once-distinct [] e = tt
once-distinct (x ∷ l) e = let h = or-false (has x l) (twice l) e in go (has x l) h.0 (once-distinct l h.1)
  where
    go : (b : Bool) → b ≡ false → T (distinct l) → T (no b && distinct l)
    go true e h = absurd (true≢false e)
    go false e h = h

ran_out : (o : Option ScratchAllocator) → answer_of o ≡ refused 17 → o ≡ none
ran_out none e = refl
ran_out (some k) e = let z : ◌≡◌ {A = ℕ} 0 1 = cc in absurd (omega arith)

-- ---- the whole patch's tests give no 17
module _ (t : RegInfo) (f : Function) where
  first_either : (xs ys : List Condition) (n : ℕ) → first_of (xs ++ ys) ≡ some n → (first_of xs ≡ some n) ⊎ (first_of ys ≡ some n)
  unfolding first_of
  first_either [] ys n e = inr e
  first_either (x ∷ xs) ys n e = go x.holds e (first_either xs ys n)
    where
      go : (b : Bool) → or_else b x.number (first_of (xs ++ ys)) ≡ some n → (first_of (xs ++ ys) ≡ some n → (first_of xs ≡ some n) ⊎ (first_of ys ≡ some n))
          → (or_else b x.number (first_of xs) ≡ some n) ⊎ (first_of ys ≡ some n)
      go true e on = inl e
      go false e on = on e

  entries-other : (es : List Entry) (a : Sorted) (n : ℕ) → first_of (entries_conditions t f es a) ≡ some n → n ≡ 17 → ⊥
  unfolding entries_conditions first_of
  entries-other [] a n e h = let z : ◌≡◌ {A = ℕ} 0 1 = cc in omega arith
  entries-other (x ∷ es) a n e h =
      ⊎_elim (λ q. entry_other t f a x n q h) (λ q. entries-other es (add t f x a) n q h) (first_either (entry_conditions t f a x) (entries_conditions t f es (add t f x a)) n e)

  three-other : (a b c : Bool) (n : ℕ) → or_else a 13 (or_else b 14 (or_else c 16 none)) ≡ some n → n ≡ 17 → ⊥
  three-other true b c n e h = let z : 13 ≡ n = cc in omega arith
  three-other false true c n e h = let z : 14 ≡ n = cc in omega arith
  three-other false false true n e h = let z : 16 ≡ n = cc in omega arith
  three-other false false false n e h = let z : ◌≡◌ {A = ℕ} 0 1 = cc in omega arith

  whole-other : (p : Patch) (room n : ℕ) → first_of (whole_conditions t f p room) ≡ some n → n ≡ 17 → ⊥
  unfolding patch_conditions first_of
  whole-other p room n e h =
      ⊎_elim (λ q. entries-other p.entries nothing_sorted n q h) (λ q. three-other (free_destination t f p (sorted t f p)) (last_overlaps t f (sorted t f p)) (ltb room (bound (sorted t f p))) n q h) (first_either (entries_conditions t f p.entries nothing_sorted) (patch_conditions t f p room (sorted t f p)) n e)

module _ (limit : ℕ) (l : List Inlined) (ok : open_refusal limit l ≡ none) where
  -- but for counts and answers to take, 02 l's calls lead there; and the answers to take are good
  pub record Sim (s : Frame) : Type 0 where
    pub calls : List frame.FrameCall
    pub named : frame.Named (length l) calls
    pub same : SameBut (by limit l ok calls) s
    pub previews : (i : ℕ) → PreviewsIn s i

  module _ (s : Frame) (g : Sim s) where
    abbrev s° : Frame
    s° = by limit l ok g.calls

    parts_same : (i room : ℕ) (qs : List Patch)
        → resolve_parts (s.formulas i).target (function_in s i) qs room (cache_in s i) ≡ resolve_parts (s°.formulas i).target (function_in s° i) qs room (cache_in s° i)
    parts_same i room qs = rw (same-reach s° s g.same i, g.same.target i, g.same.function i, g.same.stacks i, g.same.counter) refl

    cache-same : (i : ℕ) → cache_in s° i ≡ cache_in s i
    cache-same i = rw (g.same.stacks i, g.same.counter) refl

    stay : (i : ℕ) (c : Cache) → c ≡ cache_in s i → Led limit l ok s° i c
    stay i c e =
        let q = e ∙ sym (cache-same i) in
        subst (Led limit l ok s° i) (sym q)
        (record {
          calls = g.calls;
          named = g.named;
          then = record { limit = refl; number = refl; counter = refl; target = refl; function = refl; share = refl; stacks = refl; made = omega arith; other = λ j d. refl };
          grows = omega arith;
        })

    led-groups : (i : ℕ) → i < length l → (p : Patch) (room : ℕ) (r : Answer) → groups_in s i p room ≡ r → Led limit l ok s° i (cache_after (cache_in s i) r)
    unfolding groups_in
    led-groups i h p room (refused n) e = stay i (cache_in s i) refl
    led-groups i h p room (resolved es c n) e =
        led-parts limit l ok i h room (parts (s.formulas i).target p) g.calls g.named es c n
        (sym (parts_same i room (parts (s.formulas i).target p)) ∙ (passed-whole (s.formulas i).target (function_in s i) p room (cache_in s i) c es n e).1)

    led-moved : (i : ℕ) → i < length l → (v : Counted) → Moved s i v → Led limit l ok s° i v.cache
    led-moved i h v (inl q) = stay i v.cache q.0
    led-moved i h v (inr q) = led-one limit l ok g.calls g.named i h q.patch q.room q.edits v.cache q.position (sym (same-resolve s° s g.same i q.patch q.room) ∙ q.is)

    led : (i : ℕ) → i < length l → (x : Request) → Led limit l ok s° i (stamped_by (now_in s i) (standing_in s i x)).cache
    unfolding standing_in
    led i h (single x) = led-moved i h (stamped_by (now_in s i) (frame.standing_in s i x)) (moved s i x (g.previews i))
    led i h (grouping p room) = led-groups i h p room (groups_in s i p room) refl

    pub goes-up : (i : ℕ) → i < length l → (x : Request) → s.counter ≤ (stamped_by (now_in s i) (standing_in s i x)).cache.made
    goes-up i h x = omega (arith, (led i h x).grows, g.same.counter)

    previews-then : (i : ℕ) → i < length l → (x : Request) → (k : ℕ) → PreviewsIn (after_in s i x) k
    unfolding standing_in asked_in
    previews-then i h (single x) = previews-after s i x g.previews
    previews-then i h (grouping p room) =
        previews-on s i (stamped_by (now_in s i) (standing_in s i (grouping p room))) (goes-up i h (grouping p room)) (raised_by s i p (groups_in s i p room)) g.previews

    pub sim-after : (i : ℕ) → i < length l → (x : Request) → Sim (after_in s i x)
    sim-after i h x =
        let d = led i h x in
        record {
          calls = d.calls;
          named = d.named;
          same = then_same s° (by limit l ok d.calls) s (after_in s i x) i _ g.same d.then (then-with s i (stamped_by (now_in s i) (standing_in s i x)) (asked_in s i x));
          previews = previews-then i h x;
        }

    -- ---- what is known of such a frame
    kept : Kept s
    kept = same_kept s° s g.same (known limit l ok g.calls g.named).sound.kept

    number_is : s.number ≡ length l
    number_is = g.same.number ∙ (known limit l ok g.calls g.named).sound.number

    pub stacks : FrameStacks (first_slots l) s
    stacks = same-stacks (first_slots l) s° s g.same (claims.frame-slots limit l ok g.calls g.named)

    pub known-here : Known limit l s
    known-here =
        let k = known limit l ok g.calls g.named in
        record {
          given =
              record {
                limit_is = g.same.limit ∙ k.given.limit_is;
                target_is = λ i. g.same.target i ∙ k.given.target_is i;
                function-is = λ i. g.same.function i ∙ k.given.function-is i;
                share-is = λ i. g.same.share i ∙ k.given.share-is i;
              };
          sound = record { number = number_is; previews = g.previews; kept = kept };
        }

    -- ---- no 17 within a share that is enough
    module _ (i : ℕ) (il : i < length l) (enough : (128 + (get_or l i no_formula).function.kept) * num_sizes (get_or l i no_formula).target (get_or l i no_formula).function ≤ (get_or l i no_formula).share) where
      not-here : (c : List frame.FrameCall) → frame.Named (length l) c → (p : Patch) (room : ℕ) → resolve_in (by limit l ok c) i p room ≡ refused 17 → ⊥
      unfolding frame.answered_in frame.standing_in
      not-here c k p room e = enough-share limit l ok c k i il enough (take.resolving p room) (ap some e)

      not-resolved : (p : Patch) (room : ℕ) → resolve_in s i p room ≡ refused 17 → ⊥
      not-resolved p room e = not-here g.calls g.named p room (sym (same-resolve s° s g.same i p room) ∙ e)

      not-grouped : (p : Patch) (room : ℕ) → groups_in s i p room ≡ refused 17 → ⊥
      unfolding groups_in resolve_by_groups resolve_in
      not-grouped p room e = go (first_of (whole_conditions (s.formulas i).target (function_in s i) p room)) refl e
        where
          go : (o : Option ℕ) → first_of (whole_conditions (s.formulas i).target (function_in s i) p room) ≡ o
              → unless_refused o (resolve_parts (s.formulas i).target (function_in s i) (parts (s.formulas i).target p) room (cache_in s i)) ≡ refused 17 → ⊥
          go (some n) h e = not-resolved p room (by_number (s.formulas i).target (function_in s i) p room (cache_in s i) n h ∙ e)
          go none h e =
              let r = parts-refused limit l ok i il room (parts (s.formulas i).target p) g.calls g.named 17 (sym (parts_same i room (parts (s.formulas i).target p)) ∙ e) in
              not-here r.calls r.named r.patch room r.is

      never : (x : Request) → answered_in s i x ≡ some (refused 17) → ⊥
      unfolding answered_in standing_in frame.answered_in frame.standing_in
      never (single (take.resolving p room)) e = let q : resolve_in s i p room ≡ refused 17 = cc in not-resolved p room q
      never (single (take.asking p room)) e = let q : resolve_in s i p room ≡ refused 17 = cc in not-resolved p room q
      never (single (take.taking n)) e = go (get_or (s.formulas i).asked n none) e
        where
          go : (o : Option Asked) → answer_in (taken_in o s i) ≡ some (refused 17) → ⊥
          go none e = let w : ◌≡◌ {A = ℕ} 0 1 = cc in absurd (omega arith)
          go (some a) e =
              ⊎_elim (λ h. let q = take-now s i a h.0 h.1 in let w : ◌≡◌ {A = ℕ} 0 1 = cc in absurd (omega arith))
              (λ h. let q = take-late s i a h in let w : ◌≡◌ {A = ℕ} 17 20 = cc in absurd (omega arith)) (fresh-or-late s i a)
      never (grouping p room) e = let q : groups_in s i p room ≡ refused 17 = cc in not-grouped p room q

    -- ---- demand 3
    module _ (i : ℕ) (il : i < length l) where
      abbrev t : RegInfo
      t = (s.formulas i).target

      abbrev f : Function
      f = (s.formulas i).function

      in-number : i < s.number
      in-number = omega (arith, number_is, il)

      cache-ok : CacheOk t (function_in s i) (cache_in s i)
      cache-ok =
          let n = is-slots limit l ok s known-here i il in
          record {
            once = λ z. once-distinct ((s.formulas i).stacks z) (stacks.once i in-number z);
            sole = λ y z x a b. (stacks.sole x i i y z in-number in-number (of-yes _ a) (of-yes _ b)).1;
            low = λ z x a. omega (arith, n, stacks.low x i z in-number (of-yes _ a));
            made = λ z x a. omega (arith, n, stacks.below x i z in-number (of-yes _ a));
          }

      owed-call : (p : Patch) (room : ℕ) (r : Answer) → resolve_in s i p room ≡ r → Answered t f p r
      unfolding resolve_in
      owed-call p room r e =
          answered-same t f (reach s i) p r
          (called t (function_in s i) (is-target limit l ok s known-here i il) (is_within limit l ok s known-here i il) (record { patch = p; room = room }) (cache_in s i) cache-ok r e).0

      owed-single : (x : take.Request) (o : Option Standing) → frame.standing_in s i x ≡ o → Owed t f o
      owed-single x none e = tt
      owed-single x (some y) e = ⊎_elim (λ q. rw q tt) (λ q. owed-call y.patch q.0 y.answer q.1) (claims.stands s i x (g.previews i) y e)

      owed : (x : Request) → Owed t f (standing_in s i x)
      unfolding standing_in groups_in
      owed (single x) = owed-single x (frame.standing_in s i x) refl
      owed (grouping p room) =
          answered-same t f (reach s i) p (groups_in s i p room)
          (grouped t (function_in s i) (is-target limit l ok s known-here i il) (is_within limit l ok s known-here i il) p room (cache_in s i) cache-ok (groups_in s i p room) refl).0

      -- ---- 17 comes above the share alone
      promise : PromisedTo s i
      promise = promised-to s i in-number kept

      above-one : (q : Patch) (room : ℕ) (c : Cache) → resolve t (function_in s i) q room c ≡ refused 17
          → (k : ScratchAllocator) × EndsWithSlots t (function_in s i) q (sorted t (function_in s i) q) c k × ((s.formulas i).share < made_to s i k.cache.made)
      above-one q room c e =
          let y = tested t (function_in s i) q room c (refused 17) refl e in
          let o = only-by-slots t (function_in s i) q (sorted t (function_in s i) q) c in
          let out = o.2.out.0 (ran_out _ y.1) in
          (o.0, o.1, omega (arith, out.0, out.1, promise.free))

      above-parts : (qs : List Patch) (room : ℕ) (c : Cache) → resolve_parts t (function_in s i) qs room c ≡ refused 17 → OutAbove s i room qs c
      unfolding resolve_parts
      above-parts [] room c e = let z : ◌≡◌ {A = ℕ} 0 1 = cc in absurd (omega arith)
      above-parts (q ∷ qs) room c e = go (resolve t (function_in s i) q room c) refl e (λ d. above-parts qs room d)
        where
          later : (es : List Edit) (m : ℕ) (r : Answer) → behind es m r ≡ refused 17 → r ≡ refused 17
          later es m (refused k) e = e
          later es m (resolved fs d k) e = let z : ◌≡◌ {A = ℕ} 0 1 = cc in absurd (omega arith)

          go : (r : Answer) → resolve t (function_in s i) q room c ≡ r → followed_by r (λ d. resolve_parts t (function_in s i) qs room d) ≡ refused 17
              → ((d : Cache) → resolve_parts t (function_in s i) qs room d ≡ refused 17 → OutAbove s i room qs d) → OutAbove s i room (q ∷ qs) c
          go (refused n) h e on = inl (above-one q room c (h ∙ e))
          go (resolved es d m) h e on = inr (es, d, m, h, on d (later es m (resolve_parts t (function_in s i) qs room d) e))

      above : (p : Patch) (room : ℕ) → groups_in s i p room ≡ refused 17 → OutAbove s i room (parts t p) (cache_in s i)
      unfolding groups_in resolve_by_groups
      above p room e = go (first_of (whole_conditions t (function_in s i) p room)) refl e
        where
          go : (o : Option ℕ) → first_of (whole_conditions t (function_in s i) p room) ≡ o → unless_refused o (resolve_parts t (function_in s i) (parts t p) room (cache_in s i)) ≡ refused 17
              → OutAbove s i room (parts t p) (cache_in s i)
          go (some n) h e = let z : n ≡ 17 = cc in absurd (whole-other t (function_in s i) p room n h z)
          go none h e = above-parts (parts t p) room (cache_in s i) e

      promised-here : PromisedToGroups s i
      promised-here =
          record {
            promised = promise;
            lasts = λ x d.
                ap (λ (y : Formula). y.share - y.made)
                (at_other s x.formula (stamped_by (now_in s x.formula) (standing_in s x.formula x.request)) (asked_in s x.formula x.request) i (λ e. d (sym e)));
            above = above;
          }

  pub sim-opened : Sim (opened limit l)
  unfolding frame.after_calls
  sim-opened = record { calls = []; named = tt; same = same_self (opened limit l); previews = previews-opened limit l }

  sim-all : (calls : List FrameCall) → Named (length l) calls → (s : Frame) → Sim s → Sim (after_calls calls s)
  unfolding after_calls
  sim-all [] k s g = g
  sim-all (x ∷ xs) k s g = sim-all xs k.1 (after_call s x) (sim-after s g x.formula k.0 x.request)

  pub sim : (calls : List FrameCall) → Named (length l) calls → Sim (after_calls calls (opened limit l))
  sim calls k = sim-all calls k (opened limit l) sim-opened

pub frame-slots : FrameSlots
frame-slots limit l ok calls k = stacks limit l ok (after_calls calls (opened limit l)) (sim limit l ok calls k)

pub enough-in-frame : EnoughShare
enough-in-frame limit l ok calls k i il enough x = never limit l ok (after_calls calls (opened limit l)) (sim limit l ok calls k) i il enough x

pub promised : Promised
promised limit l ok calls k =
    let g = sim limit l ok calls k in
    (kept limit l ok (after_calls calls (opened limit l)) g, λ i h. promised-here limit l ok (after_calls calls (opened limit l)) g i h)

frame-claim : (limit : ℕ) (l : List Inlined) (ok : open_refusal limit l ≡ none) (calls : List FrameCall) → Named (length l) calls → (s : Frame) → Sim limit l ok s → FrameClaim calls s
frame-claim limit l ok [] k s g = tt
frame-claim limit l ok (x ∷ xs) k s g =
    (owed limit l ok s g x.formula k.0 x.request, frame-claim limit l ok xs k.1 (after_call s x) (sim-after limit l ok s g x.formula k.0 x.request))

pub frame-demand-3 : FrameDemand3
frame-demand-3 limit l ok calls k = frame-claim limit l ok calls k (opened limit l) (sim-opened limit l ok)

-- ---- a refused call
pub unmoved : (s : Frame) (i : ℕ) (v : Counted) (a : List (Option Asked)) → v.cache ≡ cache_in s i → v.count ≡ (s.formulas i).count → Unchanged s (with_cache s i v a)
unmoved s i v a e h =
    let o = at_own s i v a in
    let q : v.cache.made ≡ s.counter = ap (λ (y : Cache). y.made) e in
    record {
      counter = q;
      stacks = λ j. at (λ y. y.stacks) j (ap (λ (y : Formula). y.stacks) o ∙ ap (λ (y : Cache). y.stacks) e);
      made = λ j. at (λ y. y.made) j (omega (arith, ap (λ (y : Formula). y.made) o, q));
      count = λ j. at (λ y. y.count) j (ap (λ (y : Formula). y.count) o ∙ h);
    }
  where
    at : {A : Type 0} (h : Formula → A) (j : ℕ) → h ((with_cache s i v a).formulas i) ≡ h (s.formulas i) → h ((with_cache s i v a).formulas j) ≡ h (s.formulas j)
    at h j own = ⊎_elim (λ e. subst (λ (k : ℕ). h ((with_cache s i v a).formulas k) ≡ h (s.formulas k)) (sym e) own) (λ d. ap h (at_other s i v a j d)) (same? j i)

pub refused-unchanged : RefusedUnchanged
unfolding answered_in standing_in asked_in
refused-unchanged s i (single x) n e = takes.refused-unchanged s i x n e
refused-unchanged s i (grouping p room) n e = go (groups_in s i p room) cc
  where
    go : (r : Answer) → r ≡ refused n → Unchanged s (with_cache s i (stamped_by (now_in s i) (some (record { patch = p; answer = r }))) (s.formulas i).asked)
    go (refused m) e = unmoved s i _ (s.formulas i).asked refl (omega arith)
    go (resolved es c m) e = let z : ◌≡◌ {A = ℕ} 0 1 = cc in absurd (omega arith)
