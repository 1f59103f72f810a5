-- What a take is answered in a frame.
use Prim.Native.Nat.{ℕ, zero, suc, ◌+◌, ◌-◌, ◌<◌, ◌≤◌}
use mathlib.Core.Path.{◌≡◌, refl, sym, ap, subst, ◌∙◌}
use mathlib.Core.List.{List, [], ◌∷◌, ◌++◌}
use mathlib.Core.Option.{Option, none, some}
use mathlib.Core.Logic.{◌⊎◌, inl, inr, ⊎_elim}
use native.Mathlib.Omega.{arith}
use lib.Dec.{eqb}
use lib.ListN.{length, get_or, length-append, get_or-append}
use borrow.Author.Tests.{eq-eqb, ne_eqb}
use Rattle.entity.specs.Logic.{pick}
use Rattle.rules.specs.Edit.{Edit}
use Rattle.rules.specs.Scratch.{Cache}
use Rattle.rules.specs.Patch.{Patch, Answer, refused, resolved, cache_after}
use Rattle.rules.specs.Take.{Counted, Request, resolving, asking, taking, counts, preview_of, Standing, answer_in, stamped_by, counts_in}
use Rattle.rules.proofs.Steps.{same?}
use Rattle.frame_rules.specs.Frame.{Asked, Formula, Frame, opened, cache_in, now_in, resolve_in, take_in, taken_in, asked_of, standing_in, answered_in, asked_in, made_to, after_in, FrameCall, after_call, after_calls, Named, edits, told_of}
use Rattle.frame_rules.specs.Takes.{settled_by, behind_in, its_take_in, TwentyIn, AsResolvedIn, Unchanged, RefusedUnchanged, AskingUnchanged, TakesInFrame}
use Rattle.frame_rules.proofs.Calls.{PreviewsIn, moved, goes_on, at_own, at_other, take-now, take-late, fresh-or-late}
use Rattle.frame_rules.proofs.Promise.{Sound, sound-after, sound}

-- a take that is not refused is a call
are-calls : (s : Frame) (i : ℕ) → PreviewsIn s i → (n : ℕ) (a : Asked) (es : List Edit) (c : Cache) (m : ℕ) → get_or (s.formulas i).asked n none ≡ some a
    → take_in a s i ≡ resolved es c m → resolve_in s i a.preview.patch a.preview.room ≡ resolved es c m
are-calls s i k n a es c m e h =
    ⊎_elim (λ q. (k n a e).same q.0 q.1 ∙ sym (take-now s i a q.0 q.1) ∙ h)
    (λ q. let r = take-late s i a q in let z : ◌≡◌ {A = ℕ} 0 1 = cc in absurd (omega arith)) (fresh-or-late s i a)

counted-by : (c : Counted) (o : Option Standing) → (stamped_by c o).count ≡ c.count + counts_in o
counted-by c none = omega arith
counted-by c (some x) = refl

-- one call: the count of formula i and the counter go on, and the answers of its askings stay where they are
module _ (i : ℕ) (s : Frame) (x : FrameCall) where
  count-call : ((after_call s x).formulas i).count ≡ (s.formulas i).count + pick (eqb x.formula i) (counts_in (standing_in s i x.request)) 0
  count-call = ⊎_elim own other (same? x.formula i)
    where
      own : x.formula ≡ i → ((after_call s x).formulas i).count ≡ (s.formulas i).count + pick (eqb x.formula i) (counts_in (standing_in s i x.request)) 0
      own q =
          rw (eq-eqb x.formula i q)
          (subst (λ (j : ℕ). ((after_in s j x.request).formulas i).count ≡ (s.formulas i).count + counts_in (standing_in s i x.request)) (sym q)
          (ap (λ (y : Formula). y.count) (at_own s i _ (asked_in s i x.request)) ∙ counted-by (now_in s i) (standing_in s i x.request)))

      other : (x.formula ≡ i → ⊥) → ((after_call s x).formulas i).count ≡ (s.formulas i).count + pick (eqb x.formula i) (counts_in (standing_in s i x.request)) 0
      other d =
          let q : ((after_call s x).formulas i).count ≡ (s.formulas i).count =
          ap (λ (y : Formula). y.count) (at_other s x.formula (stamped_by (now_in s x.formula) (standing_in s x.formula x.request)) (asked_in s x.formula x.request) i (λ e. d (sym e))) in
          rw (ne_eqb x.formula i d) (omega (arith, q))

  own_on : (y : Request) (n : ℕ) → n < length (s.formulas i).asked → (get_or (asked_in s i y) n none ≡ get_or (s.formulas i).asked n none) × (n < length (asked_in s i y))
  unfolding asked_in
  own_on (resolving p room) n h = (refl, h)
  own_on (asking p room) n h =
      (get_or-append (s.formulas i).asked _ none n h, omega (arith, h, length-append (s.formulas i).asked (asked_of s.counter (preview_of p room (s.formulas i).count (resolve_in s i p room)) ∷ [])))
  own_on (taking m) n h = (refl, h)

  asked-on : (n : ℕ) → n < length (s.formulas i).asked → (get_or ((after_call s x).formulas i).asked n none ≡ get_or (s.formulas i).asked n none) × (n < length ((after_call s x).formulas i).asked)
  asked-on n h = ⊎_elim own other (same? x.formula i)
    where
      Stays : List (Option Asked) → Type 0
      Stays l = (get_or l n none ≡ get_or (s.formulas i).asked n none) × (n < length l)

      own : x.formula ≡ i → Stays ((after_call s x).formulas i).asked
      own q =
          subst (λ (j : ℕ). Stays ((after_in s j x.request).formulas i).asked) (sym q)
          (subst Stays (sym (ap (λ (y : Formula). y.asked) (at_own s i _ (asked_in s i x.request)))) (own_on x.request n h))

      other : (x.formula ≡ i → ⊥) → Stays ((after_call s x).formulas i).asked
      other d = subst Stays (sym (ap (λ (y : Formula). y.asked) (at_other s x.formula _ (asked_in s x.formula x.request) i (λ e. d (sym e))))) (refl, h)

-- the cache of the formula that called
own-cache : (s : Frame) (i : ℕ) (y : Request) → cache_in (after_in s i y) i ≡ (stamped_by (now_in s i) (standing_in s i y)).cache
own-cache s i y = ap (λ (st : ℕ → List ℕ). record { stacks = st; made = (stamped_by (now_in s i) (standing_in s i y)).cache.made }) (ap (λ (z : Formula). z.stacks) (at_own s i _ (asked_in s i y)))

-- what is not counted leaves the cache
not-counted : (c : Counted) (o : Option Standing) → counts_in o ≡ 0 → ((stamped_by c o).cache ≡ c.cache) × ((stamped_by c o).count ≡ c.count)
not-counted c none e = (refl, refl)
not-counted c (some x) e = go x.answer e
  where
    go : (r : Answer) → counts r ≡ 0 → (cache_after c.cache r ≡ c.cache) × (c.count + counts r ≡ c.count)
    go (refused n) e = (refl, omega arith)
    go (resolved es c' n) e = absurd (omega arith)

-- such a call leaves all but the answers to take
pub unchanged : (s : Frame) (i : ℕ) (y : Request) → counts_in (standing_in s i y) ≡ 0 → Unchanged s (after_in s i y)
unchanged s i y e =
    let q = not-counted (now_in s i) (standing_in s i y) e in
    let m : (stamped_by (now_in s i) (standing_in s i y)).cache.made ≡ s.counter = ap (λ (z : Cache). z.made) q.0 in
    record {
      counter = m;
      stacks = λ j. part {A = ℕ → List ℕ} (λ z. z.stacks) (ap (λ (z : Cache). z.stacks) q.0) j;
      made = λ j. part {A = ℕ} (λ z. z.made) (omega (arith, m)) j;
      count = λ j. part {A = ℕ} (λ z. z.count) q.1 j;
    }
  where
    new : Formula
    new =
        record {
          target = (s.formulas i).target;
          function = (s.formulas i).function;
          share = (s.formulas i).share;
          stacks = (stamped_by (now_in s i) (standing_in s i y)).cache.stacks;
          made = made_to s i (stamped_by (now_in s i) (standing_in s i y)).cache.made;
          count = (stamped_by (now_in s i) (standing_in s i y)).count;
          asked = asked_in s i y;
        }

    part : {A : Type 0} (h : Formula → A) → h new ≡ h (s.formulas i) → (j : ℕ) → h ((after_in s i y).formulas j) ≡ h (s.formulas j)
    part h q j =
        ⊎_elim
        (λ e. subst (λ (k : ℕ). h ((after_in s i y).formulas k) ≡ h (s.formulas k)) (sym e) (ap h (at_own s i (stamped_by (now_in s i) (standing_in s i y)) (asked_in s i y)) ∙ q))
        (λ d. ap h (at_other s i (stamped_by (now_in s i) (standing_in s i y)) (asked_in s i y) j d)) (same? j i)

refused-uncounted : (o : Option Standing) (n : ℕ) → answer_in o ≡ some (refused n) → counts_in o ≡ 0
refused-uncounted none n e = refl
refused-uncounted (some x) n e = go x.answer e
  where
    go : (r : Answer) → ◌≡◌ {A = Option Answer} (some r) (some (refused n)) → counts r ≡ 0
    go (refused m) e = refl
    go (resolved es c m) e = let z : ◌≡◌ {A = ℕ} 0 1 = cc in absurd (omega arith)

pub asking-unchanged : AskingUnchanged
unfolding standing_in
asking-unchanged s i p room = unchanged s i (asking p room) refl

pub refused-unchanged : RefusedUnchanged
unfolding answered_in
refused-unchanged s i (resolving p room) n e = unchanged s i (resolving p room) (refused-uncounted (standing_in s i (resolving p room)) n e)
refused-unchanged s i (asking p room) n e = asking-unchanged s i p room
refused-unchanged s i (taking m) n e = unchanged s i (taking m) (refused-uncounted (standing_in s i (taking m)) n e)

-- slots of its own are made by calls that are counted
made-calls : (i : ℕ) (k : List FrameCall) (s : Frame) → settled_by i k s ≡ 0 → ((after_calls k s).formulas i).made ≡ (s.formulas i).made
unfolding after_calls settled_by
made-calls i [] s z = refl
made-calls i (x ∷ l) s z = made-calls i l (after_call s x) (omega (arith, z)) ∙ ⊎_elim own other (same? x.formula i)
  where
    own : x.formula ≡ i → ((after_call s x).formulas i).made ≡ (s.formulas i).made
    own q =
        let w : pick (eqb x.formula i) (counts_in (standing_in s i x.request)) 0 ≡ 0 = omega (arith, z) in
        let y : counts_in (standing_in s i x.request) ≡ 0 = sym (ap (λ b. pick b (counts_in (standing_in s i x.request)) 0) (eq-eqb x.formula i q)) ∙ w in
        subst (λ (j : ℕ). ((after_in s j x.request).formulas i).made ≡ (s.formulas i).made) (sym q) ((unchanged s i x.request y).made i)

    other : (x.formula ≡ i → ⊥) → ((after_call s x).formulas i).made ≡ (s.formulas i).made
    other d =
        ap (λ (y : Formula). y.made)
        (at_other s x.formula (stamped_by (now_in s x.formula) (standing_in s x.formula x.request)) (asked_in s x.formula x.request) i (λ e. d (sym e)))

-- a list of calls
pub count-calls : (i : ℕ) (k : List FrameCall) (s : Frame) → ((after_calls k s).formulas i).count ≡ (s.formulas i).count + settled_by i k s
unfolding after_calls settled_by
count-calls i [] s = omega arith
count-calls i (x ∷ l) s = omega (arith, count-calls i l (after_call s x), count-call i s x)

pub counter-calls : (n : ℕ) (k : List FrameCall) → Named n k → (s : Frame) → Sound n s → s.counter ≤ (after_calls k s).counter
unfolding after_calls
counter-calls n [] h s g = omega arith
counter-calls n (x ∷ l) h s g =
    omega (arith, counter-calls n l h.1 (after_call s x) (sound-after n s x h.0 g), goes_on s x.formula _ (moved s x.formula x.request (g.previews x.formula)))

asked-calls : (i : ℕ) (k : List FrameCall) (s : Frame) (n : ℕ) → n < length (s.formulas i).asked → get_or ((after_calls k s).formulas i).asked n none ≡ get_or (s.formulas i).asked n none
unfolding after_calls
asked-calls i [] s n h = refl
asked-calls i (x ∷ l) s n h = let y = asked-on i s x n h in asked-calls i l (after_call s x) n y.1 ∙ y.0

asked-last : (l : List (Option Asked)) (y : Option Asked) → get_or (l ++ (y ∷ [])) (length l) none ≡ y
asked-last [] y = refl
asked-last (x ∷ l) y = asked-last l y

module _ (n : ℕ) (s : Frame) (g : Sound n s) (i : ℕ) (il : i < n) (p : Patch) (room : ℕ) (k : List FrameCall) (named : Named n k) where
  abbrev behind : Frame
  behind = behind_in s i p room

  abbrev later : Frame
  later = after_calls k behind

  behind-sound : Sound n behind
  behind-sound = sound-after n s (record { formula = i; request = asking p room }) il g

  asked_is : (behind.formulas i).asked ≡ (s.formulas i).asked ++ (asked_of s.counter (preview_of p room (s.formulas i).count (resolve_in s i p room)) ∷ [])
  unfolding asked_in
  asked_is = ap (λ (y : Formula). y.asked) (at_own s i _ (asked_in s i (asking p room)))

  asked-then : get_or (later.formulas i).asked (length (s.formulas i).asked) none ≡ asked_of s.counter (preview_of p room (s.formulas i).count (resolve_in s i p room))
  asked-then =
      asked-calls i k behind (length (s.formulas i).asked) (rw asked_is (omega (arith, length-append (s.formulas i).asked (asked_of s.counter (preview_of p room (s.formulas i).count (resolve_in s i p room)) ∷ []))))
      ∙ ap (λ l. get_or l (length (s.formulas i).asked) none) asked_is ∙ asked-last (s.formulas i).asked _

  count-then : (later.formulas i).count ≡ (s.formulas i).count + settled_by i k behind
  unfolding standing_in
  count-then = omega (arith, count-calls i k behind, ap (λ (y : Formula). y.count) (at_own s i (now_in s i) (asked_in s i (asking p room))))

  counter-then : s.counter ≤ later.counter
  unfolding standing_in
  counter-then = counter-calls n k named behind behind-sound

  abbrev left-then : List Edit → Cache → ℕ → Asked
  left-then es c m = record { preview = record { patch = p; room = room; edits = es; after = c; position = m; count = (s.formulas i).count }; counter = s.counter }

  twenty : (r : Answer) → resolve_in s i p room ≡ r → TwentyIn s i p room k r
  unfolding answered_in standing_in
  twenty (refused m) e = rw (asked-then, e) refl
  twenty (resolved es c m) e = rw (asked-then, e) (late, soon)
    where
      since : (q : ℕ) → (s.formulas i).count + q ≡ (later.formulas i).count → (0 < q) ⊎ (q ≡ 0)
      since zero h = inr refl
      since (suc q) h = inl (omega arith)

      on : (d : ℕ) → later.counter ≡ s.counter + d → (s.counter < later.counter) ⊎ (s.counter ≡ later.counter)
      on zero h = inr (omega (arith, h))
      on (suc d) h = inl (omega (arith, h))

      late : ◌≡◌ {A = Option Answer} (some (take_in (left-then es c m) later i)) (some (refused 20)) → (0 < settled_by i k behind) ⊎ (s.counter < later.counter)
      late h =
          ⊎_elim inl
          (λ z. ⊎_elim inr
          (λ y. let q = take-now later i (left-then es c m) (omega (arith, count-then, z)) y in
          let w : ◌≡◌ {A = ℕ} 0 1 = cc in absurd (omega arith))
          (on (later.counter - s.counter) (omega (arith, counter-then))))
          (since (settled_by i k behind) (omega (arith, count-then)))

      soon : (0 < settled_by i k behind) ⊎ (s.counter < later.counter) → ◌≡◌ {A = Option Answer} (some (take_in (left-then es c m) later i)) (some (refused 20))
      soon (inl h) = ap some (take-late later i (left-then es c m) (inl (λ q. omega (arith, h, q, count-then))))
      soon (inr h) = ap some (take-late later i (left-then es c m) (inr (λ q. omega (arith, h, q))))

  as-resolved : settled_by i k behind ≡ 0 → later.counter ≡ s.counter → (r : Answer) → resolve_in s i p room ≡ r → AsResolvedIn s i p room k r
  unfolding answered_in standing_in
  as-resolved z y (refused m) e = tt
  as-resolved z y (resolved es c m) e =
      let q = take-now later i (left-then es c m) (omega (arith, count-then, z)) (sym y) in
      let made-is : (later.formulas i).made ≡ (s.formulas i).made = made-calls i k behind z ∙ made-behind in
      let vs : standing_in later i (its_take_in s i p room) ≡ some (record { patch = p; answer = resolved es c m }) =
      ap (λ o. taken_in o later i) (asked-then ∙ ap (λ r. asked_of s.counter (preview_of p room (s.formulas i).count r)) e) ∙ ap (λ r. some (record { patch = p; answer = r })) q in
      let vr : standing_in s i (resolving p room) ≡ some (record { patch = p; answer = resolved es c m }) = ap (λ r. some (record { patch = p; answer = r })) e in (
        ap (λ o. told_of later i (answer_in o)) vs ∙ ap (λ n. edits es n m) (omega (arith, made-is, y)) ∙ sym (ap (λ o. told_of s i (answer_in o)) vr),
        own-cache later i (its_take_in s i p room) ∙ ap (λ o. (stamped_by (now_in later i) o).cache) vs ∙ sym (ap (λ o. (stamped_by (now_in s i) o).cache) vr) ∙ sym (own-cache s i (resolving p room)),
      )
    where
      made-behind : (behind.formulas i).made ≡ (s.formulas i).made
      made-behind = omega (arith, ap (λ (y : Formula). y.made) (at_own s i (now_in s i) (asked_in s i (asking p room))))

pub takes-in-frame : TakesInFrame
takes-in-frame limit l e calls named =
    let s = after_calls calls (opened limit l) in
    let g = sound limit l e calls named in
    record {
      twenty = λ k h i il p room. twenty (length l) s g i il p room k h (resolve_in s i p room) refl;
      as-resolved = λ k h i il p room z y. as-resolved (length l) s g i il p room k h z y (resolve_in s i p room) refl;
      are-calls = λ i il. are-calls s i (g.previews i);
    }
