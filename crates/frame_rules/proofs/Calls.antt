-- What a call does to a frame, and what the answers of askings are then.
use Prim.Native.Nat.{ℕ, zero, suc, ◌+◌, ◌<◌, ◌≤◌}
use mathlib.Core.Path.{◌≡◌, refl, sym, ap, subst, ◌∙◌}
use mathlib.Core.Bool.{Bool, true, false}
use mathlib.Core.List.{List, [], ◌∷◌, ◌++◌}
use mathlib.Core.Option.{Option, none, some}
use mathlib.Core.Logic.{◌⊎◌, inl, inr, ⊎_elim}
use native.Mathlib.Omega.{arith}
use lib.Dec.{eqb, ltb}
use lib.ListN.{get_or}
use borrow.Author.Tests.{eq-eqb, ne_eqb, ltb-true, ltb-false}
use Rattle.entity.specs.Logic.{pick}
use Rattle.rules.specs.Edit.{Edit}
use Rattle.rules.specs.Scratch.{Cache}
use Rattle.rules.specs.Counts.{sum}
use Rattle.rules.specs.Patch.{Patch, Answer, refused, resolved}
use Rattle.rules.specs.Take.{Counted, Request, resolving, asking, taking, take_answer, preview_of, stamped_by}
use Rattle.rules.proofs.Accepted.{accepted}
use Rattle.rules.proofs.Limit.{made-within}
use Rattle.rules.proofs.Steps.{same?, updated-same, updated-other}
use Rattle.rules.proofs.Sum.{sum-change}
use Rattle.rules.proofs.Take.{taken-now, taken-late}
use Rattle.frame_rules.specs.Frame.{Inlined, Asked, Formula, Frame, opened, lacks, others_lack, greater, reach, cache_in, now_in, function_in, resolve_in, take_in, taken_in, asked_of, standing_in, asked_in, made_to, with_cache, after_in, FrameCall, after_call, after_calls, Named}

-- what every call keeps holds after a list of them
pub along : (n : ℕ) (P : Frame → Type 0) → ((s : Frame) (x : FrameCall) → x.formula < n → P s → P (after_call s x)) → (calls : List FrameCall) → Named n calls → (s : Frame) → P s → P (after_calls calls s)
unfolding after_calls
along n P h [] k s p = p
along n P h (x ∷ l) k s p = along n P h l k.1 (after_call s x) (h s x k.0 p)

pub sum-cong : (f g : ℕ → ℕ) (n : ℕ) → ((k : ℕ) → f k ≡ g k) → sum f n ≡ sum g n
unfolding sum
sum-cong f g zero h = refl
sum-cong f g (suc n) h = omega (arith, h n, sum-cong f g n h)

-- ---- the greater of two
pub most : (a b : ℕ) → (a ≤ greater a b) × (b ≤ greater a b)
most a b = go (ltb a b) refl
  where
    go : (w : Bool) → ltb a b ≡ w → (a ≤ pick w b a) × (b ≤ pick w b a)
    go true e = let q : a < b = ltb-true a b e in (omega arith, omega arith)
    go false e = let q : b ≤ a = ltb-false a b e in (omega arith, omega arith)

pub least : (a b c : ℕ) → a ≤ c → b ≤ c → greater a b ≤ c
least a b c p q = go (ltb a b)
  where
    go : (w : Bool) → pick w b a ≤ c
    go true = q
    go false = p

pub either : (a b : ℕ) → (greater a b ≡ a) ⊎ (greater a b ≡ b)
either a b = go (ltb a b)
  where
    go : (w : Bool) → (pick w b a ≡ a) ⊎ (pick w b a ≡ b)
    go true = inr refl
    go false = inl refl

-- ---- how far the counter may go
pub reach_far : (s : Frame) (i : ℕ) → s.counter ≤ reach s i
unfolding reach
reach_far s i = omega arith

pub reach-same : (s s' : Frame) (i : ℕ) → s'.limit ≡ s.limit → s'.number ≡ s.number → s'.counter ≡ s.counter → ((k : ℕ) → lacks s' k ≡ lacks s k) → reach s' i ≡ reach s i
unfolding reach others_lack
reach-same s s' i l n c h =
    let o : sum (λ j. pick (eqb j i) 0 (lacks s' j)) s.number ≡ sum (λ j. pick (eqb j i) 0 (lacks s j)) s.number = sum-cong _ _ s.number (λ k. ap (pick (eqb k i) 0) (h k)) in
    rw (l, n, c, h i, o) refl

-- all that is lacked is what the others lack and what the formula does
pub lack-split : (s : Frame) (i : ℕ) → i < s.number → sum (lacks s) s.number ≡ others_lack s i + lacks s i
unfolding others_lack
lack-split s i h =
    omega (
      arith,
      sum-change (λ j. pick (eqb j i) 0 (lacks s j)) (lacks s) s.number i h (λ k d. ap (λ b. pick b 0 (lacks s k)) (ne_eqb k i d)),
      ap (λ b. pick b 0 (lacks s i)) (eq-eqb i i refl),
    )

-- ---- an accepted call
-- it makes slots up to there
pub resolved-within : (s : Frame) (i : ℕ) (p : Patch) (room : ℕ) (es : List Edit) (c : Cache) (n : ℕ) → resolve_in s i p room ≡ resolved es c n → (s.counter ≤ c.made) × (c.made ≤ reach s i)
unfolding resolve_in
resolved-within s i p room es c n e =
    let t = (s.formulas i).target in
    let r = accepted t (function_in s i) p room (cache_in s i) c es n e in
    subst (λ (y : Cache). (s.counter ≤ y.made) × (y.made ≤ reach s i)) (sym r.cache) (made-within t (function_in s i) p _ (cache_in s i) r.allocator (reach_far s i) r.ran)

-- the cache that a call leaves is that of a patch resolved now
pub record Took (s : Frame) (i : ℕ) (c : Counted) : Type 0 where
  pub patch : Patch
  pub room : ℕ
  pub edits : List Edit
  pub position : ℕ
  pub is : resolve_in s i patch room ≡ resolved edits c.cache position
  pub counted : c.count ≡ (s.formulas i).count + 1

-- or as it was
abbrev pub Moved : Frame → ℕ → Counted → Type 0
Moved s i c = ((c.cache ≡ cache_in s i) × (c.count ≡ (s.formulas i).count)) ⊎ Took s i c

-- ---- the answers of askings
-- none is later than now; where nothing was taken or resolved and no slot made since, resolving would answer so now
pub record Stands (s : Frame) (i : ℕ) (a : Asked) : Type 0 where
  pub count_low : a.preview.count ≤ (s.formulas i).count
  pub counter-low : a.counter ≤ s.counter
  pub same :
      a.preview.count ≡ (s.formulas i).count → a.counter ≡ s.counter
      → resolve_in s i a.preview.patch a.preview.room ≡ resolved a.preview.edits a.preview.after a.preview.position

abbrev pub PreviewsIn : Frame → ℕ → Type 0
PreviewsIn s i = (n : ℕ) (a : Asked) → get_or (s.formulas i).asked n none ≡ some a → Stands s i a

module _ (s : Frame) (i : ℕ) (a : Asked) where
  pub take-now : a.preview.count ≡ (s.formulas i).count → a.counter ≡ s.counter → take_in a s i ≡ resolved a.preview.edits a.preview.after a.preview.position
  unfolding take_in
  take-now e h = rw (eq-eqb a.counter s.counter h) (taken-now a.preview (now_in s i) e)

  pub take-late : (a.preview.count ≡ (s.formulas i).count → ⊥) ⊎ (a.counter ≡ s.counter → ⊥) → take_in a s i ≡ refused 20
  unfolding take_in
  take-late (inr h) = rw (ne_eqb a.counter s.counter h) refl
  take-late (inl h) = go (eqb a.counter s.counter)
    where
      go : (b : Bool) → pick b (take_answer a.preview (now_in s i)) (refused 20) ≡ refused 20
      go true = taken-late a.preview (now_in s i) h
      go false = refl

  pub fresh-or-late :
      ((a.preview.count ≡ (s.formulas i).count) × (a.counter ≡ s.counter)) ⊎ ((a.preview.count ≡ (s.formulas i).count → ⊥) ⊎ (a.counter ≡ s.counter → ⊥))
  fresh-or-late =
      ⊎_elim (λ e. ⊎_elim (λ h. inl (e, h)) (λ h. inr (inr h)) (same? a.counter s.counter)) (λ e. inr (inl e)) (same? a.preview.count (s.formulas i).count)

moved_by : (s : Frame) (i : ℕ) (p : Patch) (room : ℕ) (r : Answer) → resolve_in s i p room ≡ r → Moved s i (stamped_by (now_in s i) (some (record { patch = p; answer = r })))
moved_by s i p room (refused n) e = inl (refl, omega arith)
moved_by s i p room (resolved es c n) e = inr (record { patch = p; room = room; edits = es; position = n; is = e; counted = refl })

pub moved : (s : Frame) (i : ℕ) (x : Request) → PreviewsIn s i → Moved s i (stamped_by (now_in s i) (standing_in s i x))
unfolding standing_in
moved s i (resolving p room) k = moved_by s i p room (resolve_in s i p room) refl
moved s i (asking p room) k = inl (refl, refl)
moved s i (taking n) k = go (get_or (s.formulas i).asked n none) refl
  where
    go : (o : Option Asked) → get_or (s.formulas i).asked n none ≡ o → Moved s i (stamped_by (now_in s i) (taken_in o s i))
    go none e = inl (refl, refl)
    go (some a) e =
        ⊎_elim
        (λ h. let is = (k n a e).same h.0 h.1 in
        subst (λ (r : Answer). Moved s i (stamped_by (now_in s i) (some (record { patch = a.preview.patch; answer = r })))) (sym (take-now s i a h.0 h.1))
        (moved_by s i a.preview.patch a.preview.room _ is))
        (λ h. rw (take-late s i a h) (inl (refl, omega arith))) (fresh-or-late s i a)

-- ---- another formula's call
pub at_own : (s : Frame) (i : ℕ) (c : Counted) (a : List (Option Asked))
    → (with_cache s i c a).formulas i ≡ record { target = (s.formulas i).target; function = (s.formulas i).function; share = (s.formulas i).share; stacks = c.cache.stacks; made = made_to s i c.cache.made; count = c.count; asked = a }
at_own s i c a = updated-same i _ s.formulas

pub at_other : (s : Frame) (i : ℕ) (c : Counted) (a : List (Option Asked)) (j : ℕ) → (j ≡ i → ⊥) → (with_cache s i c a).formulas j ≡ s.formulas j
at_other s i c a j d = updated-other i _ s.formulas j d

-- where the counter stays, so does what each lacks
pub lacks-stay : (s : Frame) (i : ℕ) (c : Counted) (a : List (Option Asked)) → c.cache.made ≡ s.counter → (k : ℕ) → lacks (with_cache s i c a) k ≡ lacks s k
lacks-stay s i c a e k =
    ⊎_elim
    (λ q. subst (λ (j : ℕ). lacks (with_cache s i c a) j ≡ lacks s j) (sym q) (rw (at_own s i c a) (omega (arith, e))))
    (λ d. rw (at_other s i c a k d) refl) (same? k i)

-- the counter goes no way back
pub goes_on : (s : Frame) (i : ℕ) (c : Counted) → Moved s i c → s.counter ≤ c.cache.made
goes_on s i c (inl h) = rw h.0 (omega arith)
goes_on s i c (inr h) = (resolved-within s i h.patch h.room h.edits c.cache h.position h.is).0

-- ---- the answers stay
pub asked-where : (l : List (Option Asked)) (y : Option Asked) (n : ℕ) (a : Asked) → get_or (l ++ (y ∷ [])) n none ≡ some a → (get_or l n none ≡ some a) ⊎ (y ≡ some a)
asked-where [] y zero a e = inr e
asked-where [] y (suc n) a e = let z : ◌≡◌ {A = ℕ} 0 1 = cc in absurd (omega arith)
asked-where (x ∷ l) y zero a e = inl e
asked-where (x ∷ l) y (suc n) a e = asked-where l y n a e

pub record Left (p : Patch) (room count counter : ℕ) (r : Answer) (a : Asked) : Type 0 where
  pub patch-is : a.preview.patch ≡ p
  pub room-is : a.preview.room ≡ room
  pub count-is : a.preview.count ≡ count
  pub counter-is : a.counter ≡ counter
  pub answer-is : r ≡ resolved a.preview.edits a.preview.after a.preview.position

-- what it is that an asking leaves
pub left : (p : Patch) (room count counter : ℕ) (r : Answer) (a : Asked) → asked_of counter (preview_of p room count r) ≡ some a → Left p room count counter r a
left p room count counter (refused n) a e = let z : ◌≡◌ {A = ℕ} 0 1 = cc in absurd (omega arith)
left p room count counter (resolved es c n) a e =
    let is : record { preview = record { patch = p; room = room; edits = es; after = c; position = n; count = count }; counter = counter } ≡ a = cc in
    subst (Left p room count counter (resolved es c n)) is (record { patch-is = refl; room-is = refl; count-is = refl; counter-is = refl; answer-is = refl })

-- the same formula, counter and reach: the same answers
pub resolve_same : (s s' : Frame) (i : ℕ) → (s'.formulas i).target ≡ (s.formulas i).target → (s'.formulas i).function ≡ (s.formulas i).function → (s'.formulas i).stacks ≡ (s.formulas i).stacks
    → s'.counter ≡ s.counter → reach s' i ≡ reach s i → (p : Patch) (room : ℕ) → resolve_in s' i p room ≡ resolve_in s i p room
unfolding resolve_in
resolve_same s s' i t f c n r p room = rw (r, t, f, c, n) refl

module _ (s : Frame) (j : ℕ) (c : Counted) (l : List (Option Asked)) (m : Moved s j c) where
  abbrev then : Frame
  then = with_cache s j c l

  reach-stays : (i : ℕ) → c.cache.made ≡ s.counter → reach then i ≡ reach s i
  reach-stays i e = reach-same s then i refl refl e (lacks-stay s j c l e)

  -- of another formula
  other-stands : (i : ℕ) → (i ≡ j → ⊥) → (a : Asked) → Stands s i a → Stands then i a
  other-stands i d a g =
      let f : then.formulas i ≡ s.formulas i = at_other s j c l i d in
      record {
        count_low = rw f g.count_low;
        counter-low = omega (arith, g.counter-low, goes_on s j c m);
        same = λ e h.
            let q : c.cache.made ≡ s.counter = omega (arith, g.counter-low, goes_on s j c m, h) in
            resolve_same s then i (ap (λ (y : Formula). y.target) f) (ap (λ (y : Formula). y.function) f) (ap (λ (y : Formula). y.stacks) f) q (reach-stays i q) a.preview.patch a.preview.room
            ∙ g.same (e ∙ ap (λ (y : Formula). y.count) f) (h ∙ q);
      }

  -- of the same
  own-stands : (a : Asked) → Stands s j a → Stands then j a
  own-stands a g = ⊎_elim stay went m
    where
      f : then.formulas j ≡ record { target = (s.formulas j).target; function = (s.formulas j).function; share = (s.formulas j).share; stacks = c.cache.stacks; made = made_to s j c.cache.made; count = c.count; asked = l }
      f = at_own s j c l

      count-is : (then.formulas j).count ≡ c.count
      count-is = ap (λ (y : Formula). y.count) f

      stay : (c.cache ≡ cache_in s j) × (c.count ≡ (s.formulas j).count) → Stands then j a
      stay h =
          let q : c.cache.made ≡ s.counter = ap (λ (y : Cache). y.made) h.0 in
          record {
            count_low = omega (arith, g.count_low, count-is, h.1);
            counter-low = omega (arith, g.counter-low, q);
            same = λ e k.
                resolve_same s then j (ap (λ (y : Formula). y.target) f) (ap (λ (y : Formula). y.function) f) (ap (λ (y : Formula). y.stacks) f ∙ ap (λ (y : Cache). y.stacks) h.0) q (reach-stays j q) a.preview.patch a.preview.room
                ∙ g.same (e ∙ count-is ∙ h.1) (k ∙ q);
          }

      went : Took s j c → Stands then j a
      went h =
          record {
            count_low = omega (arith, g.count_low, count-is, h.counted);
            counter-low = omega (arith, g.counter-low, goes_on s j c m);
            same = λ e k. absurd (omega (arith, g.count_low, count-is, h.counted, e));
          }

-- a new answer
new-stands : (s : Frame) (j : ℕ) (p : Patch) (room : ℕ) (a : Asked) → asked_of s.counter (preview_of p room (s.formulas j).count (resolve_in s j p room)) ≡ some a → Stands s j a
new-stands s j p room a e =
    let y = left p room (s.formulas j).count s.counter (resolve_in s j p room) a e in
    record { count_low = omega (arith, y.count-is); counter-low = omega (arith, y.counter-is); same = λ c h. rw (y.patch-is, y.room-is) y.answer-is }

asked-after : (s : Frame) (j : ℕ) (x : Request) (n : ℕ) (a : Asked) → PreviewsIn s j → get_or (asked_in s j x) n none ≡ some a → Stands s j a
unfolding asked_in
asked-after s j (resolving p room) n a k e = k n a e
asked-after s j (asking p room) n a k e = ⊎_elim (k n a) (new-stands s j p room a) (asked-where (s.formulas j).asked _ n a e)
asked-after s j (taking m) n a k e = k n a e

pub previews-after : (s : Frame) (j : ℕ) (x : Request) → ((i : ℕ) → PreviewsIn s i) → (i : ℕ) → PreviewsIn (after_in s j x) i
previews-after s j x k i n a e = ⊎_elim own other (same? i j)
  where
    m : Moved s j (stamped_by (now_in s j) (standing_in s j x))
    m = moved s j x (k j)

    own : i ≡ j → Stands (after_in s j x) i a
    own q =
        let e' : get_or ((after_in s j x).formulas j).asked n none ≡ some a = subst (λ (y : ℕ). get_or ((after_in s j x).formulas y).asked n none ≡ some a) q e in
        let e'' : get_or (asked_in s j x) n none ≡ some a = sym (ap (λ (y : Formula). get_or y.asked n none) (at_own s j (stamped_by (now_in s j) (standing_in s j x)) (asked_in s j x))) ∙ e' in
        subst (λ (y : ℕ). Stands (after_in s j x) y a) (sym q) (own-stands s j (stamped_by (now_in s j) (standing_in s j x)) (asked_in s j x) m a (asked-after s j x n a (k j) e''))

    other : (i ≡ j → ⊥) → Stands (after_in s j x) i a
    other d =
        other-stands s j (stamped_by (now_in s j) (standing_in s j x)) (asked_in s j x) m i d a
        (k i n a (sym (ap (λ (y : Formula). get_or y.asked n none) (at_other s j (stamped_by (now_in s j) (standing_in s j x)) (asked_in s j x) i d)) ∙ e))

pub previews-opened : (limit : ℕ) (l : List Inlined) (i : ℕ) → PreviewsIn (opened limit l) i
previews-opened limit l i n a e = let z : ◌≡◌ {A = ℕ} 0 1 = cc in absurd (omega arith)
