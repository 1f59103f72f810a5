-- 02 g: what a take is answered, in every state that requests reach.
use Prim.Native.Nat.{ℕ, zero, suc, ◌+◌, ◌<◌, ◌≤◌}
use mathlib.Core.Path.{◌≡◌, refl, sym, ap, subst, ◌∙◌}
use mathlib.Core.Bool.{Bool, true, false}
use mathlib.Core.List.{List, [], ◌∷◌, ◌++◌}
use mathlib.Core.Option.{Option, none, some}
use mathlib.Core.Logic.{◌⊎◌, inl, inr, ⊎_elim}
use native.Mathlib.Omega.{arith}
use lib.Dec.{eqb}
use lib.ListN.{length, get_or, length-append, get_or-append}
use borrow.Author.Tests.{eqb-true, eqb-false, eq-eqb, ne_eqb}
use Rattle.reginfo.specs.RegInfo.{RegInfo}
use Rattle.function.specs.Function.{Function}
use Rattle.rules.specs.Edit.{Edit}
use Rattle.rules.specs.Scratch.{Cache}
use Rattle.rules.specs.Patch.{Patch, Answer, refused, resolved, resolve, cache_after}
use Rattle.rules.specs.Take.{Counted, Preview, Request, resolving, asking, taking, Served, fresh, take_answer, counts, preview_of, Standing, taken_of, answer_in, stamped_by, counts_in, standing, answered, asked_after, after, after_all, AskingLeaves, settled, reached, CountIs, TakesAreCalls, behind, TwentyAfter, AsResolved, Twenty, AskingThenTaking, NextAsResolved}

-- ---- a take by itself
-- refused with 20 where the counts differ
pub taken-late : (a : Preview) (c : Counted) → (a.count ≡ c.count → ⊥) → take_answer a c ≡ refused 20
unfolding take_answer
taken-late a c h = rw (ne_eqb a.count c.count h) refl

-- else the answer
pub taken-now : (a : Preview) (c : Counted) → a.count ≡ c.count → take_answer a c ≡ resolved a.edits a.after a.position
unfolding take_answer
taken-now a c h = rw (eq-eqb a.count c.count h) refl

same-count? : (m n : ℕ) → (m ≡ n) ⊎ (m ≡ n → ⊥)
same-count? m n = go (eqb m n) refl
  where
    go : (b : Bool) → eqb m n ≡ b → (m ≡ n) ⊎ (m ≡ n → ⊥)
    go true e = inl (eqb-true m n e)
    go false e = inr (eqb-false m n e)

-- ---- the answers of the askings
asked-where : (l : List (Option Preview)) (y : Option Preview) (n : ℕ) (a : Preview) → get_or (l ++ (y ∷ [])) n none ≡ some a → (get_or l n none ≡ some a) ⊎ (y ≡ some a)
asked-where [] y zero a e = inr e
asked-where [] y (suc n) a e = let z : ◌≡◌ {A = ℕ} 0 1 = cc in absurd (omega arith)
asked-where (x ∷ l) y zero a e = inl e
asked-where (x ∷ l) y (suc n) a e = asked-where l y n a e

asked-last : (l : List (Option Preview)) (y : Option Preview) → get_or (l ++ (y ∷ [])) (length l) none ≡ y
asked-last [] y = refl
asked-last (x ∷ l) y = asked-last l y

-- what it is that an asking leaves
record Left (p : Patch) (room count : ℕ) (r : Answer) (a : Preview) : Type 0 where
  pub patch-is : a.patch ≡ p
  pub room-is : a.room ≡ room
  pub count-is : a.count ≡ count
  pub answer-is : r ≡ resolved a.edits a.after a.position

left : (p : Patch) (room count : ℕ) (r : Answer) (a : Preview) → preview_of p room count r ≡ some a → Left p room count r a
left p room count (refused n) a e = let z : ◌≡◌ {A = ℕ} 0 1 = cc in absurd (omega arith)
left p room count (resolved es c n) a e =
    let is : record { patch = p; room = room; edits = es; after = c; position = n; count = count } ≡ a = cc in
    subst (Left p room count (resolved es c n)) is (record { patch-is = refl; room-is = refl; count-is = refl; answer-is = refl })

-- ---- a call leaves cache and count, or raises the count
moved_by : (c : Counted) (r : Answer) → ((cache_after c.cache r ≡ c.cache) × (c.count + counts r ≡ c.count)) ⊎ (c.count < c.count + counts r)
moved_by c (refused n) = inl (refl, omega arith)
moved_by c (resolved es c' n) = inr (omega arith)

moved : (c : Counted) (o : Option Standing) → (((stamped_by c o).cache ≡ c.cache) × ((stamped_by c o).count ≡ c.count)) ⊎ (c.count < (stamped_by c o).count)
moved c none = inl (refl, refl)
moved c (some x) = moved_by c x.answer

counted-by : (c : Counted) (o : Option Standing) → (stamped_by c o).count ≡ c.count + counts_in o
counted-by c none = omega arith
counted-by c (some x) = refl

module _ (t : RegInfo) (f : Function) where
  -- no answer's count is above the cache's; where they are the same, `resolve` would answer so now
  pub record Previews (s : Served) : Type 0 where
    pub low : (n : ℕ) (a : Preview) → get_or s.asked n none ≡ some a → a.count ≤ s.now.count
    pub same : (n : ℕ) (a : Preview) → get_or s.asked n none ≡ some a → a.count ≡ s.now.count → resolve t f a.patch a.room s.now.cache ≡ resolved a.edits a.after a.position

  pub previews-fresh : Previews fresh
  previews-fresh = record { low = λ n a e. let z : ◌≡◌ {A = ℕ} 0 1 = cc in absurd (omega arith); same = λ n a e q. let z : ◌≡◌ {A = ℕ} 0 1 = cc in absurd (omega arith) }

  -- whatever stands in the list
  previews-stamped : (s : Served) → Previews s → (o : Option Standing) → Previews (record { now = stamped_by s.now o; asked = s.asked })
  previews-stamped s k o = go (moved s.now o)
    where
      go : (((stamped_by s.now o).cache ≡ s.now.cache) × ((stamped_by s.now o).count ≡ s.now.count)) ⊎ (s.now.count < (stamped_by s.now o).count)
          → Previews (record { now = stamped_by s.now o; asked = s.asked })
      go (inl h) = record { low = λ n a e. omega (arith, h.1, k.low n a e); same = λ n a e q. rw h.0 (k.same n a e (q ∙ h.1)) }
      go (inr h) = record { low = λ n a e. omega (arith, h, k.low n a e); same = λ n a e q. absurd (omega (arith, h, q, k.low n a e)) }

  previews-asked : (s : Served) → Previews s → (p : Patch) (room : ℕ) → Previews (record { now = s.now; asked = s.asked ++ (preview_of p room s.now.count (resolve t f p room s.now.cache) ∷ []) })
  previews-asked s k p room =
      record {
        low = λ n a e. ⊎_elim (k.low n a) (λ y. omega (arith, (of a y).count-is)) (asked-where s.asked _ n a e);
        same = λ n a e q. ⊎_elim (λ y. k.same n a y q) (λ y. rw ((of a y).patch-is, (of a y).room-is) (of a y).answer-is) (asked-where s.asked _ n a e);
      }
    where
      of : (a : Preview) → preview_of p room s.now.count (resolve t f p room s.now.cache) ≡ some a → Left p room s.now.count (resolve t f p room s.now.cache) a
      of a y = left p room s.now.count (resolve t f p room s.now.cache) a y

  pub previews-after : (x : Request) (s : Served) → Previews s → Previews (after t f x s)
  unfolding standing asked_after
  previews-after (resolving p room) s k = previews-stamped s k (standing t f (resolving p room) s)
  previews-after (asking p room) s k = previews-asked s k p room
  previews-after (taking n) s k = previews-stamped s k (standing t f (taking n) s)

  pub previews-all : (l : List Request) (s : Served) → Previews s → Previews (after_all t f l s)
  unfolding after_all
  previews-all [] s k = k
  previews-all (x ∷ l) s k = previews-all l (after t f x s) (previews-after x s k)

  -- ---- a take that is not refused is a call
  pub is_call :
      (s : Served) → Previews s → (n : ℕ) (a : Preview) → get_or s.asked n none ≡ some a
      → (take_answer a s.now ≡ refused 20) ⊎ (resolve t f a.patch a.room s.now.cache ≡ take_answer a s.now)
  is_call s k n a e = ⊎_elim (λ h. inr (k.same n a e h ∙ sym (taken-now a s.now h))) (λ h. inl (taken-late a s.now h)) (same-count? a.count s.now.count)

  -- what stands in the list is answered 20 or as `resolve` answers that patch now
  pub stands :
      (x : Request) (s : Served) → Previews s → (y : Standing) → standing t f x s ≡ some y
      → (y.answer ≡ refused 20) ⊎ ((room : ℕ) × (resolve t f y.patch room s.now.cache ≡ y.answer))
  unfolding standing
  stands (resolving p room) s k y e =
      let is : record { patch = p; answer = resolve t f p room s.now.cache } ≡ y = cc in
      inr (room, subst (λ (y : Standing). resolve t f y.patch room s.now.cache ≡ y.answer) is refl)
  stands (asking p room) s k y e = let z : ◌≡◌ {A = ℕ} 0 1 = cc in absurd (omega arith)
  stands (taking n) s k y e = go (get_or s.asked n none) refl e
    where
      go : (o : Option Preview) → get_or s.asked n none ≡ o → taken_of o s.now ≡ some y → (y.answer ≡ refused 20) ⊎ ((room : ℕ) × (resolve t f y.patch room s.now.cache ≡ y.answer))
      go none i e = let z : ◌≡◌ {A = ℕ} 0 1 = cc in absurd (omega arith)
      go (some a) i e =
          let is : record { patch = a.patch; answer = take_answer a s.now } ≡ y = cc in
          subst (λ (y : Standing). (y.answer ≡ refused 20) ⊎ ((room : ℕ) × (resolve t f y.patch room s.now.cache ≡ y.answer))) is
          (⊎_elim inl (λ h. inr (a.room, h)) (is_call s k n a i))

  of-standing :
      (x : Request) (s : Served) → Previews s → (r : Answer) → answer_in (standing t f x s) ≡ some r
      → (r ≡ refused 20) ⊎ ((p : Patch) × (room : ℕ) × (resolve t f p room s.now.cache ≡ r))
  of-standing x s k r e = go (standing t f x s) refl e
    where
      go : (o : Option Standing) → standing t f x s ≡ o → answer_in o ≡ some r → (r ≡ refused 20) ⊎ ((p : Patch) × (room : ℕ) × (resolve t f p room s.now.cache ≡ r))
      go none i e = let z : ◌≡◌ {A = ℕ} 0 1 = cc in absurd (omega arith)
      go (some y) i e =
          let is : y.answer ≡ r = cc in
          ⊎_elim (λ h. inl (sym is ∙ h)) (λ h. inr (y.patch, h.0, h.1 ∙ is)) (stands x s k y i)

  -- and so is every answer, an asking's too
  pub answers :
      (x : Request) (s : Served) → Previews s → (r : Answer) → answered t f x s ≡ some r
      → (r ≡ refused 20) ⊎ ((p : Patch) × (room : ℕ) × (resolve t f p room s.now.cache ≡ r))
  unfolding answered
  answers (asking p room) s k r e = inr (p, room, cc)
  answers (resolving p room) s k r e = of-standing (resolving p room) s k r e
  answers (taking n) s k r e = of-standing (taking n) s k r e

  -- ---- the count
  pub count-all : (l : List Request) (s : Served) → (after_all t f l s).now.count ≡ s.now.count + settled t f l s
  unfolding after_all settled
  count-all [] s = omega arith
  count-all (x ∷ l) s = omega (arith, count-all l (after t f x s), counted-by s.now (standing t f x s))

  -- ---- an asking's answer stays where it is
  asked-on : (x : Request) (s : Served) (n : ℕ) → n < length s.asked → (get_or (after t f x s).asked n none ≡ get_or s.asked n none) × (n < length (after t f x s).asked)
  unfolding asked_after
  asked-on (resolving p room) s n h = (refl, h)
  asked-on (asking p room) s n h = (get_or-append s.asked _ none n h, omega (arith, h, length-append s.asked (preview_of p room s.now.count (resolve t f p room s.now.cache) ∷ [])))
  asked-on (taking m) s n h = (refl, h)

  asked-all : (l : List Request) (s : Served) (n : ℕ) → n < length s.asked → get_or (after_all t f l s).asked n none ≡ get_or s.asked n none
  unfolding after_all
  asked-all [] s n h = refl
  asked-all (x ∷ l) s n h = let y = asked-on x s n h in asked-all l (after t f x s) n y.1 ∙ y.0

  module _ (s : Served) (p : Patch) (room : ℕ) (k : List Request) where
    abbrev later : Served
    later = after_all t f k (behind t f s p room)

    asked-then : get_or later.asked (length s.asked) none ≡ preview_of p room s.now.count (resolve t f p room s.now.cache)
    unfolding asked_after
    asked-then =
        asked-all k (behind t f s p room) (length s.asked) (omega (arith, length-append s.asked (preview_of p room s.now.count (resolve t f p room s.now.cache) ∷ [])))
        ∙ asked-last s.asked _

    count-then : later.now.count ≡ s.now.count + settled t f k (behind t f s p room)
    unfolding standing
    count-then = count-all k (behind t f s p room)

    -- its answer
    abbrev left-then : List Edit → Cache → ℕ → Preview
    left-then es c n = record { patch = p; room = room; edits = es; after = c; position = n; count = s.now.count }

    pub twenty-after : (r : Answer) → resolve t f p room s.now.cache ≡ r → TwentyAfter t f s p room k r
    unfolding answered standing
    twenty-after (refused n) e = rw (asked-then, e) refl
    twenty-after (resolved es c n) e = rw (asked-then, e) ((λ h. late (settled t f k (behind t f s p room)) refl h), λ h. ap some (taken-late _ later.now (λ q. omega (arith, h, q, count-then))))
      where
        late : (m : ℕ) → settled t f k (behind t f s p room) ≡ m → ◌≡◌ {A = Option Answer} (some (take_answer (left-then es c n) later.now)) (some (refused 20)) → 0 < settled t f k (behind t f s p room)
        late zero i h =
            let q = taken-now (left-then es c n) later.now (omega (arith, i, count-then)) in
            let z : ◌≡◌ {A = ℕ} 0 1 = cc in absurd (omega arith)
        late (suc m) i h = omega arith

    pub as-resolved : settled t f k (behind t f s p room) ≡ 0 → (r : Answer) → resolve t f p room s.now.cache ≡ r → AsResolved t f s p room k r
    unfolding answered standing
    as-resolved h (refused n) e = tt
    as-resolved h (resolved es c n) e =
        let z : later.now.count ≡ s.now.count = omega (arith, h, count-then) in
        let q = taken-now (left-then es c n) later.now (sym z) in rw (asked-then, e, q, z) (refl, refl)

module _ (t : RegInfo) (f : Function) where
  pub asking-leaves : AskingLeaves t f
  unfolding standing
  asking-leaves p room s = refl

  pub previews : (l : List Request) → Previews t f (reached t f l)
  previews l = previews-all t f l fresh (previews-fresh t f)

  pub count-is : CountIs t f
  count-is l = omega (arith, count-all t f l fresh)

  pub takes-are-calls : TakesAreCalls t f
  takes-are-calls l n a es c m e h =
      ⊎_elim (λ q. let z : ◌≡◌ {A = ℕ} 0 1 = cc in absurd (omega arith)) (λ q. q ∙ h) (is_call t f (reached t f l) (previews l) n a e)

  pub twenty : Twenty t f
  twenty l k p room = twenty-after t f (reached t f l) p room k _ refl

  pub asking-then-taking : AskingThenTaking t f
  asking-then-taking l k p room h = as-resolved t f (reached t f l) p room k h _ refl

  pub next-as-resolved : NextAsResolved t f
  unfolding answered standing
  next-as-resolved l k p room es c n e h q room' =
      let w : AsResolved t f (reached t f l) p room k (resolved es c n) = subst (AsResolved t f (reached t f l) p room k) e (asking-then-taking l k p room h) in
      ap (λ (x : Counted). some (resolve t f q room' x.cache)) w.1
