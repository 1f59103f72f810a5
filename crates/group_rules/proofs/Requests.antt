-- 02 g over lists in which patches are resolved by groups too.
use Prim.Native.Nat.{ℕ, zero, suc, ◌+◌, ◌<◌}
use mathlib.Core.Path.{◌≡◌, refl, sym, ap, ◌∙◌}
use mathlib.Core.List.{List, [], ◌∷◌, ◌++◌}
use mathlib.Core.Option.{Option, none, some}
use mathlib.Core.Logic.{◌⊎◌, inl, inr, ⊎_elim}
use native.Mathlib.Omega.{arith}
use lib.ListN.{length, get_or, length-append, get_or-append}
use Rattle.reginfo.specs.RegInfo.{RegInfo}
use Rattle.function.specs.Function.{Function}
use Rattle.rules.specs.Edit.{Edit}
use Rattle.rules.specs.Scratch.{Cache}
use Rattle.rules.specs.Patch.{Patch, Answer, refused, resolved, resolve, cache_after}
use Rattle.rules.specs.Take as take
use Rattle.rules.specs.Take.{Counted, Preview, Served, fresh, take_answer, counts, preview_of, Standing, stamped_by, counts_in, behind}
use Rattle.rules.proofs.Take.{taken-late, taken-now, Previews, previews-fresh, is_call}
use Rattle.rules.proofs.Take as rules
use Rattle.group_rules.specs.Requests.{Request, single, grouping, standing, answered, asked_after, after, after_all, settled, reached, CountIs, TakesAreCalls, TwentyAfter, AsResolved, Twenty, AskingThenTaking}

-- ---- a call leaves cache and count, or raises the count
moved_by : (c : Counted) (r : Answer) → ((cache_after c.cache r ≡ c.cache) × (c.count + counts r ≡ c.count)) ⊎ (c.count < c.count + counts r)
moved_by c (refused n) = inl (refl, omega arith)
moved_by c (resolved es c' n) = inr (omega arith)

moved : (c : Counted) (o : Option Standing) → (((stamped_by c o).cache ≡ c.cache) × ((stamped_by c o).count ≡ c.count)) ⊎ (c.count < (stamped_by c o).count)
moved c none = inl (refl, refl)
moved c (some x) = moved_by c x.answer

counted-by : (c : Counted) (o : Option Standing) → (stamped_by c o).count ≡ c.count + counts_in o
counted-by c none = omega arith
counted-by c (some x) = refl

asked-last : (l : List (Option Preview)) (y : Option Preview) → get_or (l ++ (y ∷ [])) (length l) none ≡ y
asked-last [] y = refl
asked-last (x ∷ l) y = asked-last l y

module _ (t : RegInfo) (f : Function) where
  previews-stamped : (s : Served) → Previews t f s → (o : Option Standing) → Previews t f (record { now = stamped_by s.now o; asked = s.asked })
  previews-stamped s k o = go (moved s.now o)
    where
      go : (((stamped_by s.now o).cache ≡ s.now.cache) × ((stamped_by s.now o).count ≡ s.now.count)) ⊎ (s.now.count < (stamped_by s.now o).count)
          → Previews t f (record { now = stamped_by s.now o; asked = s.asked })
      go (inl h) = record { low = λ n a e. omega (arith, h.1, k.low n a e); same = λ n a e q. rw h.0 (k.same n a e (q ∙ h.1)) }
      go (inr h) = record { low = λ n a e. omega (arith, h, k.low n a e); same = λ n a e q. absurd (omega (arith, h, q, k.low n a e)) }

  pub previews-after : (x : Request) (s : Served) → Previews t f s → Previews t f (after t f x s)
  unfolding standing asked_after
  previews-after (single x) s k = rules.previews-after t f x s k
  previews-after (grouping p room) s k = previews-stamped s k (standing t f (grouping p room) s)

  pub previews-all : (l : List Request) (s : Served) → Previews t f s → Previews t f (after_all t f l s)
  unfolding after_all
  previews-all [] s k = k
  previews-all (x ∷ l) s k = previews-all l (after t f x s) (previews-after x s k)

  -- ---- the count
  count-all : (l : List Request) (s : Served) → (after_all t f l s).now.count ≡ s.now.count + settled t f l s
  unfolding after_all settled
  count-all [] s = omega arith
  count-all (x ∷ l) s = omega (arith, count-all l (after t f x s), counted-by s.now (standing t f x s))

  -- ---- an asking's answer stays where it is
  asked-single : (x : take.Request) (s : Served) (n : ℕ) → n < length s.asked → (get_or (take.asked_after t f x s) n none ≡ get_or s.asked n none) × (n < length (take.asked_after t f x s))
  unfolding take.asked_after
  asked-single (take.resolving p room) s n h = (refl, h)
  asked-single (take.asking p room) s n h =
      (get_or-append s.asked _ none n h, omega (arith, h, length-append s.asked (preview_of p room s.now.count (resolve t f p room s.now.cache) ∷ [])))
  asked-single (take.taking m) s n h = (refl, h)

  asked-on : (x : Request) (s : Served) (n : ℕ) → n < length s.asked → (get_or (after t f x s).asked n none ≡ get_or s.asked n none) × (n < length (after t f x s).asked)
  unfolding asked_after
  asked-on (single x) s n h = asked-single x s n h
  asked-on (grouping p room) s n h = (refl, h)

  asked-all : (l : List Request) (s : Served) (n : ℕ) → n < length s.asked → get_or (after_all t f l s).asked n none ≡ get_or s.asked n none
  unfolding after_all
  asked-all [] s n h = refl
  asked-all (x ∷ l) s n h = let y = asked-on x s n h in asked-all l (after t f x s) n y.1 ∙ y.0

  module _ (s : Served) (p : Patch) (room : ℕ) (k : List Request) where
    abbrev later : Served
    later = after_all t f k (behind t f s p room)

    asked-then : get_or later.asked (length s.asked) none ≡ preview_of p room s.now.count (resolve t f p room s.now.cache)
    unfolding take.asked_after
    asked-then =
        asked-all k (behind t f s p room) (length s.asked) (omega (arith, length-append s.asked (preview_of p room s.now.count (resolve t f p room s.now.cache) ∷ [])))
        ∙ asked-last s.asked _

    count-then : later.now.count ≡ s.now.count + settled t f k (behind t f s p room)
    unfolding take.standing
    count-then = count-all k (behind t f s p room)

    -- its answer
    abbrev left-then : List Edit → Cache → ℕ → Preview
    left-then es c n = record { patch = p; room = room; edits = es; after = c; position = n; count = s.now.count }

    twenty-after : (r : Answer) → resolve t f p room s.now.cache ≡ r → TwentyAfter t f s p room k r
    unfolding answered take.answered take.standing
    twenty-after (refused n) e = rw (asked-then, e) refl
    twenty-after (resolved es c n) e = rw (asked-then, e) ((λ h. late (settled t f k (behind t f s p room)) refl h), λ h. ap some (taken-late _ later.now (λ q. omega (arith, h, q, count-then))))
      where
        late : (m : ℕ) → settled t f k (behind t f s p room) ≡ m → ◌≡◌ {A = Option Answer} (some (take_answer (left-then es c n) later.now)) (some (refused 20)) → 0 < settled t f k (behind t f s p room)
        late zero i h =
            let q = taken-now (left-then es c n) later.now (omega (arith, i, count-then)) in
            let z : ◌≡◌ {A = ℕ} 0 1 = cc in absurd (omega arith)
        late (suc m) i h = omega arith

    as-resolved : settled t f k (behind t f s p room) ≡ 0 → (r : Answer) → resolve t f p room s.now.cache ≡ r → AsResolved t f s p room k r
    unfolding answered standing take.answered take.standing
    as-resolved h (refused n) e = tt
    as-resolved h (resolved es c n) e =
        let z : later.now.count ≡ s.now.count = omega (arith, h, count-then) in
        let q = taken-now (left-then es c n) later.now (sym z) in rw (asked-then, e, q, z) (refl, refl)

  pub previews : (l : List Request) → Previews t f (reached t f l)
  previews l = previews-all l fresh (previews-fresh t f)

  pub count-is : CountIs t f
  count-is l = omega (arith, count-all l fresh)

  pub takes-are-calls : TakesAreCalls t f
  takes-are-calls l n a es c m e h =
      ⊎_elim (λ q. let z : ◌≡◌ {A = ℕ} 0 1 = cc in absurd (omega arith)) (λ q. q ∙ h) (is_call t f (reached t f l) (previews l) n a e)

  pub twenty : Twenty t f
  twenty l k p room = twenty-after (reached t f l) p room k _ refl

  pub asking-then-taking : AskingThenTaking t f
  asking-then-taking l k p room h = as-resolved (reached t f l) p room k h _ refl
