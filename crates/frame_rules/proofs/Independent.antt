-- Until its first 20 by another's slot, or 17, a formula's calls get the same whatever the others call, but for slot numbers.
use Prim.Native.Nat.{ℕ, zero, suc, ◌+◌, ◌-◌, ◌<◌, ◌≤◌}
use mathlib.Core.Path.{◌≡◌, refl, sym, ap, subst, ◌∙◌}
use mathlib.Core.Bool.{Bool, true, false}
use mathlib.Core.List.{List, [], ◌∷◌, ◌++◌, map}
use mathlib.Core.Option.{Option, none, some}
use mathlib.Core.Logic.{◌⊎◌, inl, inr, ⊎_elim}
use native.Mathlib.Omega.{arith}
use lib.Dec.{eqb}
use lib.ListN.{length, get_or}
use borrow.Author.Tests.{eq-eqb, ne_eqb}
use Rattle.entity.specs.Logic.{pick}
use Rattle.reginfo.specs.RegInfo.{RegInfo}
use Rattle.reginfo.specs.Refused as target
use Rattle.function.specs.Function.{Function}
use Rattle.rules.specs.Scratch.{Cache}
use Rattle.rules.specs.Counts.{sum}
use Rattle.rules.specs.Patch.{Patch, Answer, refused, resolved, resolve}
use Rattle.rules.specs.Refusals.{with_limit}
use Rattle.rules.specs.Take.{Counted, Request, resolving, asking, taking, preview_of, stamped_by, answer_in}
use Rattle.rules.proofs.Steps.{same?}
use Rattle.rules.proofs.Sum.{sum-change, sum-le}
use Rattle.frame_rules.specs.Frame.{Inlined, first_slots, open_refusal, Asked, Formula, Frame, no_formula, opened, lacks, others_lack, reach, cache_in, now_in, resolve_in, take_in, taken_in, asked_of, standing_in, answered_in, asked_in, with_cache, after_in, FrameCall, after_call, Named, edits, told_of, told}
use Rattle.frame_rules.specs.Promise.{Kept}
use Rattle.frame_rules.specs.Renamed.{ren_edit, ren_told, Renaming, Ends, Same, Alike, Independent}
use Rattle.frame_rules.proofs.Calls.{reach_far, resolved-within, moved, goes_on, at_own, at_other, take-now, take-late, asked-where, left}
use Rattle.frame_rules.proofs.Promise.{reach-is}
use Rattle.frame_rules.proofs.Given.{Known, known-opened, known-after, is-target, is-slots}
use Rattle.frame_rules.proofs.Claim.{Lying, lying-opened, lying-after}
use Rattle.frame_rules.proofs.Lifted.{ren_answer, resolve-more}
use Rattle.frame_rules.proofs.Beside.{ext-old, Beside, Low, ahead, now, now-renaming, stacks-now, answers-beside, own-beside, other-beside}

-- ---- how far the counter may go, beside and alone
sum-add : (g h : ℕ → ℕ) (n : ℕ) → sum (λ k. g k + h k) n ≡ sum g n + sum h n
unfolding sum
sum-add g h zero = refl
sum-add g h (suc n) = omega (arith, sum-add g h n)

pick-le : (b : Bool) (x y z : ℕ) → x ≤ y + z → pick b 0 x ≤ pick b 0 y + pick b 0 z
pick-le true x y z h = omega arith
pick-le false x y z h = h

-- no more slots than with the others quiet
reach-less : (s q : Frame) (i : ℕ) → i < s.number → Kept s → Kept q → s.limit ≡ q.limit → s.number ≡ q.number → ((j : ℕ) → (s.formulas j).share ≡ (q.formulas j).share)
    → reach s i - (s.counter - (s.formulas i).made) ≤ reach q i
unfolding others_lack
reach-less s q i h ks kq lim num shares =
    omega (
      arith,
      reach-is s i h ks,
      reach-is q i (omega (arith, h, num)) kq,
      lim,
      ks.counted,
      sum-change (λ j. pick (eqb j i) 0 (s.formulas j).made) (λ j. (s.formulas j).made) s.number i h (λ k d. ap (λ b. pick b 0 (s.formulas k).made) (ne_eqb k i d)),
      ap (λ b. pick b 0 (s.formulas i).made) (eq-eqb i i refl),
      sum-add (λ j. pick (eqb j i) 0 (lacks s j)) (λ j. pick (eqb j i) 0 (s.formulas j).made) s.number,
      sum-le (λ j. pick (eqb j i) 0 (lacks q j)) (λ j. pick (eqb j i) 0 (lacks s j) + pick (eqb j i) 0 (s.formulas j).made) s.number
          (λ k l. pick-le (eqb k i) (lacks q k) (lacks s k) (s.formulas k).made (omega (arith, shares k))),
      ap (sum (λ j. pick (eqb j i) 0 (lacks q j))) num,
    )

-- ---- the answers of askings, side by side
abbrev Pair : Option Asked → Option Asked → Type 0
Pair none none = Unit {0}
Pair none (some b) = ⊥
Pair (some a) none = ⊥
Pair (some a) (some b) = (b.preview.patch ≡ a.preview.patch) × (b.preview.room ≡ a.preview.room) × (b.preview.count ≡ a.preview.count)

abbrev Pairs : List (Option Asked) → List (Option Asked) → Type 0
Pairs [] [] = Unit {0}
Pairs [] (y ∷ m) = ⊥
Pairs (x ∷ l) [] = ⊥
Pairs (x ∷ l) (y ∷ m) = Pair x y × Pairs l m

pairs-at : (l m : List (Option Asked)) → Pairs l m → (n : ℕ) → Pair (get_or l n none) (get_or m n none)
pairs-at [] [] p n = tt
pairs-at [] (y ∷ m) p n = absurd p
pairs-at (x ∷ l) [] p n = absurd p
pairs-at (x ∷ l) (y ∷ m) p zero = p.0
pairs-at (x ∷ l) (y ∷ m) p (suc n) = pairs-at l m p.1 n

pairs-add : (l m : List (Option Asked)) → Pairs l m → (x y : Option Asked) → Pair x y → Pairs (l ++ (x ∷ [])) (m ++ (y ∷ []))
pairs-add [] [] p x y q = (q, tt)
pairs-add [] (z ∷ m) p x y q = absurd p
pairs-add (z ∷ l) [] p x y q = absurd p
pairs-add (z ∷ l) (w ∷ m) p x y q = (p.0, pairs-add l m p.1 x y q)

module _ (limit : ℕ) (l : List Inlined) (ok : open_refusal limit l ≡ none) (i : ℕ) (il : i < length l) where
  abbrev t : RegInfo
  t = (get_or l i no_formula).target

  abbrev f : Function
  f = (get_or l i no_formula).function

  abbrev N : ℕ
  N = first_slots l

  at : target.Accepted t
  at = is-target limit l ok (opened limit l) (known-opened limit l ok) i il

  slots-is : f.slots ≡ N
  slots-is = is-slots limit l ok (opened limit l) (known-opened limit l ok) i il

  -- the frame s beside q, where only formula i has called
  record Mirror (s q : Frame) (ρ : ℕ → ℕ) : Type 0 where
    known : Known limit l s
    lying : Lying limit l ok q
    sole : q.counter ≡ (q.formulas i).made
    beside : Beside t f s i (cache_in q i) ρ
    count-is : (s.formulas i).count ≡ (q.formulas i).count
    pairs : Pairs (s.formulas i).asked (q.formulas i).asked
    steady : (n : ℕ) (b : Asked) → get_or (q.formulas i).asked n none ≡ some b → b.preview.count ≡ (q.formulas i).count → b.counter ≡ q.counter

  module _ (s q : Frame) (ρ : ℕ → ℕ) (g : Mirror s q ρ) where
    abbrev c : Cache
    c = cache_in q i

    abbrev d : ℕ
    d = ahead t f s c

    abbrev ρ' : ℕ → ℕ
    ρ' = now t f s c ρ

    in-number : i < q.number
    in-number = omega (arith, il, g.lying.known.sound.number)

    low : Low t f c
    low x z h = omega (arith, slots-is, g.lying.stacks.below x i z in-number h)

    abbrev most : ℕ
    most = reach s i - d

    most-low : most ≤ reach q i
    most-low =
        omega (
          arith,
          reach-less s q i (omega (arith, il, g.known.sound.number)) g.known.sound.kept g.lying.known.sound.kept (g.known.given.limit_is ∙ sym g.lying.known.given.limit_is)
              (g.known.sound.number ∙ sym g.lying.known.sound.number) (λ j. g.known.given.share-is j ∙ sym (g.lying.known.given.share-is j)),
          g.beside.made-is,
        )

    quiet_is : (p : Patch) (room : ℕ) → resolve_in q i p room ≡ resolve t (with_limit t f (reach q i)) p room c
    unfolding resolve_in
    quiet_is p room = rw (g.lying.known.given.target_is i, g.lying.known.given.function-is i) refl

    -- out of slots, or answered as with the others quiet, renamed
    outcome : (p : Patch) (room : ℕ) → (resolve_in s i p room ≡ refused 17) ⊎ (resolve_in s i p room ≡ ren_answer ρ' d (resolve_in q i p room))
    outcome p room =
        let a = answers-beside t f s i c ρ g.beside low at p room in
        ⊎_elim (λ h. inl (a ∙ ap (ren_answer ρ' d) h)) (λ h. inr (a ∙ ap (ren_answer ρ' d) (sym h ∙ sym (quiet_is p room))))
        (resolve-more t f p room c most (reach q i) (omega (arith, reach_far s i, g.beside.few)) most-low)

    -- ---- what is told
    told-like : (r : Answer) → told_of s i (some (ren_answer ρ' d r)) ≡ ren_told ρ' (told_of q i (some r))
    told-like (refused n) = refl
    told-like (resolved es c' n) = ap (λ m. edits (map (ren_edit ρ') es) m n) (omega (arith, g.beside.made-is, g.sole, g.beside.few))

    same : (x : Request) → told s (record { formula = i; request = x }) ≡ ren_told ρ' (told q (record { formula = i; request = x })) → Same N i s q (record { formula = i; request = x }) ρ ρ'
    same x e =
        record {
          renaming = subst (λ (n : ℕ). Renaming n ρ') slots-is (now-renaming t f s i c ρ g.beside low);
          agrees = λ y h. ext-old f.slots c.made d ρ y (omega (arith, slots-is, h, g.sole));
          tells = e;
        }

    -- ---- where it leads
    record Moves (v w : Counted) : Type 0 where
      stacks : v.cache.stacks ≡ (λ z. map ρ' (w.cache.stacks z))
      made : v.cache.made ≡ w.cache.made + d
      up : q.counter ≤ w.cache.made
      count : v.count ≡ w.count
      count-up : (q.formulas i).count ≤ w.count
      still : w.count ≡ (q.formulas i).count → w.cache.made ≡ q.counter

    stays-so : Moves (now_in s i) (now_in q i)
    stays-so =
        record {
          stacks = stacks-now t f s i c ρ g.beside low;
          made = omega (arith, g.beside.few);
          up = omega arith;
          count = g.count-is;
          count-up = omega arith;
          still = λ e. refl;
        }

    abbrev Grown : Answer → Type 0
    Grown (refused n) = Unit {0}
    Grown (resolved es c' n) = q.counter ≤ c'.made

    grown : (p : Patch) (room : ℕ) (r : Answer) → resolve_in q i p room ≡ r → Grown r
    grown p room (refused n) e = tt
    grown p room (resolved es c' n) e = (resolved-within q i p room es c' n e).0

    moves-by : (pl pq : Patch) (r : Answer) → Grown r → Moves (stamped_by (now_in s i) (some (record { patch = pl; answer = ren_answer ρ' d r }))) (stamped_by (now_in q i) (some (record { patch = pq; answer = r })))
    moves-by pl pq (refused n) h =
        record {
          stacks = stays-so.stacks;
          made = stays-so.made;
          up = stays-so.up;
          count = omega (arith, g.count-is);
          count-up = omega arith;
          still = λ e. refl;
        }
    moves-by pl pq (resolved es c' n) h = record { stacks = refl; made = refl; up = h; count = omega (arith, g.count-is); count-up = omega arith; still = λ e. absurd (omega (arith, e)) }

    -- answers to take that were there are steady
    steady-on : (w : Counted) → (q.formulas i).count ≤ w.count → (w.count ≡ (q.formulas i).count → w.cache.made ≡ q.counter) → (n : ℕ) (b : Asked) → get_or (q.formulas i).asked n none ≡ some b
        → b.preview.count ≡ w.count → b.counter ≡ w.cache.made
    steady-on w up still n b e h =
        let k = (g.lying.known.sound.previews i n b e).count_low in
        let same_count : w.count ≡ (q.formulas i).count = omega (arith, k, up, h) in
        g.steady n b e (h ∙ same_count) ∙ sym (still same_count)

    mirror-on : (v w : Counted) → Moves v w → (al aq : List (Option Asked)) → Pairs al aq → ((n : ℕ) (b : Asked) → get_or aq n none ≡ some b → b.preview.count ≡ w.count → b.counter ≡ w.cache.made)
        → Known limit l (with_cache s i v al) → Lying limit l ok (with_cache q i w aq) → Mirror (with_cache s i v al) (with_cache q i w aq) ρ'
    mirror-on v w m al aq p st k y =
        let os = at_own s i v al in
        let oq = at_own q i w aq in
        record {
          known = k;
          lying = y;
          sole = omega (arith, ap (λ (z : Formula). z.made) oq, g.sole, m.up);
          beside =
              own-beside t f s i c ρ g.beside low v al (cache_in (with_cache q i w aq) i) (m.stacks ∙ ap {B = ℕ → List ℕ} (λ (st : ℕ → List ℕ) z. map ρ' (st z)) (sym (ap (λ (z : Formula). z.stacks) oq))) m.made m.up;
          count-is = ap (λ (z : Formula). z.count) os ∙ m.count ∙ sym (ap (λ (z : Formula). z.count) oq);
          pairs = rw (ap (λ (z : Formula). z.asked) os, ap (λ (z : Formula). z.asked) oq) p;
          steady = λ n b e h. st n b (sym (ap (λ (z : Formula). get_or z.asked n none) oq) ∙ e) (h ∙ ap (λ (z : Formula). z.count) oq);
        }

    -- ---- one call of formula i
    abbrev call : Request → FrameCall
    call x = record { formula = i; request = x }

    abbrev Next : Request → Type 0
    Next x = Ends s (call x) ⊎ ((ρ' : ℕ → ℕ) × Same N i s q (call x) ρ ρ' × Mirror (after_in s i x) (after_in q i x) ρ')

    known_next : (x : Request) → Known limit l (after_in s i x)
    known_next x = known-after limit l s (call x) il g.known

    lying-next : (x : Request) → Lying limit l ok (after_in q i x)
    lying-next x = lying-after limit l ok q (call x) il g.lying

    resolving-next : (p : Patch) (room : ℕ) → Next (resolving p room)
    unfolding answered_in standing_in asked_in
    resolving-next p room =
        ⊎_elim (λ h. inl (inl (ap (λ r. told_of s i (some r)) h)))
        (λ h. let m : Moves (stamped_by (now_in s i) (some (record { patch = p; answer = resolve_in s i p room }))) (stamped_by (now_in q i) (some (record { patch = p; answer = resolve_in q i p room }))) =
        rw h (moves-by p p (resolve_in q i p room) (grown p room (resolve_in q i p room) refl)) in
        inr (
          ρ',
          same (resolving p room) (ap (λ r. told_of s i (some r)) h ∙ told-like (resolve_in q i p room)),
          mirror-on _ _ m (s.formulas i).asked (q.formulas i).asked g.pairs (steady-on (stamped_by (now_in q i) (some (record { patch = p; answer = resolve_in q i p room }))) m.count-up m.still)
              (known_next (resolving p room)) (lying-next (resolving p room)),
        )) (outcome p room)

    pair_of : (p : Patch) (room cs cq : ℕ) → cs ≡ cq → (r : Answer) → Pair (asked_of s.counter (preview_of p room cs (ren_answer ρ' d r))) (asked_of q.counter (preview_of p room cq r))
    pair_of p room cs cq e (refused n) = tt
    pair_of p room cs cq e (resolved es c' n) = (refl, refl, sym e)

    asking-next : (p : Patch) (room : ℕ) → Next (asking p room)
    unfolding answered_in standing_in asked_in
    asking-next p room =
        ⊎_elim (λ h. inl (inl (ap (λ r. told_of s i (some r)) h)))
        (λ h. inr (
          ρ',
          same (asking p room) (ap (λ r. told_of s i (some r)) h ∙ told-like (resolve_in q i p room)),
          mirror-on (now_in s i) (now_in q i) stays-so _ _
              (pairs-add (s.formulas i).asked (q.formulas i).asked g.pairs _ _ (rw h (pair_of p room (s.formulas i).count (q.formulas i).count g.count-is (resolve_in q i p room))))
              (λ n b e k. ⊎_elim (λ y. g.steady n b y k) (λ y. (left p room (q.formulas i).count q.counter (resolve_in q i p room) b y).counter-is) (asked-where (q.formulas i).asked _ n b e))
              (known_next (asking p room)) (lying-next (asking p room)),
        )) (outcome p room)

    -- a take whose answers are alike
    taken_next : (n : ℕ) (a b : Asked) → get_or (s.formulas i).asked n none ≡ some a → get_or (q.formulas i).asked n none ≡ some b → take_in a s i ≡ ren_answer ρ' d (take_in b q i) → Grown (take_in b q i) → Next (taking n)
    unfolding answered_in standing_in asked_in
    taken_next n a b ea eb h k =
        let vs : standing_in s i (taking n) ≡ some (record { patch = a.preview.patch; answer = take_in a s i }) = ap (λ o. taken_in o s i) ea in
        let vq : standing_in q i (taking n) ≡ some (record { patch = b.preview.patch; answer = take_in b q i }) = ap (λ o. taken_in o q i) eb in
        let m : Moves (stamped_by (now_in s i) (standing_in s i (taking n))) (stamped_by (now_in q i) (standing_in q i (taking n))) =
        subst (λ o. Moves (stamped_by (now_in s i) o) (stamped_by (now_in q i) (standing_in q i (taking n)))) (sym vs)
        (subst (λ o. Moves (stamped_by (now_in s i) (some (record { patch = a.preview.patch; answer = take_in a s i }))) (stamped_by (now_in q i) o)) (sym vq)
        (rw h (moves-by a.preview.patch b.preview.patch (take_in b q i) k))) in
        inr (
          ρ',
          same (taking n) (ap (λ o. told_of s i (answer_in o)) vs ∙ ap (λ r. told_of s i (some r)) h ∙ told-like (take_in b q i) ∙ sym (ap (λ o. ren_told ρ' (told_of q i (answer_in o))) vq)),
          mirror-on _ _ m (s.formulas i).asked (q.formulas i).asked g.pairs (steady-on (stamped_by (now_in q i) (standing_in q i (taking n))) m.count-up m.still)
              (known_next (taking n)) (lying-next (taking n)),
        )

    taking-some : (n : ℕ) (a b : Asked) → get_or (s.formulas i).asked n none ≡ some a → get_or (q.formulas i).asked n none ≡ some b → Pair (some a) (some b) → Next (taking n)
    taking-some n a b ea eb pr =
        ⊎_elim
        (λ e. ⊎_elim (λ h. fresh e h) (λ h. inl (inr (rw (ea, eq-eqb a.preview.count (s.formulas i).count e, ne_eqb a.counter s.counter h) refl))) (same? a.counter s.counter))
        (λ e. taken_next n a b ea eb (take-late s i a (inl e) ∙ ap (ren_answer ρ' d) (sym (late e))) (subst Grown (sym (late e)) tt)) (same? a.preview.count (s.formulas i).count)
      where
        -- not by another's slot
        late : (a.preview.count ≡ (s.formulas i).count → ⊥) → take_in b q i ≡ refused 20
        late e = take-late q i b (inl (λ k. e (sym pr.2 ∙ k ∙ sym g.count-is)))

        fresh : a.preview.count ≡ (s.formulas i).count → a.counter ≡ s.counter → Next (taking n)
        fresh e h =
            let bc : b.preview.count ≡ (q.formulas i).count = pr.2 ∙ e ∙ g.count-is in
            let bk : b.counter ≡ q.counter = g.steady n b eb bc in
            let ts = take-now s i a e h in
            let tq = take-now q i b bc bk in
            let rs : resolve_in s i a.preview.patch a.preview.room ≡ take_in a s i = (g.known.sound.previews i n a ea).same e h ∙ sym ts in
            let rq : resolve_in q i b.preview.patch b.preview.room ≡ take_in b q i = (g.lying.known.sound.previews i n b eb).same bc bk ∙ sym tq in
            let rq' : resolve_in q i a.preview.patch a.preview.room ≡ take_in b q i = rw (← pr.0, ← pr.1) rq in
            ⊎_elim (λ y. let w : ◌≡◌ {A = ℕ} 0 1 = cc in absurd (omega arith))
            (λ y. taken_next n a b ea eb (sym rs ∙ y ∙ ap (ren_answer ρ' d) rq') (grown b.preview.patch b.preview.room (take_in b q i) rq)) (outcome a.preview.patch a.preview.room)

    taking-none : (n : ℕ) → get_or (s.formulas i).asked n none ≡ none → get_or (q.formulas i).asked n none ≡ none → Next (taking n)
    unfolding answered_in standing_in asked_in
    taking-none n ea eb =
        let vs : standing_in s i (taking n) ≡ none = ap (λ o. taken_in o s i) ea in
        let vq : standing_in q i (taking n) ≡ none = ap (λ o. taken_in o q i) eb in
        let m : Moves (stamped_by (now_in s i) (standing_in s i (taking n))) (stamped_by (now_in q i) (standing_in q i (taking n))) =
        subst (λ o. Moves (stamped_by (now_in s i) o) (stamped_by (now_in q i) (standing_in q i (taking n)))) (sym vs) (subst (λ o. Moves (now_in s i) (stamped_by (now_in q i) o)) (sym vq) stays-so) in
        inr (
          ρ',
          same (taking n) (ap (λ o. told_of s i (answer_in o)) vs ∙ sym (ap (λ o. ren_told ρ' (told_of q i (answer_in o))) vq)),
          mirror-on _ _ m (s.formulas i).asked (q.formulas i).asked g.pairs (steady-on (stamped_by (now_in q i) (standing_in q i (taking n))) m.count-up m.still)
              (known_next (taking n)) (lying-next (taking n)),
        )

    taking-next : (n : ℕ) → Next (taking n)
    taking-next n = go (get_or (s.formulas i).asked n none) (get_or (q.formulas i).asked n none) refl refl (pairs-at (s.formulas i).asked (q.formulas i).asked g.pairs n)
      where
        go : (o u : Option Asked) → get_or (s.formulas i).asked n none ≡ o → get_or (q.formulas i).asked n none ≡ u → Pair o u → Next (taking n)
        go none none ea eb p = taking-none n ea eb
        go none (some b) ea eb p = absurd p
        go (some a) none ea eb p = absurd p
        go (some a) (some b) ea eb p = taking-some n a b ea eb p

    next : (x : Request) → Next x
    next (resolving p room) = resolving-next p room
    next (asking p room) = asking-next p room
    next (taking n) = taking-next n

    -- ---- one call of another
    mirror-other : (x : FrameCall) → x.formula < length l → (x.formula ≡ i → ⊥) → Mirror (after_call s x) q ρ
    mirror-other x h e =
        let o = at_other s x.formula (stamped_by (now_in s x.formula) (standing_in s x.formula x.request)) (asked_in s x.formula x.request) i (λ k. e (sym k)) in
        record {
          known = known-after limit l s x h g.known;
          lying = g.lying;
          sole = g.sole;
          beside =
              other-beside t f s i c ρ g.beside x.formula (stamped_by (now_in s x.formula) (standing_in s x.formula x.request)) (asked_in s x.formula x.request) (λ k. e (sym k))
              (goes_on s x.formula _ (moved s x.formula x.request (g.known.sound.previews x.formula)));
          count-is = ap (λ (z : Formula). z.count) o ∙ g.count-is;
          pairs = rw (ap (λ (z : Formula). z.asked) o) g.pairs;
          steady = g.steady;
        }

  claim : (calls : List FrameCall) → Named (length l) calls → (s q : Frame) (ρ : ℕ → ℕ) → Mirror s q ρ → Alike N i calls s q ρ
  claim [] k s q ρ g = tt
  claim (x ∷ xs) k s q ρ g =
      ((λ d. claim xs k.1 (after_call s x) q ρ (mirror-other s q ρ g x k.0 d)), λ e. ⊎_elim inl (λ w. inr (w.0, w.1, claim xs k.1 (after_call s x) (after_call q x) w.0 w.2)) (here e))
    where
      here : x.formula ≡ i → Ends s x ⊎ ((ρ' : ℕ → ℕ) × Same N i s q x ρ ρ' × Mirror (after_call s x) (after_call q x) ρ')
      here e =
          subst
          (λ (j : ℕ). Ends s (record { formula = j; request = x.request })
          ⊎ ((ρ' : ℕ → ℕ) × Same N i s q (record { formula = j; request = x.request }) ρ ρ' × Mirror (after_in s j x.request) (after_in q j x.request) ρ'))
          (sym e) (next s q ρ g x.request)

  mirror-opened : Mirror (opened limit l) (opened limit l) (λ y. y)
  mirror-opened =
      record {
        known = known-opened limit l ok;
        lying = lying-opened limit l ok;
        sole = refl;
        beside =
            record {
              target_is = refl;
              function-is = refl;
              made-is = refl;
              stacks-are = refl;
              few = omega arith;
              renaming = record { stays = λ y h. refl; rises = λ y x h. h };
              bounded = λ y h. h;
            };
        count-is = refl;
        pairs = tt;
        steady = λ n b e. let z : ◌≡◌ {A = ℕ} 0 1 = cc in absurd (omega arith);
      }

pub independent : Independent
independent limit l ok calls k i il = claim limit l ok i il calls k (opened limit l) (opened limit l) (λ y. y) (mirror-opened limit l ok i il)
