-- What the position that a search reports says of the order.
use Prim.Native.Nat.{ℕ, zero, suc, ◌<◌, ◌≤◌}
use mathlib.Core.Path.{◌≡◌, refl, ◌∙◌}
use mathlib.Core.Bool.{Bool, true, false}
use mathlib.Core.List.{List, [], ◌∷◌}
use mathlib.Core.Option.{Option, none, some}
use native.Mathlib.Omega.{arith}
use lib.ListN.{length, get_or}
use Rattle.entity.specs.Logic.{pick, has}
use Rattle.entity.specs.Place.{reg}
use Rattle.reginfo.specs.RegInfo.{RegInfo, allocation_order, includes_spillslots, class_members, last_in_order}
use Rattle.function.specs.Function.{Function}
use Rattle.rules.specs.Edit.{find, first_at}
use Rattle.rules.specs.Scratch.{ScratchAllocator, Evicted, Found, meeting, searched_to, usable, unevict, unevict_but, unevict_for_reg, make_room, slot_scratch, evict_last, reuse, or_scratch, get_scratch_reg}
use Rattle.rules.specs.Position.{SearchReports}
use Rattle.rules.proofs.Steps.{All, all_after, branch}

-- the first of a list that passes a test
pub first-within : (p : ℕ → Bool) (l : List ℕ) → first_at p l ≤ length l
unfolding first_at
first-within p [] = omega arith
first-within p (x ∷ l) = branch (λ n. n ≤ suc (length l)) (p x) 0 (suc (first_at p l)) (λ _. omega arith) (λ _. omega (arith, first-within p l))

pub first-before : (p : ℕ → Bool) (l : List ℕ) (i : ℕ) → i < first_at p l → p (get_or l i 0) ≡ false
unfolding first_at
first-before p [] i h = absurd (omega arith)
first-before p (x ∷ l) i h = go (p x) refl h i refl (first-before p l)
  where
    go : (b : Bool) → p x ≡ b → i < pick b 0 (suc (first_at p l)) → (j : ℕ) → j ≡ i → ((j : ℕ) → j < first_at p l → p (get_or l j 0) ≡ false)
        → p (get_or (x ∷ l) j 0) ≡ false
    go true e h j q on = absurd (omega arith)
    go false e h zero q on = e
    go false e h (suc j) q on = on j (omega arith)

-- the test passes there, and `find` gives what stands there
pub first-at : (p : ℕ → Bool) (l : List ℕ) → first_at p l < length l → (p (get_or l (first_at p l) 0) ≡ true) × (find p l ≡ some (get_or l (first_at p l) 0))
unfolding first_at find
first-at p [] h = absurd (omega arith)
first-at p (x ∷ l) h = go (p x) refl h (first-at p l)
  where
    go : (b : Bool) → p x ≡ b → pick b 0 (suc (first_at p l)) < suc (length l)
        → (first_at p l < length l → (p (get_or l (first_at p l) 0) ≡ true) × (find p l ≡ some (get_or l (first_at p l) 0)))
        → (p (get_or (x ∷ l) (pick b 0 (suc (first_at p l))) 0) ≡ true) × (pick b (some x) (find p l) ≡ some (get_or (x ∷ l) (pick b 0 (suc (first_at p l))) 0))
    go true e h on = (e, refl)
    go false e h on = on (omega arith)

module _ (t : RegInfo) (f : Function) where
  unevict-met : (es : List Evicted) (k : ScratchAllocator) → (unevict t f es k).met ≡ k.met
  unfolding unevict
  unevict-met [] k = refl
  unevict-met (e ∷ es) k = unevict-met es k

  room-met : (r : ℕ) (k : ScratchAllocator) → (make_room t f r k).met ≡ k.met
  unfolding make_room unevict_but unevict_for_reg
  room-met r k = unevict-met _ _ ∙ unevict-met _ _

  -- what is found failing the order: the position passed on, and nothing else is met
  abbrev Passed : ℕ → ScratchAllocator → Found → Type 0
  Passed n k x = (x.position ≡ n) × (x.scratch.met ≡ k.met)

  slot-passed : (n b : ℕ) (k : ScratchAllocator) → All (Passed n k) (slot_scratch t f n b k)
  unfolding slot_scratch
  slot-passed n b k = all_after (Passed n k) _ _ (λ a. (refl, refl))

  reuse-passed : (es : List Evicted) (n b c : ℕ) (k : ScratchAllocator) → All (Passed n k) (reuse t f es n b c k)
  unfolding reuse evict_last
  reuse-passed [] n b c k = all_after (Passed n k) _ _ (λ a. (refl, room-met (last_in_order t c) k))
  reuse-passed (e ∷ es) n b c k = branch (All (Passed n k)) (has e.reg (class_members t c)) _ _ (λ _. (refl, refl)) (λ _. reuse-passed es n b c k)

  or-passed : (o : Option ℕ) (n b c : ℕ) (k : ScratchAllocator) → All (Passed n k) (or_scratch t f o n b c k)
  unfolding or_scratch
  or-passed (some r) n b c k = (refl, refl)
  or-passed none n b c k = branch (All (Passed n k)) (includes_spillslots t c) _ _ (λ _. slot-passed n b k) (λ _. reuse-passed k.evicted n b c k)

  pub search-reports : SearchReports t f
  unfolding get_scratch_reg or_scratch
  search-reports b c barred k x e =
      let p = usable t f barred k in
      let l = allocation_order t c in
      let q : Passed (first_at p l) (meeting (first_at p l) k) x = passed in
      record {
        within = rw q.0 (first-within p l);
        before = λ i h. first-before p l i (omega (arith, q.0));
        at = λ h. rw q.0 (first-at p l (omega (arith, q.0))).0;
        found = λ h. rw q.0 (placed (get_or l (first_at p l) 0) (first-at p l (omega (arith, q.0))).1);
        met = rw q.0 q.1;
      }
    where
      passed : Passed (searched_to t f c barred k) (meeting (searched_to t f c barred k) k) x
      passed = rw e at (or-passed (find (usable t f barred k) (allocation_order t c)) (searched_to t f c barred k) b c (meeting (searched_to t f c barred k) k))

      placed : (r : ℕ) → find (usable t f barred k) (allocation_order t c) ≡ some r → x.place ≡ reg r
      placed r q = let z = rw q at e in cc
