-- The list lent to a call has room for every patch that is read: 16 holds of none.
use Prim.Native.Nat.{ℕ, zero, suc, ◌+◌, ◌≤◌}
use mathlib.Core.Path.{◌≡◌, refl, subst}
use mathlib.Core.Bool.{Bool, true, false}
use mathlib.Core.List.{List, [], ◌∷◌, ◌++◌}
use native.Mathlib.Omega.{arith}
use lib.Dec.{leb}
use lib.ListN.{length, length-append}
use borrow.Author.Tests.{leb-false}
use Rattle.entity.specs.Logic.{pick}
use Rattle.entity.specs.Place.{Place}
use Rattle.reginfo.specs.RegInfo.{RegInfo}
use Rattle.reginfo.specs.Refused.{first_of}
use Rattle.function.specs.Function.{Function}
use Rattle.rules.specs.Patch.{Entry, move, remat, Patch, Sorted, nothing_sorted, bound, becomes_remat, needs_scratch, dropped, add_remat, add_kept, entry_conditions, add, sorted_from, sorted}
use Rattle.number.specs.Read.{got}
use Rattle.number.specs.Number.{number}
use Rattle.job_function.proofs.Accepted.{then-got}
use Rattle.job_patch.specs.Patches.{rising, entry, entries, patch}
use Rattle.job_rules.specs.Conditions.{RoomForEvery}
use Rattle.job_rules.proofs.WasRead.{unless-got, given-got}

-- what the entries became is no more than they are, and they are 128 at most
pub record Few (a : Sorted) : Type 0 where
  pub sorts : length a.moves + (length a.remats_with_scratch + length a.remats) ≤ a.count
  pub most : a.count ≤ 128

-- one entry more
abbrev pub More : Sorted → Sorted → Type 0
More a b = (length b.moves + (length b.remats_with_scratch + length b.remats) ≤ length a.moves + (length a.remats_with_scratch + length a.remats) + 1) × (b.count ≡ suc a.count)

either : (a : Sorted) (b : Bool) (x y : Sorted) → More a x → More a y → More a (pick b x y)
either a true x y p q = p
either a false x y p q = q

longer : {A : Type 0} (l : List A) (x : A) → length (l ++ (x ∷ [])) ≡ length l + 1
longer l x = length-append l (x ∷ [])

module _ (t : RegInfo) (f : Function) where
  more-remat : (a : Sorted) (b : Bool) (d : Place) (v : ℕ) → More a (add_remat t f b d v a)
  more-remat a b d v =
      either a b _ _
      (omega (arith, longer a.remats_with_scratch (record { dest = d; value = v })), refl)
      (omega (arith, longer a.remats (record { dest = d; value = v })), refl)

  more-kept : (a : Sorted) (b : Bool) (s d : Place) (v : ℕ) → More a (add_kept t f b s d v a)
  more-kept a b s d v = either a b _ _ (omega arith, refl) (omega (arith, longer a.moves (record { source = s; dest = d; value = v })), refl)

  pub more : (a : Sorted) (e : Entry) → More a (add t f e a)
  unfolding add
  more a (move s d v) = either a (becomes_remat t f s d v) _ _ (more-remat a (needs_scratch t f d v) d v) (more-kept a (dropped t f a s d v) s d v)
  more a (remat d v) = more-remat a (needs_scratch t f d v) d v

  pub still-few : (a : Sorted) (e : Entry) → leb 128 a.count ≡ false → Few a → Few (add t f e a)
  still-few a e h k = let m = more a e in record { sorts = omega (arith, m.0, m.1, k.sorts); most = omega (arith, m.1, leb-false 128 a.count h) }

  entries-few : (n : ℕ) (a : Sorted) (l : List ℕ) (es : List Entry) (r : List ℕ) → entries t f n a l ≡ got es r → Few a → Few (sorted_from t f es a)
  unfolding entries sorted_from
  entries-few zero a l es r h k = let e : [] ≡ es = cc in rw (← e) k
  entries-few (suc n) a l es r h k =
      let b = unless-got (leb 128 a.count) 15 _ es r h in
      let w = then-got (entry t f l) _ es r b.1 in
      let g = given-got (first_of (entry_conditions t f a w.0)) _ es r w.3 in
      let x = then-got (entries t f n (add t f w.0 a) w.1) _ es r g.1 in
      let e : w.0 ∷ x.0 ≡ es = cc in
      subst (λ (es : List Entry). Few (sorted_from t f es a)) e
      (entries-few n (add t f w.0 a) w.1 x.0 x.1 x.2 (still-few a w.0 b.0 k))

  pub within : (a : Sorted) → Few a → bound a ≤ 1024
  within a k = omega (arith, k.sorts, k.most)

  pub none-sorted : Few nothing_sorted
  none-sorted = record { sorts = omega arith; most = omega arith }

  patch-few : (l : List ℕ) (p : Patch) (r : List ℕ) → patch t f l ≡ got p r → Few (sorted t f p)
  unfolding patch
  patch-few l p r h =
      let w = then-got (number l) _ p r h in
      let u = then-got (rising w.0 t.units 0 w.1) _ p r w.3 in
      let x = then-got (number u.1) _ p r u.3 in
      let y = then-got (entries t f x.0 nothing_sorted x.1) _ p r x.3 in
      go u.0 x.0 x.1 y.0 y.1 y.2 y.3
    where
      go : (free : List ℕ) (n : ℕ) (o : List ℕ) (es : List Entry) (q : List ℕ) → entries t f n nothing_sorted o ≡ got es q
          → got (record { free = free; entries = es }) q ≡ got p r → Few (sorted t f p)
      go free n o es q h e =
          let z : record { free = free; entries = es } ≡ p = cc in
          subst (λ (s : Patch). Few (sorted t f s)) z (entries-few n nothing_sorted o es q h none-sorted)

pub room-for-every : RoomForEvery
room-for-every t f l p r h = within t f (sorted t f p) (patch-few t f l p r h)
