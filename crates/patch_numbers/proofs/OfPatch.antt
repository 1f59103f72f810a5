-- Of bytes that begin with a patch the second reading gives the numbers of its entries.
use Prim.Native.Nat.{ℕ, zero, suc, ◌+◌, ◌≤◌}
use mathlib.Core.Path.{◌≡◌, refl, sym, ap, ◌∙◌}
use mathlib.Core.Bool.{Bool, true, false}
use mathlib.Core.List.{List, [], ◌∷◌}
use native.Mathlib.Omega.{arith}
use borrow.Author.Tests.{le-ltb, leb-false, ltb-true, eqb-false, eq-eqb}
use lib.Dec.{eqb, ltb, leb}
use Rattle.entity.specs.Logic.{pick}
use Rattle.entity.specs.Place.{Place, place_at}
use Rattle.reginfo.specs.RegInfo.{RegInfo}
use Rattle.reginfo.specs.Refused.{first_of}
use Rattle.function.specs.Function.{Function, num_values}
use Rattle.rules.specs.Patch.{Entry, move, remat, Patch, Sorted, nothing_sorted, names_place, entry_conditions, add}
use Rattle.number.specs.Read.{got, refused, then}
use Rattle.number.specs.Number.{number}
use Rattle.reading.specs.Reading.{tested, below}
use Rattle.parallel_moves.specs.Given.{entry_of, entries_of}
use Rattle.job_function.proofs.Accepted.{then-got, tested-got}
use Rattle.job_patch.specs.Patches.{rising, place, entry, entries, patch}
use Rattle.job_rules.proofs.WasRead.{unless-got, given-got}
use Rattle.job_rules.proofs.Room.{more}
use Rattle.patch_numbers.specs.Numbers.{passed, four, fours, counted, numbers_in, OfPatch}

-- what passed a test was read
picked : {A : Type 0} (b : Bool) (a x : A) (l r : List ℕ) (k : ℕ) → pick b (got a l) (refused k) ≡ got x r → (a ≡ x) × (l ≡ r)
picked true a x l r k e = (cc, cc)
picked false a x l r k e = absurd (let z : ◌≡◌ {A = ℕ} 0 1 = cc in omega arith)

below-number : (n : ℕ) (l : List ℕ) (v : ℕ) (r : List ℕ) → below n l ≡ got v r → number l ≡ got v r
unfolding tested
below-number n l v r e =
    let w = then-got (number l) _ v r e in
    let q = picked (ltb w.0 n) w.0 v w.1 r 2 w.3 in
    w.2 ∙ rw (q.0, q.1)

rising-passed : (k limit least : ℕ) (l us r : List ℕ) → rising k limit least l ≡ got us r → passed k l ≡ got 0 r
unfolding rising passed
rising-passed zero limit least l us r e = let z : l ≡ r = cc in ap (λ (q : List ℕ). got 0 q) z
rising-passed (suc k) limit least l us r e =
    let w = then-got (below limit l) _ us r e in
    let u = unless-got (ltb w.0 least) 3 _ us r w.3 in
    let x = then-got (rising k limit (w.0 + 1) w.1) _ us r u.1 in
    let z : x.1 ≡ r = cc in
    rw (below-number limit l w.0 w.1 w.2) (rising-passed k limit (w.0 + 1) w.1 x.0 x.1 x.2 ∙ ap (λ (q : List ℕ). got 0 q) z)

fours-more : (n : ℕ) (l p q r : List ℕ) (kind x y z : ℕ) (ns : List ℕ) → four l ≡ got (kind ∷ x ∷ y ∷ z ∷ []) p → fours n p ≡ got ns q → q ≡ r
    → fours (suc n) l ≡ got (kind ∷ x ∷ y ∷ z ∷ ns) r
unfolding fours
fours-more n l p q r kind x y z ns a b o = rw (a, b, o)

all_more : (l p q o i r : List ℕ) (k n : ℕ) (ns : List ℕ) → number l ≡ got k p → passed k p ≡ got 0 q → number q ≡ got n o → n ≤ 128 → fours n o ≡ got ns i → i ≡ r → numbers_in l ≡ got ns r
unfolding numbers_in counted
all_more l p q o i r k n ns a b c low d e = rw (a, b, c, le-ltb 128 n low, d, e)

module _ (t : RegInfo) (f : Function) where
  pub record PlaceNumber (l : List ℕ) (p : Place) (r : List ℕ) : Type 0 where
    pub code : ℕ
    pub reads : number l ≡ got code r
    pub is : p ≡ place_at code

  place-number : (l : List ℕ) (p : Place) (r : List ℕ) → place t f l ≡ got p r → PlaceNumber l p r
  unfolding place
  place-number l p r e =
      let w = then-got (number l) _ p r e in
      let q = picked (names_place t f (place_at w.0)) (place_at w.0) p w.1 r 2 w.3 in
      record { code = w.0; reads = w.2 ∙ rw q.1; is = sym q.0 }

  -- an entry's numbers
  pub record EntryNumbers (l : List ℕ) (e : Entry) (r : List ℕ) : Type 0 where
    pub kind : ℕ
    pub x : ℕ
    pub y : ℕ
    pub z : ℕ
    pub reads : four l ≡ got (kind ∷ x ∷ y ∷ z ∷ []) r
    pub is : entry_of kind x y z ≡ e

  move-numbers : (kind : ℕ) (l q : List ℕ) (e : Entry) (r : List ℕ) → number l ≡ got kind q → eqb kind 0 ≡ true
      → then (place t f q) (λ s q. then (place t f q) (λ d p. then (below (num_values f) p) (λ v o. got (move s d v) o))) ≡ got e r → EntryNumbers l e r
  unfolding four entry_of
  move-numbers kind l q e r n b h =
      let w = then-got (place t f q) _ e r h in
      let u = then-got (place t f w.1) _ e r w.3 in
      let v = then-got (below (num_values f) u.1) _ e r u.3 in
      let a = place-number q w.0 w.1 w.2 in
      let c = place-number w.1 u.0 u.1 u.2 in
      let d = below-number (num_values f) u.1 v.0 v.1 v.2 in
      let m : move w.0 u.0 v.0 ≡ e = cc in
      let o : v.1 ≡ r = cc in
      record { kind = kind; x = a.code; y = c.code; z = v.0; reads = rw (n, a.reads, c.reads, b, d, o); is = rw b (ap (λ (p : Place). move p (place_at c.code) v.0) (sym a.is) ∙ ap (λ (p : Place). move w.0 p v.0) (sym c.is) ∙ m) }

  remat-numbers : (kind : ℕ) (l q : List ℕ) (e : Entry) (r : List ℕ) → number l ≡ got kind q → eqb kind 0 ≡ false → kind ≡ 1
      → then (place t f q) (λ d q. then (below (num_values f) q) (λ v p. got (remat d v) p)) ≡ got e r → EntryNumbers l e r
  unfolding four entry_of
  remat-numbers kind l q e r n b one h =
      let w = then-got (place t f q) _ e r h in
      let v = then-got (below (num_values f) w.1) _ e r w.3 in
      let a = place-number q w.0 w.1 w.2 in
      let d = below-number (num_values f) w.1 v.0 v.1 v.2 in
      let m : remat w.0 v.0 ≡ e = cc in
      let o : v.1 ≡ r = cc in
      record { kind = kind; x = a.code; y = v.0; z = 0; reads = rw (n, a.reads, d, b, o); is = rw (b, eq-eqb kind 1 one) (ap (λ (p : Place). remat p v.0) (sym a.is) ∙ m) }

  entry-numbers : (l : List ℕ) (e : Entry) (r : List ℕ) → entry t f l ≡ got e r → EntryNumbers l e r
  unfolding entry
  entry-numbers l e r h =
      let w = then-got (below 2 l) _ e r h in
      go w.0 w.1 (below-number 2 l w.0 w.1 w.2) (ltb-true w.0 2 (tested-got (λ x. ltb x 2) l w.0 w.1 w.2)) (eqb w.0 0) refl w.3
    where
      go : (kind : ℕ) (q : List ℕ) → number l ≡ got kind q → suc kind ≤ 2 → (b : Bool) → eqb kind 0 ≡ b
          → pick b (then (place t f q) (λ s q. then (place t f q) (λ d p. then (below (num_values f) p) (λ v o. got (move s d v) o))))
          (then (place t f q) (λ d q. then (below (num_values f) q) (λ v p. got (remat d v) p))) ≡ got e r
          → EntryNumbers l e r
      go kind q n low true b h = move-numbers kind l q e r n b h
      go kind q n low false b h = remat-numbers kind l q e r n b (let z = eqb-false kind 0 b in omega (arith, z)) h

  pub record EntriesNumbers (n : ℕ) (l : List ℕ) (es : List Entry) (r : List ℕ) : Type 0 where
    pub numbers : List ℕ
    pub reads : fours n l ≡ got numbers r
    pub are : entries_of numbers ≡ es

  entries-numbers : (n : ℕ) (a : Sorted) (l : List ℕ) (es : List Entry) (r : List ℕ) → entries t f n a l ≡ got es r → EntriesNumbers n l es r
  unfolding entries fours entries_of
  entries-numbers zero a l es r h = let e : [] ≡ es = cc in let z : l ≡ r = cc in record { numbers = []; reads = rw z; are = e }
  entries-numbers (suc n) a l es r h =
      let b = unless-got (leb 128 a.count) 15 _ es r h in
      let w = then-got (entry t f l) _ es r b.1 in
      let g = given-got (first_of (entry_conditions t f a w.0)) _ es r w.3 in
      let v = then-got (entries t f n (add t f w.0 a) w.1) _ es r g.1 in
      let e : w.0 ∷ v.0 ≡ es = cc in
      let o : v.1 ≡ r = cc in
      let one = entry-numbers l w.0 w.1 w.2 in
      let on = entries-numbers n (add t f w.0 a) w.1 v.0 v.1 v.2 in
      record { numbers = one.kind ∷ one.x ∷ one.y ∷ one.z ∷ on.numbers; reads = fours-more n l w.1 v.1 r one.kind one.x one.y one.z on.numbers one.reads on.reads o; are = ap (λ (x : Entry). x ∷ entries_of on.numbers) one.is ∙ ap (λ (k : List Entry). w.0 ∷ k) on.are ∙ e }

  -- no more than 128
  entries-within : (n : ℕ) (a : Sorted) (l : List ℕ) (es : List Entry) (r : List ℕ) → entries t f n a l ≡ got es r → a.count ≤ 128 → n + a.count ≤ 128
  unfolding entries
  entries-within zero a l es r h k = omega arith
  entries-within (suc n) a l es r h k =
      let b = unless-got (leb 128 a.count) 15 _ es r h in
      let w = then-got (entry t f l) _ es r b.1 in
      let g = given-got (first_of (entry_conditions t f a w.0)) _ es r w.3 in
      let v = then-got (entries t f n (add t f w.0 a) w.1) _ es r g.1 in
      let m = (more t f a w.0).1 in
      let low = leb-false 128 a.count b.0 in
      let on = entries-within n (add t f w.0 a) w.1 v.0 v.1 v.2 (omega (arith, m, low)) in
      omega (arith, m, on)

pub of-patch : OfPatch
unfolding patch
of-patch t f l p r h =
    let w = then-got (number l) _ p r h in
    let u = then-got (rising w.0 t.units 0 w.1) _ p r w.3 in
    let x = then-got (number u.1) _ p r u.3 in
    let y = then-got (entries t f x.0 nothing_sorted x.1) _ p r x.3 in
    let is : record { free = u.0; entries = y.0 } ≡ p = cc in
    let o : y.1 ≡ r = cc in
    let few = entries-within t f x.0 nothing_sorted x.1 y.0 y.1 y.2 (omega arith) in
    let e = entries-numbers t f x.0 nothing_sorted x.1 y.0 y.1 y.2 in (
      e.numbers,
      all_more l w.1 u.1 x.1 y.1 r w.0 x.0 e.numbers w.2 (rising-passed w.0 t.units 0 w.1 u.0 u.1 u.2) x.2 (omega (arith, few)) e.reads o,
      e.are ∙ ap (λ (q : Patch). q.entries) is,
    )
