-- What is known of a part that was read.
use Prim.Native.Nat.{ℕ, zero, suc}
use mathlib.Core.Path.{◌≡◌, refl, ap, subst, ◌∙◌}
use mathlib.Core.Bool.{Bool, true, false}
use mathlib.Core.List.{List, [], ◌∷◌}
use mathlib.Core.Option.{Option, none, some}
use native.Mathlib.Omega.{arith}
use lib.Dec.{eqb, ltb, leb}
use lib.ListN.{length, drop}
use Rattle.entity.specs.Logic.{pick, no}
use Rattle.entity.specs.Place.{Place, place_at}
use Rattle.entity.proofs.Laws.{no_false}
use Rattle.reginfo.specs.RegInfo.{RegInfo}
use Rattle.reginfo.specs.Refused.{first_of}
use Rattle.function.specs.Function.{Function, num_values, is_setting}
use Rattle.rules.specs.Scratch.{Cache}
use Rattle.rules.specs.Patch.{Entry, move, remat, Patch, Sorted, nothing_sorted, names_place, entry_conditions, add, sorted, resolve_sorted, resolve}
use Rattle.rules.specs.Refusals.{entries_conditions}
use Rattle.number.specs.Read.{Read, got, refused, then}
use Rattle.number.specs.Number.{number}
use Rattle.reading.specs.Reading.{below}
use Rattle.parallel_moves.proofs.First.{first-append, resolve-first}
use Rattle.job_function.proofs.Accepted.{then-got, pick-got, tested-got}
use Rattle.job_patch.specs.Patches.{unless_given, rising, place, entry, entries, patch}
use Rattle.job_rules.specs.Job.{unless_early}

never : {A B : Type 0} {a : A} {r : List ℕ} {k : ℕ} → refused k ≡ got a r → B
never e = let z : ◌≡◌ {A = ℕ} 0 1 = cc in absurd (omega arith)

pub unless-got : {A : Type 0} (b : Bool) (k : ℕ) (d : Read A) (y : A) (q : List ℕ) → pick b (refused k) d ≡ got y q → (b ≡ false) × (d ≡ got y q)
unless-got true k d y q e = never e
unless-got false k d y q e = (refl, e)

-- with a setting of one or two, and of no more than 65,536 bytes
pub early-got : {A : Type 0} (kept : ℕ) (l : List ℕ) (d : Read A) (y : A) (q : List ℕ) → unless_early kept l d ≡ got y q → (is_setting kept ≡ true) × (ltb 65536 (length l) ≡ false) × (d ≡ got y q)
early-got kept l d y q e =
    let a = unless-got (no (is_setting kept)) 22 _ y q e in
    let b = unless-got (ltb 65536 (length l)) 2 d y q a.1 in
    (no_false (is_setting kept) a.0, b.0, b.1)

pub given-got : {A : Type 0} (o : Option ℕ) (d : Read A) (y : A) (q : List ℕ) → unless_given o d ≡ got y q → (o ≡ none) × (d ≡ got y q)
given-got none d y q e = (refl, e)
given-got (some k) d y q e = never e

-- ---- an entry's numbers name what they should: 15 and 2 are settled when its other conditions are tested
module _ (t : RegInfo) (f : Function) where
  abbrev Named : Entry → Type 0
  Named (move s d v) = (names_place t f s ≡ true) × (names_place t f d ≡ true) × (ltb v (num_values f) ≡ true)
  Named (remat d v) = (names_place t f d ≡ true) × (ltb v (num_values f) ≡ true)

  place-named : (l : List ℕ) (p : Place) (r : List ℕ) → place t f l ≡ got p r → names_place t f p ≡ true
  unfolding place
  place-named l p r e =
      let w = then-got (number l) _ p r e in
      let q = pick-got (names_place t f (place_at w.0)) (place_at w.0) p w.1 r 2 w.3 in
      rw q.1 at q.0

  move-named : (l : List ℕ) (e : Entry) (r : List ℕ)
      → then (place t f l) (λ s q. then (place t f q) (λ d p. then (below (num_values f) p) (λ v o. got (move s d v) o))) ≡ got e r → Named e
  move-named l e r h =
      let w = then-got (place t f l) _ e r h in
      let u = then-got (place t f w.1) _ e r w.3 in
      let x = then-got (below (num_values f) u.1) _ e r u.3 in
      let is : move w.0 u.0 x.0 ≡ e = cc in
      rw (← is)
      (place-named l w.0 w.1 w.2, place-named w.1 u.0 u.1 u.2, tested-got (λ v. ltb v (num_values f)) u.1 x.0 x.1 x.2)

  remat-named : (l : List ℕ) (e : Entry) (r : List ℕ)
      → then (place t f l) (λ d q. then (below (num_values f) q) (λ v p. got (remat d v) p)) ≡ got e r → Named e
  remat-named l e r h =
      let w = then-got (place t f l) _ e r h in
      let x = then-got (below (num_values f) w.1) _ e r w.3 in
      let is : remat w.0 x.0 ≡ e = cc in
      rw (← is) (place-named l w.0 w.1 w.2, tested-got (λ v. ltb v (num_values f)) w.1 x.0 x.1 x.2)

  pub entry_named : (l : List ℕ) (e : Entry) (r : List ℕ) → entry t f l ≡ got e r → Named e
  unfolding entry
  entry_named l e r h =
      let w = then-got (below 2 l) _ e r h in
      go (eqb w.0 0) w.1 w.3
    where
      go : (b : Bool) (q : List ℕ)
          → pick b (then (place t f q) (λ s q. then (place t f q) (λ d p. then (below (num_values f) p) (λ v o. got (move s d v) o))))
          (then (place t f q) (λ d q. then (below (num_values f) q) (λ v p. got (remat d v) p))) ≡ got e r
          → Named e
      go true q h = move-named q e r h
      go false q h = remat-named q e r h

  pub settled : (a : Sorted) (e : Entry) → leb 128 a.count ≡ false → Named e
      → first_of (entry_conditions t f a e) ≡ first_of (drop 2 (entry_conditions t f a e))
  unfolding first_of entry_conditions
  settled a (move s d v) b h = rw (b, h.0, h.1, h.2)
  settled a (remat d v) b h = rw (b, h.0, h.1)

  -- the entries that were read are refused no more
  abbrev Taken : List Entry → Sorted → Type 0
  Taken es a = first_of (entries_conditions t f es a) ≡ none

  one-taken : (e : Entry) (es : List Entry) (a : Sorted) → first_of (entry_conditions t f a e) ≡ none → Taken es (add t f e a) → Taken (e ∷ es) a
  unfolding entries_conditions
  one-taken e es a h on = first-append (entry_conditions t f a e) (entries_conditions t f es (add t f e a)) ∙ rw h on

  entries-taken : (n : ℕ) (a : Sorted) (l : List ℕ) (es : List Entry) (r : List ℕ) → entries t f n a l ≡ got es r → Taken es a
  unfolding entries entries_conditions first_of
  entries-taken zero a l es r h = let e : [] ≡ es = cc in rw (← e)
  entries-taken (suc n) a l es r h =
      let b = unless-got (leb 128 a.count) 15 _ es r h in
      let w = then-got (entry t f l) _ es r b.1 in
      let g = given-got (first_of (entry_conditions t f a w.0)) _ es r w.3 in
      let x = then-got (entries t f n (add t f w.0 a) w.1) _ es r g.1 in
      let e : w.0 ∷ x.0 ≡ es = cc in
      subst (λ (es : List Entry). Taken es a) e (one-taken w.0 x.0 a g.0 (entries-taken n (add t f w.0 a) w.1 x.0 x.1 x.2))

  pub patch-taken : (l : List ℕ) (p : Patch) (r : List ℕ) → patch t f l ≡ got p r → Taken p.entries nothing_sorted
  unfolding patch
  patch-taken l p r h =
      let w = then-got (number l) _ p r h in
      let u = then-got (rising w.0 t.units 0 w.1) _ p r w.3 in
      let x = then-got (number u.1) _ p r u.3 in
      let y = then-got (entries t f x.0 nothing_sorted x.1) _ p r x.3 in
      let es : y.0 ≡ p.entries = ap (λ (q : Patch). q.entries) (let z : record { free = u.0; entries = y.0 } ≡ p = cc in z) in
      rw es at (entries-taken x.0 nothing_sorted x.1 y.0 y.1 y.2)

  -- so the call of a patch that was read has its own conditions left
  pub patch-called : (l : List ℕ) (p : Patch) (r : List ℕ) → patch t f l ≡ got p r → (room : ℕ) (c : Cache)
      → resolve t f p room c ≡ resolve_sorted t f p room c (sorted t f p)
  patch-called l p r h room c = resolve-first t f p room c ∙ rw (patch-taken l p r h)
