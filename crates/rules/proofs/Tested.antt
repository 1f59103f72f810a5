-- What is known of a call that is not refused before its run: every test was passed, and at most 128 moves are kept.
use Prim.Native.Nat.{ℕ, suc, ◌<◌, ◌≤◌}
use mathlib.Core.Path.{◌≡◌, refl, sym, subst}
use mathlib.Core.Bool.{Bool, true, false}
use mathlib.Core.List.{List, [], ◌∷◌}
use mathlib.Core.Option.{Option, none, some}
use native.Mathlib.Omega.{arith}
use lib.ListN.{length, length-append}
use borrow.Author.Tests.{leb-false}
use Rattle.entity.specs.Place.{Place}
use Rattle.reginfo.specs.RegInfo.{RegInfo}
use Rattle.reginfo.specs.Refused.{Condition, or_else, first_of}
use Rattle.reginfo.proofs.First.{first-none}
use Rattle.function.specs.Function.{Function}
use Rattle.rules.specs.Scratch.{Cache}
use Rattle.rules.specs.Patch.{Entry, move, remat, Patch, Sorted, nothing_sorted, destinations, Answer, refused, resolved, answer_of, unless_refused, becomes_remat, needs_scratch, dropped, add_remat, add_kept, add, sorted_from, sorted, entry_conditions, patch_conditions, run, resolve_sorted, resolve_from, resolve}
use Rattle.rules.specs.Sorted.{SortedOk}
use Rattle.rules.proofs.Steps.{Every, branch}
use Rattle.rules.proofs.Accepted.{sorted-add}

-- an answer that comes of the run
abbrev pub Late : Answer → Type 0
Late (refused n) = n ≡ 17
Late (resolved es c m) = Unit {0}

late-none : (o : Option ℕ) (r r' : Answer) → ((n : ℕ) → o ≡ some n → n ≡ 17 → ⊥) → unless_refused o r ≡ r' → Late r' → (o ≡ none) × (r ≡ r')
late-none none r r' h e l = (refl, e)
late-none (some n) r r' h e l = absurd (h n refl (subst Late (sym e) l))

-- the number given is one of the list's
first-of : (P : ℕ → Type 0) (cs : List Condition) → Every (λ (c : Condition). P c.number) cs → (n : ℕ) → first_of cs ≡ some n → P n
unfolding first_of
first-of P [] h n e = let z : ◌≡◌ {A = ℕ} 0 1 = cc in absurd (omega arith)
first-of P (c ∷ l) h n e = go c.holds e (first-of P l h.1 n)
  where
    go : (b : Bool) → or_else b c.number (first_of l) ≡ some n → (first_of l ≡ some n → P n) → P n
    go true e r = let q : c.number ≡ n = cc in subst P q h.0
    go false e r = r e

module _ (t : RegInfo) (f : Function) where
  abbrev Other : ℕ → Type 0
  Other n = n ≡ 17 → ⊥

  entry-numbers : (a : Sorted) (e : Entry) → Every (λ (c : Condition). Other c.number) (entry_conditions t f a e)
  unfolding entry_conditions
  entry-numbers a (move s d v) = (λ e. omega arith, (λ e. omega arith, (λ e. omega arith, (λ e. omega arith, (λ e. omega arith, (λ e. omega arith, tt))))))
  entry-numbers a (remat d v) = (λ e. omega arith, (λ e. omega arith, (λ e. omega arith, (λ e. omega arith, (λ e. omega arith, tt)))))

  -- an entry is not refused with 17
  pub entry_other : (a : Sorted) (e : Entry) (n : ℕ) → first_of (entry_conditions t f a e) ≡ some n → n ≡ 17 → ⊥
  entry_other a e = first-of Other (entry_conditions t f a e) (entry-numbers a e)

  patch-numbers : (p : Patch) (room : ℕ) (a : Sorted) → Every (λ (c : Condition). Other c.number) (patch_conditions t f p room a)
  unfolding patch_conditions
  patch-numbers p room a = (λ e. omega arith, (λ e. omega arith, (λ e. omega arith, tt)))

  -- the entries so far
  pub record Tested (a : Sorted) : Type 0 where
    pub ok : SortedOk t f a
    pub kept : length a.moves ≤ a.count
    pub most : a.count ≤ 128

  -- an entry keeps one move more at most
  remat-counts : (b : Bool) (d : Place) (v : ℕ) (a : Sorted) → ((add_remat t f b d v a).moves ≡ a.moves) × ((add_remat t f b d v a).count ≡ suc a.count)
  remat-counts true d v a = (refl, refl)
  remat-counts false d v a = (refl, refl)

  kept-counts : (b : Bool) (s d : Place) (v : ℕ) (a : Sorted) → (length (add_kept t f b s d v a).moves ≤ suc (length a.moves)) × ((add_kept t f b s d v a).count ≡ suc a.count)
  kept-counts true s d v a = (omega arith, refl)
  kept-counts false s d v a = (omega (arith, length-append a.moves (record { source = s; dest = d; value = v } ∷ [])), refl)

  abbrev OneMore : Sorted → Sorted → Type 0
  OneMore a a' = (length a'.moves ≤ suc (length a.moves)) × (a'.count ≡ suc a.count)

  remat-more : (b : Bool) (d : Place) (v : ℕ) (a : Sorted) → OneMore a (add_remat t f b d v a)
  remat-more b d v a = let q = remat-counts b d v a in (rw q.0 (omega arith), q.1)

  add-counts : (e : Entry) (a : Sorted) → OneMore a (add t f e a)
  unfolding add
  add-counts (remat d v) a = remat-more (needs_scratch t f d v) d v a
  add-counts (move s d v) a = branch (OneMore a) (becomes_remat t f s d v) _ _ (λ _. remat-more (needs_scratch t f d v) d v a) (λ _. kept-counts (dropped t f a s d v) s d v a)

  -- 15 was tested
  below-128 : (e : Entry) (a : Sorted) → first_of (entry_conditions t f a e) ≡ none → a.count < 128
  unfolding entry_conditions
  below-128 (move s d v) a h = leb-false 128 a.count (first-none _ h 0 (omega arith))
  below-128 (remat d v) a h = leb-false 128 a.count (first-none _ h 0 (omega arith))

  tested-add : (e : Entry) (a : Sorted) → Tested a → first_of (entry_conditions t f a e) ≡ none → Tested (add t f e a)
  tested-add e a g h =
      let q = add-counts e a in record { ok = sorted-add t f e a g.ok h; kept = omega (arith, g.kept, q.0, q.1); most = omega (arith, below-128 e a h, q.1) }

  tested-from :
      (p : Patch) (room : ℕ) (c : Cache) (r : Answer) → Late r → (l : List Entry) (a : Sorted) → Tested a → resolve_from t f p room c l a ≡ r
      → Tested (sorted_from t f l a) × (resolve_sorted t f p room c (sorted_from t f l a) ≡ r)
  unfolding sorted_from resolve_from
  tested-from p room c r late [] a g e = (g, e)
  tested-from p room c r late (x ∷ l) a g e =
      let q = late-none (first_of (entry_conditions t f a x)) (resolve_from t f p room c l (add t f x a)) r (entry_other a x) e late in
      tested-from p room c r late l (add t f x a) (tested-add x a g q.0) q.1

  -- the answer is the run's
  pub tested : (p : Patch) (room : ℕ) (c : Cache) (r : Answer) → Late r → resolve t f p room c ≡ r → Tested (sorted t f p) × (answer_of (run t f p (sorted t f p) c) ≡ r)
  unfolding resolve resolve_sorted destinations
  tested p room c r late e =
      let g = tested-from p room c r late p.entries nothing_sorted
      (record {
        ok = record { moves = λ i l. absurd (omega arith); remats = λ i l. absurd (omega arith); remats_with_scratch = λ i l. absurd (omega arith); apart = λ i k l. absurd (omega arith); sources = λ i k l. absurd (omega arith) };
        kept = omega arith;
        most = omega arith;
      }) e in
      (g.0, (late-none (first_of (patch_conditions t f p room (sorted t f p))) (answer_of (run t f p (sorted t f p) c)) r (first-of Other (patch_conditions t f p room (sorted t f p)) (patch-numbers p room (sorted t f p))) g.1 late).1)
