-- No refusal has the number 0: it tells an accepted call from a refused one.
use Prim.Native.Nat.{ℕ, zero, suc, ◌+◌, ◌<◌, ◌≤◌}
use mathlib.Core.Path.{◌≡◌, ap}
use mathlib.Core.Bool.{Bool, true, false}
use mathlib.Core.List.{List, [], ◌∷◌, ◌++◌}
use mathlib.Core.Option.{Option, none, some}
use native.Mathlib.Omega.{arith}
use lib.Dec.{ltb}
use lib.ListN.{length}
use Rattle.entity.specs.Logic.{no}
use Rattle.reginfo.specs.RegInfo.{RegInfo}
use Rattle.reginfo.specs.Refused as target
use Rattle.reginfo.specs.Refused.{Condition, refused_if, or_else}
use Rattle.reginfo.specs.Given.{condition_at, Given}
use Rattle.function.specs.Function.{Function}
use Rattle.rules.specs.Scratch.{Cache}
use Rattle.rules.specs.Patch.{Entry, move, remat, Patch, Sorted, nothing_sorted, Answer, refused, unless_refused, sorted, entry_conditions, patch_conditions, add, resolve}
use Rattle.rules.specs.Refusals.{entries_conditions, call_conditions}
use Rattle.rules.proofs.Refusals.{refusals}
use Rattle.group_rules.specs.Groups.{parts, whole_conditions, resolve_by_groups}
use Rattle.group_rules.specs.Refusals.{some_out, group_conditions}
use Rattle.group_rules.proofs.Refusals.{group-refusals}
use Rattle.calls.specs.Call.{free_from, free_refusal, patch_of, call_of}
use Rattle.group_calls.specs.Call.{call_by_groups}

abbrev Positive : List Condition → Type 0
Positive [] = Unit {0}
Positive (c ∷ l) = (1 ≤ c.number) × Positive l

both : (a b : List Condition) → Positive a → Positive b → Positive (a ++ b)
both [] b p q = q
both (c ∷ a) b p q = (p.0, both a b p.1 q)

at : (l : List Condition) (i : ℕ) → Positive l → i < length l → 1 ≤ (condition_at l i).number
at [] i p h = absurd (omega arith)
at (c ∷ l) zero p h = p.0
at (c ∷ l) (suc i) p h = at l i p.1 (omega arith)

none-given : (l : List Condition) → Positive l → Given l 0 → ⊥
none-given l p g = omega (arith, at l g.at p g.is, g.number)

module _ (t : RegInfo) (f : Function) where
  of_entry : (a : Sorted) (e : Entry) → Positive (entry_conditions t f a e)
  unfolding entry_conditions
  of_entry a (move s d v) = (omega arith, (omega arith, (omega arith, (omega arith, (omega arith, (omega arith, tt))))))
  of_entry a (remat d v) = (omega arith, (omega arith, (omega arith, (omega arith, (omega arith, tt)))))

  of-entries : (l : List Entry) (a : Sorted) → Positive (entries_conditions t f l a)
  unfolding entries_conditions
  of-entries [] a = tt
  of-entries (e ∷ l) a = both (entry_conditions t f a e) (entries_conditions t f l (add t f e a)) (of_entry a e) (of-entries l (add t f e a))

  of-patch : (p : Patch) (room : ℕ) (a : Sorted) → Positive (patch_conditions t f p room a)
  unfolding patch_conditions
  of-patch p room a = (omega arith, (omega arith, (omega arith, tt)))

  of-resolve : (p : Patch) (room : ℕ) (c : Cache) → resolve t f p room c ≡ refused 0 → ⊥
  unfolding call_conditions
  of-resolve p room c e =
      none-given (call_conditions t f p room c)
      (both (entries_conditions t f p.entries nothing_sorted) _ (of-entries p.entries nothing_sorted)
      (both (patch_conditions t f p room (sorted t f p)) _ (of-patch p room (sorted t f p)) (omega arith, tt)))
      (((refusals t f p room c).given 0).0 e)

  of-groups : target.Accepted t → (p : Patch) (room : ℕ) (c : Cache) → resolve_by_groups t f p room c ≡ refused 0 → ⊥
  unfolding group_conditions
  of-groups ta p room c e =
      none-given (group_conditions t f p room c)
      (both (whole_conditions t f p room) (refused_if 17 (some_out t f (parts t p) c) ∷ [])
      (both (entries_conditions t f p.entries nothing_sorted) (patch_conditions t f p room (sorted t f p)) (of-entries p.entries nothing_sorted) (of-patch p room (sorted t f p)))
      (omega arith, tt))
      (((group-refusals t f ta p room c).given 0).0 e)

of-free : (units least : ℕ) (us : List ℕ) → free_from units least us ≡ some 0 → ⊥
unfolding free_from
of-free units least [] e = let z : ◌≡◌ {A = ℕ} 0 1 = cc in omega arith
of-free units least (u ∷ us) e = go (no (ltb u units)) (ltb u least) e (of-free units (u + 1) us)
  where
    go : (a b : Bool) → or_else a 2 (or_else b 3 (free_from units (u + 1) us)) ≡ some 0 → (free_from units (u + 1) us ≡ some 0 → ⊥) → ⊥
    go true b e on = let z : ◌≡◌ {A = ℕ} 2 0 = cc in omega arith
    go false true e on = let z : ◌≡◌ {A = ℕ} 3 0 = cc in omega arith
    go false false e on = on e

unless-free : (o : Option ℕ) (a : Answer) → (o ≡ some 0 → ⊥) → (a ≡ refused 0 → ⊥) → unless_refused o a ≡ refused 0 → ⊥
unless-free none a h k e = k e
unless-free (some n) a h k e = let z : n ≡ 0 = cc in h (ap some z)

pub of-call : (t : RegInfo) (f : Function) (free numbers : List ℕ) (room : ℕ) (c : Cache) → call_of t f free numbers room c ≡ refused 0 → ⊥
unfolding call_of
of-call t f free numbers room c =
    unless-free (free_refusal t.units free) (resolve t f (patch_of free numbers) room c) (of-free t.units 0 free) (of-resolve t f (patch_of free numbers) room c)

pub of-call-by-groups : (t : RegInfo) (f : Function) → target.Accepted t → (free numbers : List ℕ) (room : ℕ) (c : Cache) → call_by_groups t f free numbers room c ≡ refused 0 → ⊥
unfolding call_by_groups
of-call-by-groups t f ta free numbers room c =
    unless-free (free_refusal t.units free) (resolve_by_groups t f (patch_of free numbers) room c) (of-free t.units 0 free) (of-groups t f ta (patch_of free numbers) room c)
