-- Reading a patch does not hear of the setting: under a function with another one it is the same, and so are its conditions.
use Prim.Native.Nat.{ℕ, zero, suc}
use mathlib.Core.Path.{◌≡◌, refl}
use mathlib.Core.List.{List, [], ◌∷◌}
use Rattle.reginfo.specs.RegInfo.{RegInfo}
use Rattle.function.specs.Function.{Function, value_bank, remat_cost, remat_class}
use Rattle.rules.specs.Patch.{Entry, move, remat, Patch, Sorted, nothing_sorted, entry_conditions, add, sorted_from, sorted, patch_conditions}
use Rattle.job_patch.specs.Patches.{place, entry, entries, patch}

abbrev pub with_kept : Function → ℕ → Function
with_kept f k = record { values = f.values; slots = f.slots; limit = f.limit; kept = k }

module _ (t : RegInfo) (f : Function) (k : ℕ) where
  entry-same : (l : List ℕ) → entry t (with_kept f k) l ≡ entry t f l
  unfolding entry place
  entry-same l = refl

  conditions-same : (a : Sorted) (e : Entry) → entry_conditions t (with_kept f k) a e ≡ entry_conditions t f a e
  unfolding entry_conditions value_bank remat_cost remat_class
  conditions-same a (move s d v) = refl
  conditions-same a (remat d v) = refl

  add_same : (a : Sorted) (e : Entry) → add t (with_kept f k) e a ≡ add t f e a
  unfolding add remat_cost remat_class
  add_same a (move s d v) = refl
  add_same a (remat d v) = refl

  entries-same : (n : ℕ) (a : Sorted) (l : List ℕ) → entries t (with_kept f k) n a l ≡ entries t f n a l
  unfolding entries
  entries-same zero a l = refl
  entries-same (suc n) a l = simp (entry-same, conditions-same, add_same, entries-same n)

  pub patch-same : (l : List ℕ) → patch t (with_kept f k) l ≡ patch t f l
  unfolding patch
  patch-same l = simp entries-same

  sorted-same : (es : List Entry) (a : Sorted) → sorted_from t (with_kept f k) es a ≡ sorted_from t f es a
  unfolding sorted_from
  sorted-same [] a = refl
  sorted-same (e ∷ es) a = rw (add_same a e) (sorted-same es (add t f e a))

  pub call_same : (p : Patch) (room : ℕ)
      → patch_conditions t (with_kept f k) p room (sorted t (with_kept f k) p) ≡ patch_conditions t f p room (sorted t f p)
  unfolding patch_conditions remat_class
  call_same p room = rw (sorted-same p.entries nothing_sorted)
