-- The number of a patch's first entry that is refused, and what is left to resolve where none is; L is read by none of the tests.
use Prim.Native.Nat.{ℕ}
use mathlib.Core.Path.{◌≡◌, refl, ap, ◌∙◌}
use mathlib.Core.Bool.{Bool, true, false}
use mathlib.Core.List.{List, [], ◌∷◌, ◌++◌}
use mathlib.Core.Option.{Option, none, some}
use Rattle.reginfo.specs.RegInfo.{RegInfo}
use Rattle.reginfo.specs.Refused.{Condition, or_else, first_of}
use Rattle.function.specs.Function.{Function, value_bank, remat_cost, remat_class}
use Rattle.function.specs.Table.{function_of}
use Rattle.rules.specs.Scratch.{Cache}
use Rattle.rules.specs.Patch.{Entry, move, remat, Patch, Sorted, nothing_sorted, Answer, unless_refused, entry_conditions, patch_conditions, add, sorted_from, sorted, resolve_sorted, resolve_from, resolve}
use Rattle.rules.specs.Refusals.{entries_conditions, with_limit}
use Rattle.scratch.specs.State.{T}
use Rattle.entries.specs.Table.{sorted_of}
use Rattle.parallel_moves.specs.Given.{Built}

abbrev pub or_then : Option ℕ → Option ℕ → Option ℕ
or_then none o = o
or_then (some k) o = some k

-- one list of conditions, then another
pub first-append : (xs ys : List Condition) → first_of (xs ++ ys) ≡ or_then (first_of xs) (first_of ys)
unfolding first_of
first-append [] ys = refl
first-append (x ∷ xs) ys = go x.holds (first-append xs ys)
  where
    go : (b : Bool) → first_of (xs ++ ys) ≡ or_then (first_of xs) (first_of ys)
        → or_else b x.number (first_of (xs ++ ys)) ≡ or_then (or_else b x.number (first_of xs)) (first_of ys)
    go true on = refl
    go false on = on

module _ (t : RegInfo) (f : Function) (p : Patch) (room : ℕ) (c : Cache) where
  entries-first : (l : List Entry) (a : Sorted)
      → resolve_from t f p room c l a ≡ unless_refused (first_of (entries_conditions t f l a)) (resolve_sorted t f p room c (sorted_from t f l a))
  unfolding entries_conditions resolve_from sorted_from first_of
  entries-first [] a = refl
  entries-first (x ∷ l) a =
      rw (entries-first l (add t f x a), first-append (entry_conditions t f a x) (entries_conditions t f l (add t f x a)))
      (go (first_of (entry_conditions t f a x)) (first_of (entries_conditions t f l (add t f x a))) _)
    where
      go : (o q : Option ℕ) (r : Answer) → unless_refused o (unless_refused q r) ≡ unless_refused (or_then o q) r
      go none q r = refl
      go (some n) q r = refl

  pub resolve-first : resolve t f p room c ≡ unless_refused (first_of (entries_conditions t f p.entries nothing_sorted)) (resolve_sorted t f p room c (sorted t f p))
  unfolding resolve
  resolve-first = entries-first p.entries nothing_sorted

-- under another limit
module _ (t : RegInfo) (f : Function) (l : ℕ) where
  abbrev W : Function
  W = with_limit t f l

  entry-same : (a : Sorted) (e : Entry) → entry_conditions t W a e ≡ entry_conditions t f a e
  unfolding entry_conditions value_bank remat_cost remat_class
  entry-same a (move s d v) = refl
  entry-same a (remat d v) = refl

  add_same : (e : Entry) (a : Sorted) → add t W e a ≡ add t f e a
  unfolding add value_bank remat_cost remat_class
  add_same (move s d v) a = refl
  add_same (remat d v) a = refl

  entries-same : (es : List Entry) (a : Sorted) → entries_conditions t W es a ≡ entries_conditions t f es a
  unfolding entries_conditions
  entries-same [] a = refl
  entries-same (e ∷ es) a = rw (entry-same a e, add_same e a, entries-same es (add t f e a))

  sorted-same : (es : List Entry) (a : Sorted) → sorted_from t W es a ≡ sorted_from t f es a
  unfolding sorted_from
  sorted-same [] a = refl
  sorted-same (e ∷ es) a = ap (sorted_from t W es) (add_same e a) ∙ sorted-same es (add t f e a)

  pub patch-same : (p : Patch) (room : ℕ) (a : Sorted) → patch_conditions t W p room a ≡ patch_conditions t f p room a
  unfolding patch_conditions remat_class
  patch-same p room a = refl

  pub first-within : (p : Patch) (room : ℕ) (c : Cache) → resolve t W p room c ≡ unless_refused (first_of (entries_conditions t f p.entries nothing_sorted)) (resolve_sorted t W p room c (sorted t f p))
  first-within p room c = resolve-first t W p room c ∙ rw (entries-same p.entries nothing_sorted, sorted-same p.entries nothing_sorted)

-- to resolve a patch that was built of entries is to resolve what they became
pub built-within : (t f : List ℕ) (l : ℕ) (free : List Bool) (e : List ℕ) (p : Patch) → Built t f free e p → (room : ℕ) (c : Cache)
    → resolve (T t) (with_limit (T t) (function_of f) l) p room c ≡ resolve_sorted (T t) (with_limit (T t) (function_of f) l) p room c (sorted_of e)
built-within t f l free e p b room c = first-within (T t) (function_of f) l p room c ∙ rw (b.taken, b.is)

pub resolve-built : (t f : List ℕ) (free : List Bool) (e : List ℕ) (p : Patch) → Built t f free e p → (room : ℕ) (c : Cache)
    → resolve (T t) (function_of f) p room c ≡ resolve_sorted (T t) (function_of f) p room c (sorted_of e)
resolve-built t f free e p b room c = resolve-first (T t) (function_of f) p room c ∙ rw (b.taken, b.is)
