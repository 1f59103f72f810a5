-- What the steps of `resolve` ensure.
use Rattle.std.specs.Prelude.{ℕ, ◌<◌, ◌≤◌, ◌≡◌, Bool, List, [], ◌∷◌, ◌++◌, length, drop}
use Rattle.std.proofs.Math.Option.{Option, none, some}
use Rattle.entity.specs.Logic.{has}
use Rattle.reginfo.specs.RegInfo.{RegInfo}
use Rattle.reginfo.specs.Refused.{first_of}
use Rattle.function.specs.Function.{Function}
use Rattle.function.specs.Table.{function_of}
use Rattle.small_set.specs.Set.{set_of}
use Rattle.rules.specs.Patch.{Entry, Patch, Sorted, entry_conditions, add, sorted_from, run}
use Rattle.rules.specs.Refusals.{entries_conditions}
use Rattle.edit.specs.Buffer.{count_of, words_of}
use Rattle.slots.specs.Stacks.{cache_of, stamp_of, met_of, stacks_of, SlotsFit, Untouched}
use Rattle.slots.specs.Steps.{Committed}
use Rattle.scratch.specs.declared.ScratchAllocator.{ScratchAllocator}
use Rattle.scratch.specs.State.{T, F, made_of}
use Rattle.scratch.specs.Promises.{Tables, state_of, FitsIn}
use Rattle.entries.specs.Table.{sorted_of}
use Rattle.entries.specs.Known.{EntriesOk}
use Rattle.parallel_moves.specs.declared.asking.Asked as A
use Rattle.parallel_moves.specs.declared.asking.Asked.{Asked}
use Rattle.parallel_moves.specs.declared.Resolved.{Resolved}
use Rattle.parallel_moves.specs.Given.{with_made}
use Rattle.parallel_moves.specs.Answers.{number_of, edits_in, position_in}

-- the run of a patch from a counter, with a limit that is never met
pub record Ran (t f cache e : List ℕ) (made : ℕ) (free : List Bool) (k : ScratchAllocator) (w : Tables) : Type 0 where
  pub is : (p : Patch) → ((u : ℕ) → has u p.free ≡ set_of free u) → run (T t) (F f) p (sorted_of e) (with_made made (cache_of cache)) ≡ some (state_of t f cache k w)
  pub fits : FitsIn t f cache 0 2 0 k w

-- where not more slots were made than may be, the stacks have room in the cache
pub record CanHandOver (limit : ℕ) (cache list : List ℕ) (k : ScratchAllocator) (edits slots : List ℕ) : Type 0 where
  pub few : count_of edits ≤ 1024
  pub room : count_of edits ≤ length list
  pub put : SlotsFit 1024 slots
  pub untouched : Untouched cache slots
  pub deep : made_of k ≤ limit → (z : ℕ) → z < 32 → length (stacks_of slots cache z) ≤ 2048

pub record HandedOver (limit : ℕ) (cache list : List ℕ) (k : ScratchAllocator) (edits slots : List ℕ) (r : Resolved) (list' cache' : List ℕ) : Type 0 where
  pub over : limit < made_of k → (number_of r ≡ some 17) × (list' ≡ list) × (cache' ≡ cache)
  pub within : made_of k ≤ limit
      → (number_of r ≡ none) × (edits_in r ≡ count_of edits) × (list' ≡ words_of edits ++ drop (count_of edits) list) × Committed slots cache cache' (made_of k) × (position_in r ≡ met_of slots)

-- the same where the patch is only asked for: nothing is committed
pub record Shown (limit : ℕ) (cache list : List ℕ) (k : ScratchAllocator) (edits slots : List ℕ) (r : Asked) (list' : List ℕ) : Type 0 where
  pub over : limit < made_of k → (r ≡ A.TheVariants.Refused 17) × (list' ≡ list)
  pub within : made_of k ≤ limit
      → (r ≡ A.TheVariants.Ready (count_of edits) (record { made = made_of k; position = met_of slots; stamp = stamp_of cache })) × (list' ≡ words_of edits ++ drop (count_of edits) list)

-- the one where there is no number, else the other
abbrev pub if_none : {A : Type 0} → Option ℕ → A → A → A
if_none none x y = x
if_none (some n) x y = y

-- what entries become one after the other, up to the first that is refused
unfoldable pub added_until : RegInfo → Function → List Entry → Sorted → Sorted
added_until t f [] a = a
added_until t f (x ∷ l) a = if_none (first_of (entry_conditions t f a x)) (added_until t f l (add t f x a)) a

-- entries added one after the other: the number of the first that is refused, and the table holds what those before it became; where none is, it
-- holds what all became
pub record AllAdded (t f e e' w' : List ℕ) (l : List Entry) (r : Option ℕ) : Type 0 where
  pub is : r ≡ first_of (entries_conditions (T t) (function_of f) l (sorted_of e))
  pub until : sorted_of e' ≡ added_until (T t) (function_of f) l (sorted_of e)
  pub yes : r ≡ none → sorted_of e' ≡ sorted_from (T t) (function_of f) l (sorted_of e)
  pub ok : EntriesOk t f e' w'
