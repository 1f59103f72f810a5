-- What a call is given: free units as a set of flags, entries as numbers or as the table that they were added to, the cache that the
-- last call left, and how many slots it may make.
use Rattle.std.specs.Prelude.{ℕ, ◌+◌, ◌≤◌, ◌≡◌, Bool, true, false, List, [], ◌∷◌, eqb}
use Rattle.std.proofs.Math.Option.{none}
use Rattle.entity.specs.Logic.{pick, has}
use Rattle.entity.specs.Place.{place_at}
use Rattle.reginfo.specs.Refused.{first_of}
use Rattle.function.specs.Table.{function_of}
use Rattle.small_set.specs.Set.{set_of}
use Rattle.rules.specs.Scratch.{Cache}
use Rattle.rules.specs.Patch.{Entry, move, remat, Patch, nothing_sorted, sorted}
use Rattle.rules.specs.Refusals.{entries_conditions}
use Rattle.machine.specs.Slots.{Stacked}
use Rattle.slots.specs.Stacks.{cache_of, CacheFits}
use Rattle.scratch.specs.State.{T}
use Rattle.entries.specs.Table.{sorted_of}
use Rattle.parallel_moves.specs.declared.Grant.{Grant}

-- the units whose flag is set, rising, the first flag being that of unit u
unfoldable pub free_from : ℕ → List Bool → List ℕ
free_from u [] = []
free_from u (true ∷ l) = u ∷ free_from (u + 1) l
free_from u (false ∷ l) = free_from (u + 1) l

abbrev pub free_of : List Bool → List ℕ
free_of free = free_from 0 free

-- an entry that names no value: a value's number is below 4,096
abbrev pub nothing_named : Entry
nothing_named = remat (place_at 0) 4294967295

-- 01, The job: "0 source destination value, or 1 destination value"; here with a fourth number that is not read. Any other first number
-- names nothing.
unfoldable pub entry_of : ℕ → ℕ → ℕ → ℕ → Entry
entry_of kind x y z = pick (eqb kind 0) (move (place_at x) (place_at y) z) (pick (eqb kind 1) (remat (place_at x) y) nothing_named)

-- four numbers to an entry; numbers left over name nothing
unfoldable pub entries_of : List ℕ → List Entry
entries_of [] = []
entries_of (kind ∷ []) = nothing_named ∷ []
entries_of (kind ∷ x ∷ []) = nothing_named ∷ []
entries_of (kind ∷ x ∷ y ∷ []) = nothing_named ∷ []
entries_of (kind ∷ x ∷ y ∷ z ∷ l) = entry_of kind x y z ∷ entries_of l

-- a patch given as numbers: the set has its free units, and the numbers are its entries
pub record Numbered (free : List Bool) (numbers : List ℕ) (p : Patch) : Type 0 where
  pub free-is : (u : ℕ) → has u p.free ≡ set_of free u
  pub are : p.entries ≡ entries_of numbers

-- a patch built of entries: the set has its free units, none of its entries is refused, and the table holds what they became
pub record Built (t f : List ℕ) (free : List Bool) (e : List ℕ) (p : Patch) : Type 0 where
  pub free-is : (u : ℕ) → has u p.free ≡ set_of free u
  pub taken : first_of (entries_conditions (T t) (function_of f) p.entries nothing_sorted) ≡ none
  pub is : sorted_of e ≡ sorted (T t) (function_of f) p

-- the stacks of a cache, with n slots made
abbrev pub with_made : ℕ → Cache → Cache
with_made n c = record { stacks = c.stacks; made = n }

-- what a function alone is granted: the slots that its cache has made, and L
abbrev pub own : List ℕ → List ℕ → Grant
own f cache = record { made = (cache_of cache).made; limit = (function_of f).limit }

-- the counter has gone on, its limit stays
abbrev pub gone : Grant → ℕ → Grant
gone g n = record { made = n; limit = g.limit }

-- a cache that is fresh or came from a call, with a counter that all its slots came from: what lies in its stacks lies there once, and no more
-- were made than may be
pub record GrantOk (f : List ℕ) (g : Grant) (cache : List ℕ) : Type 0 where
  pub fits : CacheFits cache
  pub stacks : Stacked (function_of f) (with_made g.made (cache_of cache))
  pub made : g.made ≤ g.limit
  pub limit : g.limit ≤ 2048

-- the same of a function alone
pub record CacheOk (f cache : List ℕ) : Type 0 where
  pub fits : CacheFits cache
  pub stacks : Stacked (function_of f) (cache_of cache)
  pub made : (cache_of cache).made ≤ (function_of f).limit
