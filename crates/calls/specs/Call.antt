-- What a call is answered with: its free units first, then its patch by the rules.
use Rattle.std.specs.Prelude.{ℕ, ◌+◌, ◌≡◌, Bool, List, [], ◌∷◌, ltb}
use Rattle.std.proofs.Math.Option.{Option, none}
use Rattle.entity.specs.Logic.{no, has}
use Rattle.reginfo.specs.RegInfo.{RegInfo}
use Rattle.reginfo.specs.Refused.{or_else}
use Rattle.function.specs.Function.{Function}
use Rattle.small_set.specs.Set.{set_of}
use Rattle.rules.specs.Scratch.{Cache}
use Rattle.rules.specs.Patch.{Patch, Answer, unless_refused, resolve}
use Rattle.parallel_moves.specs.Given.{entries_of}

-- "free units rising", each in order, as a job's reader tests them: 2 for one that the target has not, then 3 for one that does not rise
unfoldable pub free_from : ℕ → ℕ → List ℕ → Option ℕ
free_from units least [] = none
free_from units least (u ∷ us) = or_else (no (ltb u units)) 2 (or_else (ltb u least) 3 (free_from units (u + 1) us))

abbrev pub free_refusal : ℕ → List ℕ → Option ℕ
free_refusal units us = free_from units 0 us

-- the free units and, four numbers to an entry, the entries
abbrev pub patch_of : List ℕ → List ℕ → Patch
patch_of free numbers = record { free = free; entries = entries_of numbers }

unfoldable pub call_of : RegInfo → Function → List ℕ → List ℕ → ℕ → Cache → Answer
call_of t f free numbers room c = unless_refused (free_refusal t.units free) (resolve t f (patch_of free numbers) room c)

-- free units as a set: the number of the first that is refused, and then the set, which is worked in, holds anything; where none is, it has these
-- and no other
pub record FreeTaken (units : ℕ) (us : List ℕ) (r : Option ℕ) (set : List Bool) : Type 0 where
  pub is : r ≡ free_refusal units us
  pub has_all : r ≡ none → (u : ℕ) → has u us ≡ set_of set u
