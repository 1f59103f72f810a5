-- What the steps of reading a patch ensure.
use Rattle.std.specs.Prelude.{ℕ, ◌≤◌, ◌≡◌, Bool, List, length, drop}
use Rattle.std.proofs.Math.Option.{Option, none, some}
use Rattle.entity.specs.Logic.{or, has, Anything}
use Rattle.entity.specs.Place.{Place, place_at}
use Rattle.reginfo.specs.RegInfo.{RegInfo}
use Rattle.reginfo.specs.Refused.{first_of}
use Rattle.reginfo.specs.Table.{reg_info_of}
use Rattle.function.specs.Function.{Function}
use Rattle.function.specs.Table.{function_of}
use Rattle.small_set.specs.Set.{set_of}
use Rattle.rules.specs.Patch.{Entry, Patch, Sorted, entry_conditions, add, sorted_from, sorted}
use Rattle.entries.specs.Table.{sorted_of}
use Rattle.entries.specs.Known.{EntriesOk}
use Rattle.number.specs.Read.{Read, got, refused, then}
use Rattle.number.specs.Answer.{Onward}
use Rattle.number.specs.declared.Number.{Number}
use Rattle.number.specs.declared.Number.TheVariants as N
use Rattle.reading.specs.Answer.{next_of, Past}
use Rattle.reading.specs.declared.Next.{Next}
use Rattle.reading.specs.declared.Next.TheVariants.{At, Refused}
use Rattle.job_patch.specs.Patches.{unless_given, place}

-- a place read: its code stands in the answer
abbrev pub place_is : List ℕ → Number → Read Place
place_is s (N.Is c next) = got (place_at c) (drop next s)
place_is s (N.Refused k) = refused k

pub record PlaceAt (t f s : List ℕ) (at : ℕ) (r : Number) : Type 0 where
  pub reads : place_is s r ≡ place (reg_info_of t) (function_of f) (drop at s)
  pub onward : Onward s at r

-- an entry read and added to what the entries before it became, or refused
abbrev pub adding : RegInfo → Function → Sorted → Read Entry → Read Sorted
adding t f a x = then x (λ e r. unless_given (first_of (entry_conditions t f a e)) (got (add t f e a) r))

-- where the next entry stands, or the number of one that was not added
abbrev pub added_at : Option ℕ → ℕ → Next
added_at none next = At next
added_at (some k) next = Refused k

-- of the bytes from `at` on, what `d` reads of them is added; a refusal leaves what the tables stand for
pub record EntryAt (t f s e w : List ℕ) (d : List ℕ → Read Entry) (at : ℕ) (e' w' : List ℕ) (r : Next) : Type 0 where
  pub reads : next_of s (sorted_of e') r ≡ adding (reg_info_of t) (function_of f) (sorted_of e) (d (drop at s))
  pub past : Past s at (EntriesOk t f e' w') r
  pub no : (k : ℕ) → r ≡ Refused k → sorted_of e' ≡ sorted_of e

-- a patch as the tables hold it: the set has its free units, and the table of entries what they became
pub record Holds (t f : List ℕ) (free : List Bool) (e w : List ℕ) (p : Patch) : Type 0 where
  pub free-is : (u : ℕ) → has u p.free ≡ set_of free u
  pub ok : EntriesOk t f e w
  pub is : sorted_of e ≡ sorted (reg_info_of t) (function_of f) p

-- the entries of a patch, over what those before them became: the table holds what they became; where one is refused, anything
abbrev pub Entered : (t f s : List ℕ) → Read (List Entry) → Sorted → Next → (e w : List ℕ) → Type 0
Entered t f s (refused k) a r e w = (r ≡ Refused k) × Anything e × Anything w
Entered t f s (got es rest) a r e w =
    (next : ℕ) × (r ≡ At next) × (rest ≡ drop next s) × (next ≤ length s) × EntriesOk t f e w × (sorted_of e ≡ sorted_from (reg_info_of t) (function_of f) es a)

-- free units, over those that were read before them: the set has these and those; where one is refused, anything
abbrev pub Freed : (s : List ℕ) → Read (List ℕ) → (ℕ → Bool) → Next → List Bool → Type 0
Freed s (refused k) before r free = (r ≡ Refused k) × Anything free
Freed s (got us rest) before r free = (next : ℕ) × (r ≡ At next) × (rest ≡ drop next s) × (next ≤ length s) × ((u : ℕ) → or (before u) (has u us) ≡ set_of free u)

-- a patch: the tables hold it; where it is refused, anything
abbrev pub PatchAt : (t f s : List ℕ) → Read Patch → Next → List Bool → (e w : List ℕ) → Type 0
PatchAt t f s (refused k) r free e w = (r ≡ Refused k) × Anything free × Anything e × Anything w
PatchAt t f s (got p rest) r free e w = (next : ℕ) × (r ≡ At next) × (rest ≡ drop next s) × (next ≤ length s) × Holds t f free e w p
