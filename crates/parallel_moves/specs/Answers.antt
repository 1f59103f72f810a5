-- What a call answers and leaves, held against the rules' answer; 02 g: also where the patch is only asked for, and where it is taken.
use Rattle.std.specs.Prelude.{ℕ, ◌<◌, ◌≤◌, ◌≡◌, Bool, List, ◌++◌, map, length, drop}
use Rattle.std.proofs.Math.Option.{Option, none, some}
use Rattle.entity.specs.Logic.{Anything, has}
use Rattle.function.specs.Table.{function_of}
use Rattle.small_set.specs.Set.{set_of}
use Rattle.rules.specs.Scratch.{Cache}
use Rattle.rules.specs.Patch.{Patch, Answer, refused, resolved, resolve_sorted, resolve}
use Rattle.rules.specs.Refusals.{with_limit}
use Rattle.machine.specs.Slots.{Stacked}
use Rattle.edit.specs.Word.{word_of, AllInRange}
use Rattle.slots.specs.Stacks.{cache_of, stamp_of, raised, stacks_of, SlotsFit, Untouched}
use Rattle.slots.specs.Steps.{Committed}
use Rattle.scratch.specs.State.{T}
use Rattle.entries.specs.Table.{sorted_of}
use Rattle.parallel_moves.specs.declared.Grant.{Grant}
use Rattle.parallel_moves.specs.declared.asking.Asked as A
use Rattle.parallel_moves.specs.declared.asking.Asked.{Asked}
use Rattle.parallel_moves.specs.declared.asking.Preview.{Preview}
use Rattle.parallel_moves.specs.declared.asking.TakeAnswer as K
use Rattle.parallel_moves.specs.declared.asking.TakeAnswer.{TakeAnswer}
use Rattle.parallel_moves.specs.declared.Resolved as R
use Rattle.parallel_moves.specs.declared.Resolved.{Resolved}
use Rattle.parallel_moves.specs.Given.{Numbered, with_made, gone, GrantOk, CacheOk}

-- 01's number, if refused
abbrev pub number_of : Resolved → Option ℕ
number_of (R.TheVariants.Edits n m) = none
number_of (R.TheVariants.Refused n) = some n

-- how many edits were handed out
abbrev pub edits_in : Resolved → ℕ
edits_in (R.TheVariants.Edits n m) = n
edits_in (R.TheVariants.Refused n) = 0

-- 02 d: "the greatest position it met"
abbrev pub position_in : Resolved → ℕ
position_in (R.TheVariants.Edits n m) = m
position_in (R.TheVariants.Refused n) = 0

-- "a refused call returns the number and no edits; the list and the cache stay as at that call"; else the words of the edits stand at the
-- list's front, each the word of one edit only, "Words past the edits are the caller's own, unaltered", the cache and the position are
-- those of the rules, and the stamp is raised (02 g)
abbrev pub Gives : List ℕ → Answer → Resolved → List ℕ → List ℕ → List ℕ → List ℕ → Type 0
Gives f (refused n) r list list' cache cache' = (number_of r ≡ some n) × (list' ≡ list) × (cache' ≡ cache)
Gives f (resolved es c n) r list list' cache cache' =
    (number_of r ≡ none) × (edits_in r ≡ length es) × (list' ≡ map word_of es ++ drop (length es) list) × AllInRange es × (cache_of cache' ≡ c) × CacheOk f cache' × (position_in r ≡ n)
    × (stamp_of cache' ≡ raised (stamp_of cache))

-- the same under a grant
abbrev pub GivesGranted : List ℕ → Grant → Answer → Resolved → List ℕ → List ℕ → List ℕ → List ℕ → Type 0
GivesGranted f g (refused n) r list list' cache cache' = (number_of r ≡ some n) × (list' ≡ list) × (cache' ≡ cache)
GivesGranted f g (resolved es c n) r list list' cache cache' =
    (number_of r ≡ none) × (edits_in r ≡ length es) × (list' ≡ map word_of es ++ drop (length es) list) × AllInRange es × (cache_of cache' ≡ c) × GrantOk f (gone g c.made) cache'
    × (position_in r ≡ n) × (stamp_of cache' ≡ raised (stamp_of cache))

-- what the rules answer under a grant: its counter and its limit stand for the function's
abbrev pub answer_granted : (t f : List ℕ) → Grant → Patch → ℕ → List ℕ → Answer
answer_granted t f g p room cache = resolve (T t) (with_limit (T t) (function_of f) g.limit) p room (with_made g.made (cache_of cache))

-- of free units and of entries that became what the table e holds: the rules' answer to every patch with these free units, once its entries
-- became that
abbrev pub Resolves : (t f : List ℕ) → List Bool → List ℕ → Resolved → (list list' cache cache' : List ℕ) → Type 0
Resolves t f free e r list list' cache cache' =
    (p : Patch) → ((u : ℕ) → has u p.free ≡ set_of free u) → Gives f (resolve_sorted (T t) (function_of f) p (length list) (cache_of cache) (sorted_of e)) r list list' cache cache'

abbrev pub ResolvesGranted : Grant → (t f : List ℕ) → List Bool → List ℕ → Resolved → (list list' cache cache' : List ℕ) → Type 0
ResolvesGranted g t f free e r list list' cache cache' =
    (p : Patch) → ((u : ℕ) → has u p.free ≡ set_of free u)
    → GivesGranted f g (resolve_sorted (T t) (with_limit (T t) (function_of f) g.limit) p (length list) (with_made g.made (cache_of cache)) (sorted_of e)) r list list' cache cache'

-- of free units and of numbers: the rules' answer to every patch that is given so
abbrev pub ResolvesPatch : (t f : List ℕ) → List Bool → (numbers : List ℕ) → Resolved → (list list' cache cache' : List ℕ) → Type 0
ResolvesPatch t f free numbers r list list' cache cache' =
    (p : Patch) → Numbered free numbers p → Gives f (resolve (T t) (function_of f) p (length list) (cache_of cache)) r list list' cache cache'

abbrev pub ResolvesPatchGranted : Grant → (t f : List ℕ) → List Bool → (numbers : List ℕ) → Resolved → (list list' cache cache' : List ℕ) → Type 0
ResolvesPatchGranted g t f free numbers r list list' cache cache' =
    (p : Patch) → Numbered free numbers p → GivesGranted f g (answer_granted t f g p (length list) cache) r list list' cache cache'

-- ---- 02 g: "Asking returns edits and slots made and changes no cache; taking makes the cache what resolving would have made it."
-- what a take needs of the table of slots that the asking left, and of the cache
pub record CanTake (slots cache : List ℕ) : Type 0 where
  pub fits : SlotsFit 1024 slots
  pub deep : (z : ℕ) → z < 32 → length (stacks_of slots cache z) ≤ 2048
  pub untouched : Untouched cache slots

-- with this table a take makes c of the cache, and the next call takes that
pub record Pending (f : List ℕ) (limit : ℕ) (cache slots : List ℕ) (c : Cache) : Type 0 where
  pub can : CanTake slots cache
  pub stacks : stacks_of slots cache ≡ c.stacks
  pub lie : Stacked (function_of f) c
  pub made : c.made ≤ limit

-- what an asking hands back beside the edits
abbrev pub preview_of : Cache → ℕ → List ℕ → Preview
preview_of c n cache = record { made = c.made; position = n; stamp = stamp_of cache }

-- "A refused asking leaves nothing to take": then the list stays, and the table holds anything
abbrev pub Asks : List ℕ → ℕ → Answer → Asked → (list list' cache slots' : List ℕ) → Type 0
Asks f limit (refused n) r list list' cache slots' = (r ≡ A.TheVariants.Refused n) × (list' ≡ list) × Anything slots'
Asks f limit (resolved es c n) r list list' cache slots' =
    (r ≡ A.TheVariants.Ready (length es) (preview_of c n cache)) × (list' ≡ map word_of es ++ drop (length es) list) × AllInRange es × Pending f limit cache slots' c

abbrev pub AsksGranted : Grant → (t f : List ℕ) → List Bool → List ℕ → Asked → (list list' cache slots' : List ℕ) → Type 0
AsksGranted g t f free e r list list' cache slots' =
    (p : Patch) → ((u : ℕ) → has u p.free ≡ set_of free u)
    → Asks f g.limit (resolve_sorted (T t) (with_limit (T t) (function_of f) g.limit) p (length list) (with_made g.made (cache_of cache)) (sorted_of e)) r list list' cache slots'

abbrev pub AsksPatchGranted : Grant → (t f : List ℕ) → List Bool → (numbers : List ℕ) → Asked → (list list' cache slots' : List ℕ) → Type 0
AsksPatchGranted g t f free numbers r list list' cache slots' =
    (p : Patch) → Numbered free numbers p → Asks f g.limit (answer_granted t f g p (length list) cache) r list list' cache slots'

-- "20, taking an answer when its cache has taken one or resolved a patch since the asking, tested first in a take": told by the stamp
pub record Takes (a : Preview) (slots cache : List ℕ) (r : TakeAnswer) (cache' : List ℕ) : Type 0 where
  pub same : a.stamp ≡ stamp_of cache → (r ≡ K.TheVariants.Yes) × Committed slots cache cache' a.made
  pub other : (a.stamp ≡ stamp_of cache → ⊥) → (r ≡ K.TheVariants.Refused 20) × (cache' ≡ cache)
