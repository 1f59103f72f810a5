-- 02 k of the code: what a call by groups and its steps answer and leave, held against the rules' answer.
use Rattle.std.specs.Prelude.{ℕ, ◌≤◌, ◌≡◌, Bool, List, map, length, take}
use Rattle.std.proofs.Math.Option.{Option, none, some}
use Rattle.entity.specs.Logic.{cells}
use Rattle.reginfo.specs.Refused.{first_of}
use Rattle.function.specs.Function.{Function}
use Rattle.function.specs.Table.{function_of}
use Rattle.rules.specs.Patch.{Patch, nothing_sorted, bound, Answer, refused, resolved, sorted, resolve}
use Rattle.rules.specs.Refusals.{entries_conditions, with_limit}
use Rattle.edit.specs.Word.{word_of, AllInRange}
use Rattle.slots.specs.Stacks.{cache_of, stamp_of, raised, CacheFits}
use Rattle.scratch.specs.State.{T}
use Rattle.entries.specs.Table.{sorted_of}
use Rattle.entries.specs.Known.{EntriesOk}
use Rattle.group_rules.specs.Groups.{part, labels_of, parts, resolve_parts, whole_conditions, resolve_by_groups}
use Rattle.parallel_moves.specs.declared.Grant.{Grant}
use Rattle.parallel_moves.specs.declared.Resolved.{Resolved}
use Rattle.parallel_moves.specs.Given.{Numbered, with_made, GrantOk}
use Rattle.parallel_moves.specs.Answers.{number_of, edits_in, position_in, Gives, GivesGranted}
use Rattle.groups.specs.Given.{count_of, KnownEntries, labels_in}
use Rattle.groups.specs.Linked.{Linked}
use Rattle.groups.specs.Free.{CommonAs}
use Rattle.grouping.specs.Copied.{Written}

-- the function with the limit that the call is granted
abbrev pub within : List ℕ → List ℕ → ℕ → Function
within t f limit = with_limit (T t) (function_of f) limit

-- the whole patch's tests first: the number that the whole patch gets, and what is known of the entries where it gets none
pub record TestedAs (t f : List ℕ) (free : List Bool) (numbers : List ℕ) (room : ℕ) (r : Option ℕ) : Type 0 where
  pub is : (p : Patch) → Numbered free numbers p → r ≡ first_of (whole_conditions (T t) (function_of f) p room)
  pub known : r ≡ none → KnownEntries (T t) numbers
  -- 128 entries at most: 1,024 edits at most
  pub few : r ≡ none → (p : Patch) → Numbered free numbers p → bound (sorted (T t) (function_of f) p) ≤ 1024

-- the labels of the entries, the next of each group, and the units that are free for all
pub record Laid (t numbers : List ℕ) (free : List Bool) (labels next : List ℕ) (common : List Bool) : Type 0 where
  pub labelled : cells labels 0 (count_of numbers) ≡ labels_in (T t) numbers
  pub linked : Linked (labels_in (T t) numbers) (count_of numbers) next
  pub shared : CommonAs (T t) numbers free common

-- the entries of the group of `first` added, one after the other
pub record PartAdded (t f numbers : List ℕ) (first : ℕ) (e w : List ℕ) (r : Option ℕ) : Type 0 where
  pub is : (p : Patch) (free : List Bool) → Numbered free numbers p → r ≡ first_of (entries_conditions (T t) (function_of f) (part (T t) p (labels_of (T t) p) first).entries nothing_sorted)
  pub yes : (p : Patch) (free : List Bool) → Numbered free numbers p → r ≡ none → sorted_of e ≡ sorted (T t) (function_of f) (part (T t) p (labels_of (T t) p) first)
  pub ok : EntriesOk t f e w

-- what the working cache grants the next group: the slots that the last one left, and the call's limit
abbrev pub rest : ℕ → List ℕ → Grant
rest limit work = record { made = (cache_of work).made; limit = limit }

-- one group resolved on the working cache
abbrev pub PartGives : ℕ → (t f : List ℕ) → List Bool → (numbers : List ℕ) → ℕ → Resolved → (list list' work work' : List ℕ) → Type 0
PartGives limit t f free numbers first r list list' work work' =
    (p : Patch) → Numbered free numbers p
    → GivesGranted f (rest limit work) (resolve (T t) (within t f limit) (part (T t) p (labels_of (T t) p) first) (length list) (cache_of work)) r list list' work work'

-- the whole patch has passed its tests; with 1,024 words 16 is given to none
abbrev pub Passed : ℕ → (t f : List ℕ) → List Bool → List ℕ → Type 0
Passed limit t f free numbers = (p : Patch) → Numbered free numbers p → first_of (whole_conditions (T t) (within t f limit) p 1024) ≡ none

-- all groups: the words of their edits stand at the front of `joined`, and the working cache is what they left
abbrev pub PartsLeave : ℕ → (t f : List ℕ) → Patch → Answer → Resolved → (joined work : List ℕ) → Type 0
PartsLeave limit t f p (refused n) r joined work = number_of r ≡ some n
PartsLeave limit t f p (resolved es c n) r joined work =
    (number_of r ≡ none) × (edits_in r ≡ length es) × (take (length es) joined ≡ map word_of es) × AllInRange es × (cache_of work ≡ c) × GrantOk f (rest limit work) work × (position_in r ≡ n)
    × (length es ≤ bound (sorted (T t) (within t f limit) p))

abbrev pub PartsGive : ℕ → (t f : List ℕ) → List Bool → (numbers : List ℕ) → Resolved → (joined work work' : List ℕ) → Type 0
PartsGive limit t f free numbers r joined work work' =
    (p : Patch) → Numbered free numbers p → PartsLeave limit t f p (resolve_parts (T t) (within t f limit) (parts (T t) p) 1024 (cache_of work)) r joined work'

-- list and cache at the end: the words, the working cache's stacks and slots made, and the cache's own stamp raised
pub record HandedOver (joined : List ℕ) (n : ℕ) (work list cache list' cache' : List ℕ) : Type 0 where
  pub words : Written joined n list list'
  pub is : cache_of cache' ≡ cache_of work
  pub fits : CacheFits cache'
  pub stamp : stamp_of cache' ≡ raised (stamp_of cache)

-- a call by groups under a grant, and of a function alone: the rules' answer to every patch that is given so
abbrev pub GroupsGranted : Grant → (t f : List ℕ) → List Bool → (numbers : List ℕ) → Resolved → (list list' cache cache' : List ℕ) → Type 0
GroupsGranted g t f free numbers r list list' cache cache' =
    (p : Patch) → Numbered free numbers p → GivesGranted f g (resolve_by_groups (T t) (within t f g.limit) p (length list) (with_made g.made (cache_of cache))) r list list' cache cache'

abbrev pub Groups : (t f : List ℕ) → List Bool → (numbers : List ℕ) → Resolved → (list list' cache cache' : List ℕ) → Type 0
Groups t f free numbers r list list' cache cache' =
    (p : Patch) → Numbered free numbers p → Gives f (resolve_by_groups (T t) (function_of f) p (length list) (cache_of cache)) r list list' cache cache'
