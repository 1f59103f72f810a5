-- What the steps promise.
use Rattle.std.specs.Prelude.{ℕ, suc, ◌+◌, ◌-◌, ◌*◌, ◌^◌, ◌<◌, ◌≤◌, ◌≡◌, Bool, true, false, List, [], ◌∷◌, ◌++◌, map, eqb, ltb, length, get_or, take}
use Rattle.std.proofs.Math.Option.{none, some}
use Rattle.entity.specs.Logic.{pick}
use Rattle.reginfo.specs.Table.{reg_info_of}
use Rattle.function.specs.Function.{num_values}
use Rattle.function.specs.Known.{Checked}
use Rattle.function.specs.Table.{function_of}
use Rattle.rules.specs.Edit.{Edit, filter}
use Rattle.rules.specs.Scratch.{Cache}
use Rattle.rules.specs.Patch.{Entry, Answer, refused, resolved, resolve, cache_after}
use Rattle.edit.specs.Word.{kind_in, word_of}
use Rattle.price.specs.declared.Prices.{Prices}
use Rattle.price.specs.Price.{price_of, in_range}
use Rattle.price.specs.Totals.{from_first}
use Rattle.slots.specs.Stacks.{cache_of}
use Rattle.parallel_moves.specs.declared.Resolved.{Resolved}
use Rattle.parallel_moves.specs.Given.{entries_of, CacheOk}
use Rattle.parallel_moves.specs.Answers.{number_of, edits_in}
use Rattle.draws.specs.Draws.{next}
use Rattle.trying.specs.declared.DrawnPatch.{DrawnPatch}
use Rattle.trying.specs.declared.Tried as TR
use Rattle.trying.specs.declared.Tried.{Tried}
use Rattle.trying.specs.Drawing.{drawn_entry, draw_patch, patch_of}
use Rattle.trying.specs.Tried.{Tries, with_kept, tried}
use Rattle.trying.specs.Report as report

-- the first n entries that numbers give
abbrev pub entries_in : List ℕ → ℕ → List Entry
entries_in numbers n = entries_of (take (n * 4) numbers)

-- a move drawn from a seed stands behind the first i
pub record MoveDrawn (t f : List ℕ) (seed : ℕ) (numbers : List ℕ) (i : ℕ) (numbers' : List ℕ) (r : ℕ) : Type 0 where
  pub seed-is : r ≡ next (next (next seed))
  pub long : length numbers' ≡ length numbers
  pub are : entries_in numbers' (i + 1) ≡ entries_in numbers i ++ (drawn_entry (reg_info_of t) (function_of f) (next seed) (next (next seed)) (next (next (next seed))) ∷ [])

-- a patch drawn from a seed: its entries, and the seed that it left
pub record PatchDrawn (t f : List ℕ) (seed : ℕ) (numbers numbers' : List ℕ) (r : DrawnPatch) : Type 0 where
  pub seed-is : r.seed ≡ (draw_patch (reg_info_of t) (function_of f) seed).seed
  pub long : length numbers' ≡ length numbers
  pub few : r.count ≤ 16
  pub are : entries_in numbers' r.count ≡ (draw_patch (reg_info_of t) (function_of f) seed).entries

-- what cell i of a table counts of answers; the evictions are written when all is counted
unfoldable pub cell_of : Prices → List Answer → ℕ → ℕ
cell_of p l i =
    pick (ltb i 7)
    (pick (eqb i 0) (report.accepted_in l) (pick (eqb i 6) (from_first (price_of p) (report.edits_in l)) (report.of_kind i (report.edits_in l))))
    (report.refusals_in (i - 7) l)

-- these answers are counted besides
abbrev pub Adds : Prices → List Answer → (tally tally' : List ℕ) → Type 0
Adds p l tally tally' = (i : ℕ) → i < 263 → get_or tally' i 0 ≡ get_or tally i 0 + cell_of p l i

-- n more patches can be counted: none adds 2^27 to a cell, since it has at most 1,024 edits and costs less than 2^26
abbrev pub Room : ℕ → List ℕ → Type 0
Room n tally = (i : ℕ) → i < 263 → get_or tally i 0 + n * 134217728 < 2 ^ 64

-- each word is counted in the cell of its kind
pub record Kinds (list tally tally' : List ℕ) : Type 0 where
  pub long : length tally' ≡ 263
  pub cells : (k : ℕ) → get_or tally' k 0 ≡ get_or tally k 0 + length (filter (λ w. eqb (kind_in w) k) list)

-- the words of an accepted patch are counted, whatever cache and position it left
abbrev pub CountsWords : Prices → (list tally tally' : List ℕ) → Type 0
CountsWords p list tally tally' = (es : List Edit) → list ≡ map word_of es → (c : Cache) (m : ℕ) → Adds p (resolved es c m ∷ []) tally tally'

-- what a call answered and left in the list is this answer of the rules
abbrev pub Told : Answer → Resolved → List ℕ → Type 0
Told (refused n) r list = number_of r ≡ some n
Told (resolved es c m) r list = (number_of r ≡ none) × (edits_in r ≡ length es) × (take (length es) list ≡ map word_of es)

abbrev pub seed_of : Tried → ℕ
seed_of (TR.TheVariants.Accepted s) = s
seed_of (TR.TheVariants.Refused s) = s

abbrev pub accepted_of : Tried → Bool
accepted_of (TR.TheVariants.Accepted s) = true
accepted_of (TR.TheVariants.Refused s) = false

pub record Counted (p : Prices) (r : Resolved) (seed : ℕ) (list tally tally' : List ℕ) (x : Tried) : Type 0 where
  pub seed-is : seed_of x ≡ seed
  pub counts : (a : Answer) → Told a r list → (accepted_of x ≡ report.is_accepted a) × Adds p (a ∷ []) tally tally'

-- what drawing and testing asks: an accepted function with values, a cache that a call takes, prices in range, and room for every patch
pub record Ready (t f : List ℕ) (p : Prices) (cache numbers list : List ℕ) : Type 0 where
  pub checked : Checked t f
  pub some-values : 0 < num_values (function_of f)
  pub ok : CacheOk f cache
  pub priced : in_range p ≡ true
  pub numbers-long : length numbers ≡ 64
  pub list-long : length list ≡ 1024

-- the rules' answer to the patch drawn from a seed
abbrev pub answer_at : (t f : List ℕ) (seed : ℕ) (cache : List ℕ) → Answer
answer_at t f seed cache = resolve (reg_info_of t) (function_of f) (patch_of (draw_patch (reg_info_of t) (function_of f) seed)) 1024 (cache_of cache)

-- one patch drawn and tested
pub record Once (t f : List ℕ) (p : Prices) (seed : ℕ) (tally cache : List ℕ) (x : Tried) (tally' cache' : List ℕ) : Type 0 where
  pub seed-is : seed_of x ≡ (draw_patch (reg_info_of t) (function_of f) seed).seed
  pub accepted : accepted_of x ≡ report.is_accepted (answer_at t f seed cache)
  pub cache-is : cache_of cache' ≡ cache_after (cache_of cache) (answer_at t f seed cache)
  pub ok : CacheOk f cache'
  pub adds : Adds p (answer_at t f seed cache ∷ []) tally tally'
  pub room : (n : ℕ) → Room (suc n) tally → Room n tally'

-- patches drawn and tested, n at most
pub record Many (f : List ℕ) (p : Prices) (r : Tries) (n : ℕ) (tally : List ℕ) (tally' cache' : List ℕ) : Type 0 where
  pub cache-is : cache_of cache' ≡ r.cache
  pub ok : CacheOk f cache'
  pub adds : Adds p r.answers tally tally'
  pub room : (m : ℕ) → Room (m + n) tally → Room m tally'

-- a setting tried: the function's table has it, and holds what it held besides
pub record SettingTried (t f : List ℕ) (kept : ℕ) (p : Prices) (seed count : ℕ) (f' tally' : List ℕ) : Type 0 where
  pub reported : report.Reported tally' p (tried (reg_info_of t) (function_of f) kept count seed).answers
  pub function : function_of f' ≡ with_kept kept (function_of f)
  pub checked : Checked t f'
