-- 02 k, refusals of a call by groups: the whole patch's numbers, and then 17; and where all entries are one group, `resolve` itself.
use Rattle.std.specs.Prelude.{ℕ, ◌<◌, ◌≡◌, Bool, true, false, ◌↔◌, length}
use mathlib.Core.List.{List, [], ◌∷◌, ◌++◌, Memᴰ}
use Rattle.std.proofs.Math.Option.{Option, none, some}
use Rattle.entity.specs.Place.{slot}
use Rattle.reginfo.specs.RegInfo.{RegInfo}
use Rattle.reginfo.specs.Refused as target
use Rattle.reginfo.specs.Refused.{Condition, refused_if}
use Rattle.reginfo.specs.Given.{Given, NoneHolds}
use Rattle.function.specs.Function.{Function}
use Rattle.rules.specs.Edit.{Edit}
use Rattle.rules.specs.Scratch.{Cache, ScratchAllocator}
use Rattle.rules.specs.Patch.{Entry, move, Patch, refused, resolved, cache_after, sorted, run, resolve}
use Rattle.group_rules.specs.Groups.{Together, near, parts, whole_conditions, resolve_by_groups}

abbrev pub no_entry : Entry
no_entry = move (slot 0) (slot 0) 0

-- a run out of slots, or the next one's with the cache that it leaves
abbrev pub out_or : Option ScratchAllocator → (Cache → Bool) → Bool
out_or none next = true
out_or (some k) next = next k.cache

module _ (t : RegInfo) (f : Function) where
  -- one of the groups is out of slots
  unfoldable pub some_out : List Patch → Cache → Bool
  some_out [] c = false
  some_out (q ∷ l) c = out_or (run t f q (sorted t f q) c) (λ c'. some_out l c')

  -- all conditions of a call by groups in their order: the whole patch's, then "a 17 in one refuses them all"
  unfoldable pub group_conditions : Patch → ℕ → Cache → List Condition
  group_conditions p room c = whole_conditions t f p room ++ (refused_if 17 (some_out (parts t p) c) ∷ [])

  -- once the whole patch has passed its tests, each group passes all of them: it can get 17 alone
  abbrev pub OnlySlots : Type 0
  OnlySlots =
      target.Accepted t → (p : Patch) (room : ℕ) → NoneHolds (whole_conditions t f p room) → (q : Patch) → Memᴰ q (parts t p)
      → NoneHolds (whole_conditions t f q room)

  pub record Refusals (p : Patch) (room : ℕ) (c : Cache) : Type 0 where
    -- refused with n: n's condition holds and none earlier does
    pub given : (n : ℕ) → (resolve_by_groups t f p room c ≡ refused n) ↔ Given (group_conditions p room c) n
    -- not refused: no condition holds
    pub taken : ((es : List Edit) × (c' : Cache) × (m : ℕ) × (resolve_by_groups t f p room c ≡ resolved es c' m)) ↔ NoneHolds (group_conditions p room c)
    -- 01: "a refused call returns the number and no edits; the list and the cache stay as at that call"
    pub cache-stays : (n : ℕ) → resolve_by_groups t f p room c ≡ refused n → cache_after c (resolve_by_groups t f p room c) ≡ c

  abbrev pub GroupRefusals : Type 0
  GroupRefusals = target.Accepted t → (p : Patch) (room : ℕ) (c : Cache) → Refusals p room c

  -- all entries belong together
  abbrev pub OneGroup : Type 0
  OneGroup =
      (p : Patch) (room : ℕ) (c : Cache) → ((i j : ℕ) → i < length p.entries → j < length p.entries → Together (near t) no_entry p.entries i j)
      → resolve_by_groups t f p room c ≡ resolve t f p room c
