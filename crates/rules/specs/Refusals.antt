-- 01, Refused jobs, for the calls of a patch: "Each is given when its condition holds and none earlier does, else not."
use Rattle.std.specs.Prelude.{ℕ, ◌<◌, ◌≤◌, ◌≡◌, Bool, true, false, List, [], ◌∷◌, ◌++◌, ◌↔◌, ◌⊎◌}
use Rattle.std.proofs.Math.Option.{Option, none, some}
use Rattle.reginfo.specs.RegInfo.{RegInfo}
use Rattle.reginfo.specs.Refused.{Condition, refused_if}
use Rattle.reginfo.specs.Given.{Given, NoneHolds}
use Rattle.function.specs.Function.{Function}
use Rattle.rules.specs.Edit.{Edit}
use Rattle.rules.specs.Scratch.{Cache, ScratchAllocator, acquire}
use Rattle.rules.specs.Patch.{Entry, Patch, Sorted, nothing_sorted, refused, resolved, cache_after, add, sorted, entry_conditions, patch_conditions, run, resolve}

-- 17: "a slot is needed, its stack is empty and L are made"
abbrev pub ran_out : Option ScratchAllocator → Bool
ran_out none = true
ran_out (some k) = false

module _ (t : RegInfo) (f : Function) where
  -- "each entry 15, 2, 9, 10, 11, 12", and 21, over what the entries before it became
  unfoldable pub entries_conditions : List Entry → Sorted → List Condition
  entries_conditions [] a = []
  entries_conditions (e ∷ l) a = entry_conditions t f a e ++ entries_conditions l (add t f e a)

  -- all conditions of a call in their order: the entries', "then 13, 14, 16, 17"
  unfoldable pub call_conditions : Patch → ℕ → Cache → List Condition
  call_conditions p room c = entries_conditions p.entries nothing_sorted ++ (patch_conditions t f p room (sorted t f p) ++ (refused_if 17 (ran_out (run t f p (sorted t f p) c)) ∷ []))

  pub record Refusals (p : Patch) (room : ℕ) (c : Cache) : Type 0 where
    -- refused with n: n's condition holds and none earlier does
    pub given : (n : ℕ) → (resolve t f p room c ≡ refused n) ↔ Given (call_conditions p room c) n
    -- not refused: no condition holds
    pub taken : ((es : List Edit) × (c' : Cache) × (m : ℕ) × (resolve t f p room c ≡ resolved es c' m)) ↔ NoneHolds (call_conditions p room c)
    -- "a refused call returns the number and no edits; the list and the cache stay as at that call"
    pub cache-stays : (n : ℕ) → resolve t f p room c ≡ refused n → cache_after c (resolve t f p room c) ≡ c

  -- a slot that is needed is not had exactly where "its stack is empty and L are made"
  abbrev pub NoSlot : Type 0
  NoSlot = (z : ℕ) (c : Cache) → (acquire t f z c ≡ none) ↔ ((c.stacks z ≡ []) × (f.limit ≤ c.made))

  -- f with another L
  abbrev pub with_limit : ℕ → Function
  with_limit l = record { values = f.values; slots = f.slots; limit = l; kept = f.kept }

  -- k is where the run of a patch ends with slots enough: under every L from some one on
  abbrev pub EndsWithSlots : Patch → Sorted → Cache → ScratchAllocator → Type 0
  EndsWithSlots p a c k = (l : ℕ) × ((l' : ℕ) → l ≤ l' → run t (with_limit l') p a c ≡ some k)

  -- the run is out of slots exactly where k made some and made more than L, and else ends in k
  pub record ByLimit (p : Patch) (a : Sorted) (c : Cache) (k : ScratchAllocator) : Type 0 where
    pub out : (run t f p a c ≡ none) ↔ ((c.made < k.cache.made) × (f.limit < k.cache.made))
    pub same : (k.cache.made ≤ f.limit) ⊎ (k.cache.made ≡ c.made) → run t f p a c ≡ some k

  -- every run ends with slots enough, whatever the moves; so it is out of slots, and 17 is given, exactly where more than L are wanted, and
  -- for no other reason
  abbrev pub OnlyBySlots : Type 0
  OnlyBySlots = (p : Patch) (a : Sorted) (c : Cache) → (k : ScratchAllocator) × EndsWithSlots p a c k × ByLimit p a c k
