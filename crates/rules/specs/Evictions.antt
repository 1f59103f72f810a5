-- 02 i: how many evicted registers are held; 02 n: how many evictions there are.
use Rattle.std.specs.Prelude.{ℕ, suc, ◌+◌, ◌≤◌, ◌≡◌, Bool, true, false, List, [], ◌⊎◌, length}
use Rattle.std.proofs.Math.Option.{some}
use Rattle.entity.specs.Place.{Place}
use Rattle.reginfo.specs.RegInfo.{RegInfo}
use Rattle.function.specs.Function.{Function}
use Rattle.function.specs.Refused as function
use Rattle.rules.specs.Edit.{Edit, Move, Rematerialize, EmergencySpill, EmergencyReload, filter}
use Rattle.rules.specs.Scratch.{Cache, Evicted, ScratchAllocator, Found, unevict, evict_last, get_scratch_reg, do_move}
use Rattle.rules.specs.Order.{KeptMove, Remat, ParallelMoves, remat_with_scratch, visit, moves}
use Rattle.rules.specs.Patch.{Patch, resolved, resolve}

abbrev pub is_save : Edit → Bool
is_save (Move to from v) = false
is_save (Rematerialize to v) = false
is_save (EmergencySpill s r) = true
is_save (EmergencyReload r s) = false

abbrev pub is_reload : Edit → Bool
is_reload (Move to from v) = false
is_reload (Rematerialize to v) = false
is_reload (EmergencySpill s r) = false
is_reload (EmergencyReload r s) = true

-- how many S a list has, and how many L
abbrev pub saves : List Edit → ℕ
saves es = length (filter is_save es)

abbrev pub reloads : List Edit → ℕ
reloads es = length (filter is_reload es)

module _ (t : RegInfo) (f : Function) where
  -- no more are held than the function keeps
  abbrev pub Few : ScratchAllocator → Type 0
  Few k = length k.evicted ≤ f.kept

  -- so it is after each step, where it was before; at the end of a patch none is held
  pub record Held : Type 0 where
    pub search : (b c : ℕ) (barred : ℕ → Bool) (k : ScratchAllocator) (x : Found) → Few k → get_scratch_reg t f b c barred k ≡ some x → Few x.scratch
    pub move : (b : ℕ) (to from : Place) (v : ℕ) (k k' : ScratchAllocator) → Few k → do_move t f b to from v k ≡ some k' → Few k'
    pub remat-step : (r : Remat) (k k' : ScratchAllocator) → Few k → remat_with_scratch t f r k ≡ some k' → Few k'
    pub visited : (ms : List KeptMove) (d i : ℕ) (w w' : ParallelMoves) → Few w.allocator → visit t f ms d i w ≡ some w' → Few w'.allocator
    pub ends : (ms : List KeptMove) (k k' : ScratchAllocator) → moves t f ms k ≡ some k' → k'.evicted ≡ []

  abbrev pub FewHeld : Type 0
  FewHeld = function.Accepted t f → Held

  -- 02 n, "evictions": an eviction is what `evict_last` does, and makes one reload; no search makes another, and to bring back makes none
  pub record Evicts : Type 0 where
    pub one_more : (n b c : ℕ) (k : ScratchAllocator) (x : Found) → evict_last t f n b c k ≡ some x → reloads x.scratch.edits ≡ suc (reloads k.edits)
    pub search :
        (b c : ℕ) (barred : ℕ → Bool) (k : ScratchAllocator) (x : Found) → get_scratch_reg t f b c barred k ≡ some x
        → (reloads x.scratch.edits ≡ reloads k.edits)
        ⊎ ((n : ℕ) × (k' : ScratchAllocator) × (reloads k'.edits ≡ reloads k.edits) × (evict_last t f n b c k' ≡ some x))
    pub brought-back :
        (l : List Evicted) (k : ScratchAllocator)
        → (reloads (unevict t f l k).edits ≡ reloads k.edits) × (saves (unevict t f l k).edits ≡ length l + saves k.edits)

  -- so a resolved list has as many S as L: each register that is evicted is saved once
  abbrev pub AsMany : Type 0
  AsMany = (p : Patch) (room : ℕ) (c c' : Cache) (es : List Edit) (n : ℕ) → resolve t f p room c ≡ resolved es c' n → saves es ≡ reloads es
