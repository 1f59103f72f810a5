-- 02 d: "the scratch search [reports] the position in the order, counted from 0, at which it found its register, or the order's length where
-- none there would do, an evicted one taken again included".
use Rattle.std.specs.Prelude.{ℕ, ◌<◌, ◌≤◌, ◌≡◌, Bool, true, false, ltb, length, get_or}
use Rattle.std.proofs.Math.Option.{some}
use Rattle.entity.specs.Logic.{pick}
use Rattle.entity.specs.Place.{reg}
use Rattle.reginfo.specs.RegInfo.{RegInfo, allocation_order}
use Rattle.function.specs.Function.{Function}
use Rattle.rules.specs.Scratch.{ScratchAllocator, Found, usable, get_scratch_reg}

module _ (t : RegInfo) (f : Function) where
  -- of a search of class c from k that found x
  pub record Reported (c : ℕ) (barred : ℕ → Bool) (k : ScratchAllocator) (x : Found) : Type 0 where
    pub within : x.position ≤ length (allocation_order t c)
    -- nothing before the position would do
    pub before : (i : ℕ) → i < x.position → usable t f barred k (get_or (allocation_order t c) i 0) ≡ false
    -- unless it is the order's length, the register at it would, and is what was found
    pub at : x.position < length (allocation_order t c) → usable t f barred k (get_or (allocation_order t c) x.position 0) ≡ true
    pub found : x.position < length (allocation_order t c) → x.place ≡ reg (get_or (allocation_order t c) x.position 0)
    -- "Each caller passes it on": the allocator handed on has met it
    pub met : x.scratch.met ≡ pick (ltb k.met x.position) x.position k.met

  abbrev pub SearchReports : Type 0
  SearchReports = (b c : ℕ) (barred : ℕ → Bool) (k : ScratchAllocator) (x : Found) → get_scratch_reg t f b c barred k ≡ some x → Reported c barred k x
