-- The scratch allocator of the code, with the tables lent beside it, as that of the rules.
use Rattle.std.specs.Prelude.{ℕ, zero, suc, ◌+◌, ◌*◌, ◌/◌, ◌%◌, ◌<◌, ◌≤◌, ◌≡◌, Bool, true, false, List, [], ◌∷◌}
use Rattle.entity.specs.Logic.{has}
use Rattle.entity.specs.Place.{place_at}
use Rattle.reginfo.specs.RegInfo.{RegInfo, num_regs, num_banks, num_classes, spillslot_size, includes_spillslots}
use Rattle.reginfo.specs.Known.{KnownPlace}
use Rattle.reginfo.specs.Table.{reg_info_of}
use Rattle.function.specs.Function.{Function}
use Rattle.function.specs.Known.{Checked}
use Rattle.function.specs.Table.{function_of}
use Rattle.small_set.specs.Set.{set_of}
use Rattle.rules.specs.Scratch as rules
use Rattle.edit.specs.Buffer.{count_of, edits_of, Written}
use Rattle.slots.specs.Stacks.{met_of, stacks_of, SlotsFit, Untouched}
use Rattle.scratch.specs.declared.Held.{Held}
use Rattle.scratch.specs.declared.Evicted.{Evicted}
use Rattle.scratch.specs.declared.Evicted.TheVariants.{Nothing, One, Two}
use Rattle.scratch.specs.declared.ScratchAllocator.{ScratchAllocator}

abbrev pub T : List ℕ → RegInfo
T t = reg_info_of t

-- slots past L are made too, and whether there were such is asked at a patch's end: so the rules here have a limit that is never met
abbrev pub unlimited : Function → Function
unlimited f = record { values = f.values; slots = f.slots; limit = 4096; kept = f.kept }

abbrev pub F : List ℕ → Function
F f = unlimited (function_of f)

-- a held register as a number above 0
unfoldable pub word_of : Held → ℕ
word_of e = (e.reg.0 * 8192 + e.slot.0) * 8 + e.bank.0 + 1

-- and read back, from one less
unfoldable pub held_at : ℕ → Held
held_at n = record { reg = record { 0 = n / 65536 }; slot = record { 0 = n / 8 % 8192 }; bank = record { 0 = n % 8 } }

abbrev pub held_in : ℕ → ℕ → Evicted
held_in zero o = Nothing
held_in (suc n) zero = One (held_at n)
held_in (suc n) (suc o) = Two (held_at n) (held_at o)

-- the allocator's number: the slots made, below 2^12; then the newer register held, below 2^26, and the older; 0 where there is none
unfoldable pub made_of : ScratchAllocator → ℕ
made_of k = k.packed % 4096

unfoldable pub evicted_in : ScratchAllocator → Evicted
evicted_in k = held_in (k.packed / 4096 % 67108864) (k.packed / 274877906944)

-- what has room in it
abbrev pub Small : Held → Type 0
Small e = (e.reg.0 < 512) × (e.slot.0 < 8192) × (e.bank.0 < 8)

abbrev pub AllSmall : Evicted → Type 0
AllSmall Nothing = Unit
AllSmall (One e) = Small e
AllSmall (Two e o) = Small e × Small o

-- other registers held, and as many slots made
pub record Keeps (v : Evicted) (k k' : ScratchAllocator) : Type 0 where
  pub is : evicted_in k' ≡ v
  pub made : made_of k' ≡ made_of k

abbrev pub held_of : RegInfo → Held → rules.Evicted
held_of t e = record { reg = e.reg.0; slot = e.slot.0; size = spillslot_size t e.bank.0 }

-- the newer first
abbrev pub evicted_of : RegInfo → Evicted → List rules.Evicted
evicted_of t Nothing = []
evicted_of t (One e) = held_of t e ∷ []
evicted_of t (Two e o) = held_of t e ∷ held_of t o ∷ []

abbrev pub cache_in : ScratchAllocator → List ℕ → List ℕ → rules.Cache
cache_in k slots cache = record { stacks = stacks_of slots cache; made = made_of k }

abbrev pub allocator_of : List ℕ → ScratchAllocator → List ℕ → List Bool → List ℕ → List ℕ → rules.ScratchAllocator
allocator_of t k edits available slots cache =
    record { edits = edits_of edits; available = set_of available; evicted = evicted_of (T t) (evicted_in k); cache = cache_in k slots cache; met = met_of slots }

-- every slot in the stacks has a place code
abbrev pub Stacked : (ℕ → List ℕ) → Type 0
Stacked stacks = (z s : ℕ) → has s (stacks z) ≡ true → s < 8192

-- what taking a slot asks
pub record Stocked (k : ScratchAllocator) (slots cache : List ℕ) : Type 0 where
  pub put : SlotsFit 1024 slots
  pub made : made_of k < 4095
  pub stacked : Stacked (stacks_of slots cache)

abbrev pub HeldFits : RegInfo → Held → Type 0
HeldFits t e = (e.reg.0 < num_regs t) × (e.slot.0 < 8192) × (e.bank.0 < num_banks t)

abbrev pub AllFit : RegInfo → Evicted → Type 0
AllFit t Nothing = Unit
AllFit t (One e) = HeldFits t e
AllFit t (Two e o) = HeldFits t e × HeldFits t o

-- the saves of the evicted registers are still to be made
abbrev pub owed : Evicted → ℕ
owed Nothing = 0
owed (One e) = 1
owed (Two e o) = 2

-- room for n edits more than those owed; on no stack were more put back than `most`, which is a less than the edits made; b less than
-- 2,050 and the edits were made of slots
pub record Fits (a b n : ℕ) (t : List ℕ) (k : ScratchAllocator) (edits slots cache : List ℕ) : Type 0 where
  pub few : count_of edits + owed (evicted_in k) + n ≤ 1024
  pub most : ℕ
  pub put : SlotsFit most slots
  pub own : most + a ≤ count_of edits
  pub made : made_of k + b ≤ 2050 + count_of edits
  pub stacked : Stacked (stacks_of slots cache)
  pub held : AllFit (T t) (evicted_in k)
  pub written : Written edits
  pub untouched : Untouched cache slots

-- a place that an edit can name
pub record PlaceFits (t : List ℕ) (code : ℕ) : Type 0 where
  pub known : KnownPlace (T t) (place_at code)
  pub small : code < 16384

-- a bank, and a class without slots, so that its order has a last register
pub record Evictable (t f : List ℕ) (b c : ℕ) : Type 0 where
  pub checked : Checked t f
  pub bank : b < num_banks (T t)
  pub class : c < num_classes (T t)
  pub slotless : includes_spillslots (T t) c ≡ false

-- a move that an edit can name
pub record Movable (t f : List ℕ) (b to from v : ℕ) : Type 0 where
  pub checked : Checked t f
  pub bank : b < num_banks (T t)
  pub to-fits : PlaceFits t to
  pub from-fits : PlaceFits t from
  pub value : v < 4096
