-- 01, Places. A place is a register or a spill slot; units have one numbering over both.
use Rattle.std.specs.Prelude.{ℕ, ◌+◌, ◌-◌, ◌*◌, ◌/◌, ◌%◌, Bool, false, eqb, ltb, Some, None}
use Rattle.std.specs.Prelude as std
use Rattle.std.proofs.Math.Option.{Option, none, some}
use Rattle.entity.specs.Logic.{pick}
use Rattle.entity.specs.declared.AllocationKind as AK
use Rattle.entity.specs.declared.AllocationKind.{AllocationKind}
use Rattle.entity.specs.declared.AllocationUnitKind as UK
use Rattle.entity.specs.declared.AllocationUnitKind.{AllocationUnitKind}

-- 01: "A place is a register or a spill slot."
pub data Place : Type 0 where
  reg : ℕ → Place
  slot : ℕ → Place

abbrev pub same_place : Place → Place → Bool
same_place (reg a) (reg b) = eqb a b
same_place (slot a) (slot b) = eqb a b
same_place (reg a) (slot b) = false
same_place (slot a) (reg b) = false

-- 01: "Place code: slot s is 2s, register r is 2r + 1."
abbrev pub code_of : Place → ℕ
code_of (reg r) = r * 2 + 1
code_of (slot s) = s * 2

unfoldable pub place_at : ℕ → Place
place_at c = pick (eqb (c % 2) 1) (reg (c / 2)) (slot (c / 2))

-- one of the first `regs` registers or of the first `slots` slots
abbrev pub names : ℕ → ℕ → Place → Bool
names regs slots (reg r) = ltb r regs
names regs slots (slot s) = ltb s slots

-- a code that names nothing is refused
unfoldable pub read_place : ℕ → ℕ → ℕ → Option Place
read_place regs slots c = pick (names regs slots (place_at c)) (some (place_at c)) none

-- 01: "numbers below 512 are register units and 512 + s is slot s"
pub data PlaceUnit : Type 0 where
  reg_unit : ℕ → PlaceUnit
  slot_unit : ℕ → PlaceUnit

abbrev pub unit_code : PlaceUnit → ℕ
unit_code (reg_unit u) = u
unit_code (slot_unit s) = 512 + s

unfoldable pub unit_at : ℕ → PlaceUnit
unit_at n = pick (ltb n 512) (reg_unit n) (slot_unit (n - 512))

-- what the enums of the code stand for
abbrev pub place_of : AllocationKind → Place
place_of (AK.TheVariants.PhysReg r) = reg r.0
place_of (AK.TheVariants.SpillSlot s) = slot s.0

abbrev pub unit_of : AllocationUnitKind → PlaceUnit
unit_of (UK.TheVariants.Reg u) = reg_unit u.0
unit_of (UK.TheVariants.SpillSlot s) = slot_unit s.0

-- what a code from outside names: a place, or nothing
abbrev pub named_of : std.Option AllocationKind → Option Place
named_of (Some k) = some (place_of k)
named_of None = none
