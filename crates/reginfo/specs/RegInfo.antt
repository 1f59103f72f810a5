-- 01, The target, as data in the job's order: "units; banks, each size, top class, stack class; registers, each memory 0/1, bank, unit
-- count, units; classes, each bank, slots 0/1, member count, members, order count, order".
use Rattle.std.specs.Prelude.{ℕ, ◌+◌, Bool, true, List, [], ◌∷◌, length, get_or, eqb}
use Rattle.entity.specs.Logic.{has, meets, last_or}
use Rattle.entity.specs.Place.{Place, reg, slot}

pub record Bank : Type 0 where
  pub size : ℕ
  pub top : ℕ
  pub stack : ℕ

pub record Reg : Type 0 where
  pub memory : ℕ
  pub bank : ℕ
  pub units : List ℕ

pub record Class : Type 0 where
  pub bank : ℕ
  pub slots : ℕ
  pub members : List ℕ
  pub order : List ℕ

pub record RegInfo : Type 0 where
  pub units : ℕ
  pub banks : List Bank
  pub regs : List Reg
  pub classes : List Class

abbrev pub no_bank : Bank
no_bank = record { size = 0; top = 0; stack = 0 }

abbrev pub no_reg : Reg
no_reg = record { memory = 0; bank = 0; units = [] }

abbrev pub no_class : Class
no_class = record { bank = 0; slots = 0; members = []; order = [] }

abbrev pub num_banks : RegInfo → ℕ
num_banks t = length t.banks

abbrev pub num_regs : RegInfo → ℕ
num_regs t = length t.regs

abbrev pub num_classes : RegInfo → ℕ
num_classes t = length t.classes

-- banks
unfoldable pub spillslot_size : RegInfo → ℕ → ℕ
spillslot_size t b = (get_or t.banks b no_bank).size

unfoldable pub top_level_class : RegInfo → ℕ → ℕ
top_level_class t b = (get_or t.banks b no_bank).top

unfoldable pub stack_to_stack_class : RegInfo → ℕ → ℕ
stack_to_stack_class t b = (get_or t.banks b no_bank).stack

-- registers
unfoldable pub reg_memory : RegInfo → ℕ → ℕ
reg_memory t r = (get_or t.regs r no_reg).memory

unfoldable pub bank_for_reg : RegInfo → ℕ → ℕ
bank_for_reg t r = (get_or t.regs r no_reg).bank

unfoldable pub reg_units : RegInfo → ℕ → List ℕ
reg_units t r = (get_or t.regs r no_reg).units

-- classes
unfoldable pub bank_for_class : RegInfo → ℕ → ℕ
bank_for_class t c = (get_or t.classes c no_class).bank

unfoldable pub class_slots : RegInfo → ℕ → ℕ
class_slots t c = (get_or t.classes c no_class).slots

unfoldable pub class_members : RegInfo → ℕ → List ℕ
class_members t c = (get_or t.classes c no_class).members

unfoldable pub allocation_order : RegInfo → ℕ → List ℕ
allocation_order t c = (get_or t.classes c no_class).order

abbrev pub is_memory_reg : RegInfo → ℕ → Bool
is_memory_reg t r = eqb (reg_memory t r) 1

abbrev pub includes_spillslots : RegInfo → ℕ → Bool
includes_spillslots t c = eqb (class_slots t c) 1

-- the last register of a class's order
abbrev pub last_in_order : RegInfo → ℕ → ℕ
last_in_order t c = last_or 0 (allocation_order t c)

-- places: 01, "A register has 1 to 8 units; a slot is one unit."
abbrev pub place_units : RegInfo → Place → List ℕ
place_units t (reg r) = reg_units t r
place_units t (slot s) = (512 + s) ∷ []

-- "Two places overlap when they share a unit."
abbrev pub overlap : RegInfo → Place → Place → Bool
overlap t p q = meets (place_units t p) (place_units t q)

-- "A slot is memory; a register is memory when the target says so."
abbrev pub is_memory : RegInfo → Place → Bool
is_memory t (reg r) = is_memory_reg t r
is_memory t (slot s) = true

-- a register among the members; "a slot: the class includes slots"
abbrev pub in_class : RegInfo → ℕ → Place → Bool
in_class t c (reg r) = has r (class_members t c)
in_class t c (slot s) = includes_spillslots t c

-- "a slot is of no bank and always passes"
abbrev pub of_bank : RegInfo → ℕ → Place → Bool
of_bank t b (reg r) = eqb (bank_for_reg t r) b
of_bank t b (slot s) = true
