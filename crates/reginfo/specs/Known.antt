-- What an accessor asks of its argument.
use Rattle.std.specs.Prelude.{ℕ, ◌<◌, ◌≤◌, ◌≡◌, true, List, length}
use Rattle.entity.specs.Logic.{has}
use Rattle.entity.specs.Place.{Place, reg, slot}
use Rattle.reginfo.specs.RegInfo.{RegInfo, num_banks, num_regs, num_classes, reg_units, class_members}
use Rattle.reginfo.specs.Table.{reg_info_of, IndexedAt}

pub record KnownReg (t : RegInfo) (r : ℕ) : Type 0 where
  pub is : r < num_regs t
  pub few : num_regs t ≤ 512

pub record KnownClass (t : RegInfo) (c : ℕ) : Type 0 where
  pub is : c < num_classes t
  pub few : num_classes t ≤ 64

pub record KnownBank (t : RegInfo) (b : ℕ) : Type 0 where
  pub is : b < num_banks t
  pub few : num_banks t ≤ 8

-- a register of at most eight units, each below 512
pub record KnownUnits (t : RegInfo) (r : ℕ) : Type 0 where
  pub known : KnownReg t r
  pub few : length (reg_units t r) ≤ 8
  pub low : (u : ℕ) → has u (reg_units t r) ≡ true → u < 512

-- such a register, or a slot whose unit has a number
abbrev pub KnownPlace : RegInfo → Place → Type 0
KnownPlace t (reg r) = KnownUnits t r
KnownPlace t (slot s) = s < 65024

-- a class whose members the index of the table points at
pub record KnownMembers (t : List ℕ) (c : ℕ) : Type 0 where
  pub known : KnownClass (reg_info_of t) c
  pub few : length (class_members (reg_info_of t) c) ≤ 512
  pub indexed : IndexedAt t c (length (class_members (reg_info_of t) c))
