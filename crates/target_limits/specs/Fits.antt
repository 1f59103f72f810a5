-- What the limits say of a list of registers.
use Rattle.std.specs.Prelude.{ℕ, Bool, List, length, leb}
use Rattle.entity.specs.Logic.{and}
use Rattle.reginfo.specs.RegInfo.{RegInfo, num_regs}
use Rattle.reginfo.specs.Refused.{all_below}

-- at most 512 of the target's registers
abbrev pub list_fits : RegInfo → List ℕ → Bool
list_fits t l = and (leb (length l) 512) (all_below (num_regs t) l)
