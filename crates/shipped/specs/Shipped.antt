-- 01, The target: the shipped target, by its words.
use Rattle.std.specs.Prelude.{ℕ, ◌+◌, ◌-◌, ◌*◌, ◌/◌, ◌%◌, List, [], ◌∷◌, map, eqb, ltb}
use Rattle.entity.specs.Logic.{pick, indices}
use Rattle.reginfo.specs.RegInfo.{Bank, Reg, Class, RegInfo}

-- "register i has unit i"; "32 + j has 2j, 2j + 1"; "48 + k has 4k to 4k + 3"
unfoldable pub shipped_units : ℕ → List ℕ
shipped_units r = pick (ltb r 32) (r ∷ []) (pick (ltb r 48) (indices ((r - 32) * 2) 2) (indices ((r - 48) * 4) 4))

-- "for each of 32 units its three registers"
unfoldable pub shipped_row : ℕ → List ℕ
shipped_row u = u ∷ (32 + u / 2) ∷ (48 + u / 4) ∷ []

-- "Its banks, by unit count": 32 registers of one unit, 16 of two, 8 of four
unfoldable pub bank_of : ℕ → ℕ
bank_of r = pick (ltb r 32) 0 (pick (ltb r 48) 1 2)

unfoldable pub bank_regs : ℕ → List ℕ
bank_regs b = pick (eqb b 0) (indices 0 32) (pick (eqb b 1) (indices 32 16) (indices 48 8))

-- "have size log2 2, 3 and 4; each has a class with slots and a stack class (2b and 2b + 1 for bank b)"
unfoldable pub shipped_bank : ℕ → Bank
shipped_bank b = record { size = 2 + b; top = b * 2; stack = b * 2 + 1 }

-- "none is memory"
unfoldable pub shipped_reg : ℕ → Reg
shipped_reg r = record { memory = 0; bank = bank_of r; units = shipped_units r }

-- "both of all its registers, rising"
unfoldable pub shipped_class : ℕ → Class
shipped_class c = record { bank = c / 2; slots = 1 - c % 2; members = bank_regs (c / 2); order = bank_regs (c / 2) }

unfoldable pub shipped : RegInfo
shipped = record { units = 32; banks = map shipped_bank (indices 0 3); regs = map shipped_reg (indices 0 56); classes = map shipped_class (indices 0 6) }
