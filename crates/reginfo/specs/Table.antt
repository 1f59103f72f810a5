-- The target as one table of numbers at fixed strides.
--   register r at 16 r: memory, bank, unit count; its units from 16 r + 8
--   class c at 8192 + 8 c: bank, slots, member count, order count
--   bank b at 8704 + 4 b: size, top-level class, stack class
--   8736: the counts of units, banks, registers and classes
--   9216 + 512 c: the members of class c; 41984 + 512 c: its order
--   74752 + 512 c + r: where r stands among the members of class c, if it is one; any number if not
use Rattle.std.specs.Prelude.{ℕ, ◌+◌, ◌*◌, ◌<◌, ◌≡◌, List, map, get_or}
use Rattle.entity.specs.Logic.{indices, cells}
use Rattle.reginfo.specs.RegInfo.{Bank, Reg, Class, RegInfo}

unfoldable pub bank_at : List ℕ → ℕ → Bank
bank_at t b = record { size = get_or t (8704 + b * 4) 0; top = get_or t (8705 + b * 4) 0; stack = get_or t (8706 + b * 4) 0 }

unfoldable pub reg_at : List ℕ → ℕ → Reg
reg_at t r = record { memory = get_or t (r * 16) 0; bank = get_or t (1 + r * 16) 0; units = cells t (8 + r * 16) (get_or t (2 + r * 16) 0) }

unfoldable pub class_at : List ℕ → ℕ → Class
class_at t c = record { bank = get_or t (8192 + c * 8) 0; slots = get_or t (8193 + c * 8) 0; members = cells t (9216 + c * 512) (get_or t (8194 + c * 8) 0); order = cells t (41984 + c * 512) (get_or t (8195 + c * 8) 0) }

unfoldable pub reg_info_of : List ℕ → RegInfo
reg_info_of t = record { units = get_or t 8736 0; banks = map (bank_at t) (indices 0 (get_or t 8737 0)); regs = map (reg_at t) (indices 0 (get_or t 8738 0)); classes = map (class_at t) (indices 0 (get_or t 8739 0)) }

-- the index points at each member
abbrev pub IndexedAt : List ℕ → ℕ → ℕ → Type 0
IndexedAt t c n = (p : ℕ) → p < n → get_or t (74752 + c * 512 + get_or t (9216 + c * 512 + p) 0) 0 ≡ p

abbrev pub Indexed : List ℕ → Type 0
Indexed t = (c : ℕ) → c < get_or t 8739 0 → IndexedAt t c (get_or t (8194 + c * 8) 0)
