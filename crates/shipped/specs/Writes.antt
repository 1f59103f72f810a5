-- The cells that the shipped target fills in a table, in order.
use Rattle.std.specs.Prelude.{ℕ, zero, suc, ◌+◌, ◌-◌, ◌*◌, ◌/◌, ◌%◌, List, [], ◌∷◌, ◌++◌, length, set}
use Rattle.shipped.specs.Shipped.{shipped_units}

pub record Write : Type 0 where
  pub cell : ℕ
  pub word : ℕ

abbrev pub to : ℕ → ℕ → Write
to i x = record { cell = i; word = x }

unfoldable pub written : List ℕ → List Write → List ℕ
written t [] = t
written t (w ∷ l) = written (set t w.cell w.word) l

-- the n numbers from x on, from cell i on
unfoldable pub rising : ℕ → ℕ → ℕ → List Write
rising i x zero = []
rising i x (suc n) = to i x ∷ rising (i + 1) (x + 1) n

-- the numbers of a list, from cell i on
unfoldable pub copied : ℕ → List ℕ → List Write
copied i [] = []
copied i (x ∷ l) = to i x ∷ copied (i + 1) l

-- register r: not memory, its bank by its unit count, its units
unfoldable pub reg_writes : ℕ → List Write
reg_writes r =
    to (r * 16) 0 ∷ to (1 + r * 16) (length (shipped_units r) / 2) ∷ to (2 + r * 16) (length (shipped_units r)) ∷ copied (8 + r * 16) (shipped_units r)

-- the n registers from r on
unfoldable pub regs_writes : ℕ → ℕ → List Write
regs_writes r zero = []
regs_writes r (suc n) = reg_writes r ++ regs_writes (r + 1) n

-- class c of the n registers from r on: its members, its order, and where each member stands
unfoldable pub class_writes : ℕ → ℕ → ℕ → List Write
class_writes c r n = to (8192 + c * 8) (c / 2) ∷ to (8193 + c * 8) (1 - c % 2) ∷ to (8194 + c * 8) n ∷ to (8195 + c * 8) n ∷ (rising (9216 + c * 512) r n ++ (rising (41984 + c * 512) r n ++ rising (74752 + c * 512 + r) 0 n))

-- bank b of the n registers from r on, and its classes
unfoldable pub bank_writes : ℕ → ℕ → ℕ → List Write
bank_writes b r n = to (8704 + b * 4) (2 + b) ∷ to (8705 + b * 4) (b * 2) ∷ to (8706 + b * 4) (b * 2 + 1) ∷ (class_writes (b * 2) r n ++ class_writes (b * 2 + 1) r n)

unfoldable pub shipped_writes : List Write
shipped_writes = to 8736 32 ∷ to 8737 3 ∷ to 8738 56 ∷ to 8739 6 ∷ (bank_writes 0 0 32 ++ (bank_writes 1 32 16 ++ (bank_writes 2 48 8 ++ regs_writes 0 56)))
