-- What 01's trial patches cost, by computation, and whose bank an edit counts in: `Totals` holds of any banks.
use Rattle.std.specs.Prelude.{ℕ, ◌*◌, ◌≡◌, true, false, List, [], ◌∷◌, map, replicate}
use Rattle.entity.specs.Place.{reg, slot}
use Rattle.reginfo.specs.RegInfo.{RegInfo}
use Rattle.function.specs.Function.{Function}
use Rattle.rules.specs.Edit.{Edit, Move, Rematerialize, EmergencySpill, EmergencyReload}
use Rattle.edit.specs.Word.{word_of}
use Rattle.price.specs.declared.Prices.{Prices}
use Rattle.price.specs.Price.{in_range, price_of, price_in, total_of}
use Rattle.price.specs.Totals.{bank_of, from_first, in_bank, SameTotals, CostAs}

abbrev pub prices : ℕ → ℕ → ℕ → ℕ → Prices
prices m r s l = record { moves = m; remats = r; spills = s; reloads = l }

abbrev pub cost : List Edit → ℕ
cost es = total_of (prices 4 6 16 12) (map word_of es)

-- register 0 and value 0 are of bank 0, register 1 and value 1 of bank 1
abbrev pub two_banks : RegInfo
two_banks =
    record {
      units = 2;
      banks = record { size = 3; top = 0; stack = 1 } ∷ record { size = 3; top = 2; stack = 3 } ∷ [];
      regs = record { memory = 0; bank = 0; units = 0 ∷ [] } ∷ record { memory = 0; bank = 1; units = 1 ∷ [] } ∷ [];
      classes = [];
    }

abbrev pub two_values : Function
two_values =
    record { values = record { bank = 0; cost = 0; class = 0 } ∷ record { bank = 1; cost = 0; class = 0 } ∷ []; slots = 1; limit = 1; kept = 1 }

-- M of a value of bank 1 out of a register of bank 0, S of a register of bank 0, R of a value of bank 0 into a register of bank 1, L of a register of bank 1
abbrev pub one_each : List Edit
one_each = Move (slot 0) (reg 0) 1 ∷ EmergencySpill 1 0 ∷ Rematerialize (reg 1) 0 ∷ EmergencyReload 1 1 ∷ []

-- M of a value of bank 0 out of a register of bank 1, S of a register of bank 1, R of a value of bank 1 into a register of bank 0, L of a register of bank 0
abbrev pub other_each : List Edit
other_each = Move (slot 0) (reg 1) 0 ∷ EmergencySpill 1 1 ∷ Rematerialize (reg 0) 1 ∷ EmergencyReload 0 1 ∷ []

-- by these each edit's price tells its kind
abbrev pub apart : Edit → ℕ
apart = price_of (prices 1 10 100 1000)

abbrev pub of_bank : ℕ → List Edit → ℕ
of_bank b es = from_first apart (in_bank (bank_of two_banks two_values) b es)

pub record Trials : Type 0 where
  pub swap-full : cost (Move (slot 0) (reg 1) 1 ∷ Move (reg 1) (reg 0) 0 ∷ Move (reg 0) (slot 0) 1 ∷ []) ≡ 12
  pub swap-often : 67108863 * 12 ≡ 805306356
  pub slots-swapped :
      cost (EmergencySpill 3 2 ∷ Move (reg 2) (slot 1) 1 ∷ Move (slot 2) (reg 2) 1 ∷ Move (reg 2) (slot 0) 0 ∷ Move (slot 1) (reg 2) 0
      ∷ Move (reg 2) (slot 2) 1 ∷ Move (slot 0) (reg 2) 1 ∷ EmergencyReload 2 3 ∷ [])
      ≡ 52
  pub rebuild : cost (EmergencySpill 1 2 ∷ Rematerialize (reg 2) 0 ∷ Move (slot 0) (reg 2) 0 ∷ EmergencyReload 2 1 ∷ []) ≡ 38
  pub no-edits : cost [] ≡ 0
  -- kinds 0, 5, 6 and 7 cost nothing; a word of kind 3 that saves a slot is no edit, yet costs an S
  pub other-kinds : total_of (prices 4 6 16 12) (0 ∷ 5 ∷ 6 ∷ 7 ∷ 8 ∷ 262147 ∷ []) ≡ 16
  pub in-range : in_range (prices 65535 65535 65535 65535) ≡ true
  pub moves-over : in_range (prices 65536 0 0 0) ≡ false
  pub rebuilds-over : in_range (prices 0 65536 0 0) ≡ false
  pub saves-over : in_range (prices 0 0 65536 0) ≡ false
  pub reloads-over : in_range (prices 0 0 0 65536) ≡ false
  -- the dearest patch, most often run
  pub dearest : total_of (prices 65535 0 0 0) (replicate 1024 1) ≡ 67107840
  pub most : 67108863 * 67107840 ≡ 4503530840785920
  -- "M and R by the value's bank, S and L by the register's", each kind in either bank: R and S; M and L
  pub bank-0 : of_bank 0 one_each ≡ 110
  pub bank-1 : of_bank 1 one_each ≡ 1001
  pub other-bank-0 : of_bank 0 other_each ≡ 1001
  pub other-bank-1 : of_bank 1 other_each ≡ 110
  -- each kind at its own price, of an edit and of its word
  pub by_kind : map apart one_each ≡ 1 ∷ 100 ∷ 10 ∷ 1000 ∷ []
  pub by_word : map (price_in (prices 1 10 100 1000)) (map word_of one_each) ≡ 1 ∷ 100 ∷ 10 ∷ 1000 ∷ []
  -- what `Totals` shuts out: the banks but the last, and an edit that counts in no bank there is
  pub not-all-banks : SameTotals apart (bank_of two_banks two_values) 1 one_each → ⊥
  pub in-no-bank : SameTotals apart (λ e. 2) 2 one_each → ⊥
  -- and `WordsCost`: another list's words
  pub other-words : CostAs (prices 1 10 100 1000) (map word_of (EmergencySpill 1 0 ∷ [])) (EmergencyReload 0 1 ∷ []) → ⊥
