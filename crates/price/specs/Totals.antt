-- 02 e: "The total added from the first edit equals that added from the last and that added bank by bank (M and R by the value's bank, S and L
-- by the register's)."
use Rattle.std.specs.Prelude.{ℕ, zero, suc, ◌+◌, ◌≡◌, List, [], ◌∷◌, reverse, map, eqb}
use Rattle.entity.specs.Logic.{pick}
use Rattle.reginfo.specs.RegInfo.{RegInfo, num_banks, bank_for_reg}
use Rattle.reginfo.specs.Refused as target
use Rattle.function.specs.Function.{Function, value_bank}
use Rattle.function.specs.Refused as function
use Rattle.rules.specs.Edit.{Edit, Move, Rematerialize, EmergencySpill, EmergencyReload}
use Rattle.edit.specs.Word.{word_of}
use Rattle.price.specs.declared.Prices.{Prices}
use Rattle.price.specs.Price.{price_of, total_of}

-- "M and R by the value's bank, S and L by the register's"
abbrev pub bank_of : RegInfo → Function → Edit → ℕ
bank_of t f (Move to from v) = value_bank f v
bank_of t f (Rematerialize to v) = value_bank f v
bank_of t f (EmergencySpill s r) = bank_for_reg t r
bank_of t f (EmergencyReload r s) = bank_for_reg t r

-- to what was added before, from the first on
unfoldable pub added : {A : Type 0} → (A → ℕ) → ℕ → List A → ℕ
added price a [] = a
added price a (x ∷ l) = added price (a + price x) l

abbrev pub from_first : {A : Type 0} → (A → ℕ) → List A → ℕ
from_first price l = added price 0 l

abbrev pub from_last : {A : Type 0} → (A → ℕ) → List A → ℕ
from_last price l = added price 0 (reverse l)

-- those of one bank, in their order
unfoldable pub in_bank : {A : Type 0} → (A → ℕ) → ℕ → List A → List A
in_bank bank b [] = []
in_bank bank b (x ∷ l) = pick (eqb (bank x) b) (x ∷ in_bank bank b l) (in_bank bank b l)

-- of the banks below a number
unfoldable pub by_bank : {A : Type 0} → (price bank : A → ℕ) → ℕ → List A → ℕ
by_bank price bank zero l = 0
by_bank price bank (suc b) l = by_bank price bank b l + from_first price (in_bank bank b l)

-- the three sums are one, with so many banks
abbrev pub SameTotals : {A : Type 0} → (price bank : A → ℕ) → ℕ → List A → Type 0
SameTotals price bank n l = (from_first price l ≡ from_last price l) × (from_first price l ≡ by_bank price bank n l)

-- of every list of edits: one with a value or register that there is not counts in bank 0, and a target has a bank
abbrev pub Totals : Type 0
Totals =
    (t : RegInfo) (f : Function) → target.Accepted t → function.Accepted t f → (p : Prices) (es : List Edit)
    → SameTotals (price_of p) (bank_of t f) (num_banks t) es

-- words cost what edits cost
abbrev pub CostAs : Prices → List ℕ → List Edit → Type 0
CostAs p ws es = total_of p ws ≡ from_first (price_of p) es

-- what the words of edits cost is what the edits cost
abbrev pub WordsCost : Type 0
WordsCost = (p : Prices) (es : List Edit) → CostAs p (map word_of es) es
