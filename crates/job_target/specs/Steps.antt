-- The reading of a target from each part on, what was read so far given, and what each part leaves of the table.
use Rattle.std.specs.Prelude.{ℕ, ◌+◌, ◌*◌, ◌<◌, ◌≤◌, ◌≡◌, Bool, true, false, List, [], eqb, leb, get_or}
use Rattle.entity.specs.Logic.{pick, and, no, any_in}
use Rattle.reginfo.specs.RegInfo.{Bank, Reg, RegInfo}
use Rattle.reginfo.specs.Table.{class_at}
use Rattle.number.specs.Read.{Read, got, then}
use Rattle.number.specs.Number.{number}
use Rattle.number.specs.declared.Number as N
use Rattle.reading.specs.Reading.{tested, between, times, distinct}
use Rattle.job_target.specs.Target.{Counted, reg, classes, unknown_class}
use Rattle.job_target.specs.Held.{bank_held}

-- ---- a class
unfoldable pub with_order : ℕ → ℕ → ℕ → ℕ → List ℕ → List ℕ → Read Counted
with_order regs total b slots members l =
    then (tested (λ m. leb (total + m) 4096) l)
    (λ m k. then (distinct m regs [] k)
    (λ order j. got (record { class = record { bank = b; slots = slots; members = members; order = order }; total = total + m }) j))

unfoldable pub with_members : ℕ → ℕ → ℕ → ℕ → List ℕ → Read Counted
with_members regs total b slots l = then (number l) (λ n p. then (distinct n regs [] p) (λ members o. with_order regs total b slots members o))

-- ---- a target
unfoldable pub with_classes : ℕ → ℕ → List Bank → ℕ → List Reg → List ℕ → Read RegInfo
with_classes units n banks m regs l =
    then (tested (λ c. and (and (leb 1 c) (leb c 64)) (no (any_in (unknown_class c) banks))) l)
    (λ c j. then (classes c n m 0 j)
    (λ cs i. got (record { units = units; banks = banks; regs = regs; classes = cs }) i))

unfoldable pub with_regs : ℕ → ℕ → List Bank → List ℕ → Read RegInfo
with_regs units n banks l = then (between 1 512 l) (λ m o. then (times m (reg units n) o) (λ regs k. with_classes units n banks m regs k))

unfoldable pub with_banks : ℕ → List ℕ → Read RegInfo
with_banks units l = then (between 1 8 l) (λ n q. then (times n bank_held q) (λ banks p. with_regs units n banks p))

-- ---- the table
-- one cell is written
pub record Put (t t' : List ℕ) (at x : ℕ) : Type 0 where
  pub here : get_or t' at 0 ≡ x
  pub other : (k : ℕ) → (k ≡ at → ⊥) → get_or t' k 0 ≡ get_or t k 0

-- no cell outside the n from `low` on is written
pub record Keeps (t t' : List ℕ) (low n : ℕ) : Type 0 where
  pub before : (k : ℕ) → k < low → get_or t' k 0 ≡ get_or t k 0
  pub after : (k : ℕ) → low + n ≤ k → get_or t' k 0 ≡ get_or t k 0

-- the numbers that a table of flags holds
unfoldable pub seen_in : List Bool → ℕ → Bool
seen_in l x = get_or l x false

-- a new number of a list
abbrev pub NewIn : ℕ → (ℕ → Bool) → (ℕ → Bool) → N.Number → Type 0
NewIn limit seen seen' (N.TheVariants.Is x next) = (x < limit) × (seen x ≡ false) × ((y : ℕ) → seen' y ≡ pick (eqb y x) true (seen y))
NewIn limit seen seen' (N.TheVariants.Refused k) = Unit

-- a list of n, not more than there are flags
pub record ListKept (t t' : List ℕ) (start n : ℕ) : Type 0 where
  pub few : n ≤ 512
  pub keeps : Keeps t t' start n

-- register r, of few units
pub record RegKept (t t' : List ℕ) (r : ℕ) : Type 0 where
  pub few : get_or t' (2 + r * 16) 0 ≤ 8
  pub keeps : Keeps t t' (r * 16) 16

abbrev pub FewUnits : List ℕ → ℕ → Type 0
FewUnits t n = (r : ℕ) → r < n → get_or t (2 + r * 16) 0 ≤ 8

-- the registers
pub record RegsKept (t t' : List ℕ) (n : ℕ) : Type 0 where
  pub few : FewUnits t' n
  pub keeps : Keeps t t' 0 8192

-- the cells of the classes before c, and all that are not a class's
pub record Earlier (t t' : List ℕ) (c : ℕ) : Type 0 where
  pub heads : (k : ℕ) → k < 8192 + c * 8 → get_or t' k 0 ≡ get_or t k 0
  pub counts : (k : ℕ) → 8704 ≤ k → k < 9216 + c * 512 → get_or t' k 0 ≡ get_or t k 0
  pub orders : (k : ℕ) → 41984 ≤ k → k < 41984 + c * 512 → get_or t' k 0 ≡ get_or t k 0

-- class c, with short lists
pub record ClassKept (t t' : List ℕ) (c total : ℕ) : Type 0 where
  pub members : get_or t' (8194 + c * 8) 0 ≤ 512
  pub order : get_or t' (8195 + c * 8) 0 ≤ 512
  pub sum : total + get_or t' (8195 + c * 8) 0 ≤ 4096
  pub earlier : Earlier t t' c

unfoldable pub counted_at : List ℕ → ℕ → ℕ → Counted
counted_at t c total = record { class = class_at t c; total = total + get_or t (8195 + c * 8) 0 }
