-- 01, Scratch keeper: "the first register of its order whose units are all available (none of them a source unit of a kept move, if asked
-- for a cycle)", on lent sets of units.
use Rattle.std.specs.Prelude.{ℕ, ◌≡◌, Bool, List, [], length, Some, None}
use Rattle.std.proofs.Math.Option.{Option, none, some}
use Rattle.entity.specs.Logic.{and, or, no, all_in, has}
use Rattle.entity.specs.Place.{Place, reg, slot}
use Rattle.reginfo.specs.RegInfo.{RegInfo, reg_units}
use Rattle.small_set.specs.Set.{set_of}
use Rattle.rules.specs.Edit.{find, first_at}
use Rattle.std.specs.Prelude as std
use Rattle.entity.specs.declared.PhysReg.{PhysReg}

-- what the search answers
abbrev pub Search : Type 0
Search = std.Option (PhysReg × ℕ)

abbrev pub search_of : Search → Option ℕ
search_of (Some (r, i)) = some r.0
search_of None = none

-- 02 d: "the position in the order, counted from 0, [..] or the order's length", which is n
abbrev pub position_in : ℕ → Search → ℕ
position_in n (Some (r, i)) = i
position_in n None = n

-- the first of an order that passes a test, and where it stands
pub record Searched (p : ℕ → Bool) (order : List ℕ) (s : Search) : Type 0 where
  pub is : search_of s ≡ find p order
  pub position : position_in (length order) s ≡ first_at p order

-- source units of kept moves, if asked for a cycle
abbrev pub barred_by : Bool → List Bool → ℕ → Bool
barred_by cycle sources u = and cycle (set_of sources u)

-- all units of a register are available, and none is barred
abbrev pub usable_in : RegInfo → List Bool → List Bool → Bool → ℕ → Bool
usable_in t available sources cycle r = all_in (λ u. and (set_of available u) (no (barred_by cycle sources u))) (reg_units t r)

-- the register units of a place; a slot has none
abbrev pub units_of : RegInfo → Place → List ℕ
units_of t (reg r) = reg_units t r
units_of t (slot s) = []

-- a place's units put into the set, or taken out of it
abbrev pub with_units : RegInfo → Place → (ℕ → Bool) → ℕ → Bool
with_units t p s u = or (has u (units_of t p)) (s u)

abbrev pub without_units : RegInfo → Place → (ℕ → Bool) → ℕ → Bool
without_units t p s u = and (s u) (no (has u (units_of t p)))
