-- Targets read from bytes: that of 01's job swap-full, and each refusal.
use Rattle.std.specs.Prelude.{ℕ, ◌≡◌, List, [], ◌∷◌, ◌++◌}
use Rattle.reginfo.specs.RegInfo.{Reg, Class, RegInfo}
use Rattle.number.specs.Read.{got, refused}
use Rattle.job_target.specs.Target.{target}

-- "3 1 3 0 1 3 0 0 1 0 0 0 1 1 0 0 1 2 2 0 1 3 0 1 2 3 0 1 2 0 0 3 0 1 2 3 0 1 2"
abbrev pub single : ℕ → Reg
single u = record { memory = 0; bank = 0; units = u ∷ [] }

abbrev pub all : ℕ → Class
all slots = record { bank = 0; slots = slots; members = 0 ∷ 1 ∷ 2 ∷ []; order = 0 ∷ 1 ∷ 2 ∷ [] }

abbrev pub swap_full : RegInfo
swap_full = record { units = 3; banks = record { size = 3; top = 0; stack = 1 } ∷ []; regs = single 0 ∷ single 1 ∷ single 2 ∷ []; classes = all 1 ∷ all 0 ∷ [] }

-- to the class count, to the members of the first class, and all
abbrev pub regs_given : List ℕ
regs_given = 3 ∷ 1 ∷ 3 ∷ 0 ∷ 1 ∷ 3 ∷ 0 ∷ 0 ∷ 1 ∷ 0 ∷ 0 ∷ 0 ∷ 1 ∷ 1 ∷ 0 ∷ 0 ∷ 1 ∷ 2 ∷ []

abbrev pub members_given : List ℕ
members_given = regs_given ++ (2 ∷ 0 ∷ 1 ∷ 3 ∷ 0 ∷ 1 ∷ 2 ∷ [])

abbrev pub swap_given : List ℕ
swap_given = members_given ++ (3 ∷ 0 ∷ 1 ∷ 2 ∷ 0 ∷ 0 ∷ 3 ∷ 0 ∷ 1 ∷ 2 ∷ 3 ∷ 0 ∷ 1 ∷ 2 ∷ [])

pub record Trials : Type 0 where
  pub swap-full : target (swap_given ++ (2 ∷ 0 ∷ [])) ≡ got swap_full (2 ∷ 0 ∷ [])
  pub nothing : target [] ≡ refused 1
  pub no-units : target (0 ∷ []) ≡ refused 2
  pub units-513 : target (129 ∷ 4 ∷ []) ≡ refused 2
  pub banks-9 : target (3 ∷ 9 ∷ []) ≡ refused 2
  pub size_32 : target (3 ∷ 1 ∷ 32 ∷ []) ≡ refused 2
  -- a class number is only read where the bank stands
  pub class-cut-off : target (3 ∷ 1 ∷ 3 ∷ 0 ∷ 128 ∷ []) ≡ refused 1
  pub unknown-class : target (3 ∷ 1 ∷ 3 ∷ 0 ∷ 2 ∷ 1 ∷ 0 ∷ 0 ∷ 1 ∷ 0 ∷ 2 ∷ []) ≡ refused 2
  pub great-class : target (3 ∷ 1 ∷ 3 ∷ 128 ∷ 128 ∷ 4 ∷ 1 ∷ 1 ∷ 0 ∷ 0 ∷ 1 ∷ 0 ∷ 2 ∷ []) ≡ refused 2
  pub memory-2 : target (3 ∷ 1 ∷ 3 ∷ 0 ∷ 1 ∷ 1 ∷ 2 ∷ []) ≡ refused 2
  pub foreign-bank : target (3 ∷ 1 ∷ 3 ∷ 0 ∷ 1 ∷ 1 ∷ 0 ∷ 1 ∷ []) ≡ refused 2
  pub units-none : target (3 ∷ 1 ∷ 3 ∷ 0 ∷ 1 ∷ 1 ∷ 0 ∷ 0 ∷ 0 ∷ []) ≡ refused 2
  pub unit-twice : target (3 ∷ 1 ∷ 3 ∷ 0 ∷ 1 ∷ 1 ∷ 0 ∷ 0 ∷ 2 ∷ 1 ∷ 1 ∷ []) ≡ refused 3
  pub unit-3 : target (3 ∷ 1 ∷ 3 ∷ 0 ∷ 1 ∷ 1 ∷ 0 ∷ 0 ∷ 2 ∷ 1 ∷ 3 ∷ []) ≡ refused 2
  pub classes-65 : target (regs_given ++ (65 ∷ [])) ≡ refused 2
  pub member-twice : target (regs_given ++ (2 ∷ 0 ∷ 1 ∷ 3 ∷ 0 ∷ 1 ∷ 0 ∷ [])) ≡ refused 3
  -- a count of members is not tested itself
  pub members-many : target (regs_given ++ (2 ∷ 0 ∷ 1 ∷ 100 ∷ 0 ∷ 1 ∷ 2 ∷ [])) ≡ refused 1
  pub order-twice : target (members_given ++ (2 ∷ 1 ∷ 1 ∷ [])) ≡ refused 3
  pub order-4097 : target (members_given ++ (129 ∷ 32 ∷ [])) ≡ refused 2
  pub order-4096 : target (members_given ++ (128 ∷ 32 ∷ [])) ≡ refused 1
  -- the first class's three entries and the second's come to 4,097
  pub orders-4097 : target (members_given ++ (3 ∷ 0 ∷ 1 ∷ 2 ∷ 0 ∷ 0 ∷ 0 ∷ 254 ∷ 31 ∷ [])) ≡ refused 2
