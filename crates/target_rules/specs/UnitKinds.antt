-- 6: a table of a kind for each unit: 0 where no register so far lists it, 1 where one that isn't memory does, 2 where a memory register does.
use Rattle.std.specs.Prelude.{ℕ, ◌<◌, ◌≡◌, true, List, get_or}
use Rattle.entity.specs.Logic.{pick, has}
use Rattle.reginfo.specs.RegInfo.{RegInfo, num_regs, reg_units, is_memory_reg}

abbrev pub kind_of : RegInfo → ℕ → ℕ
kind_of t r = pick (is_memory_reg t r) 2 1

-- unit u has the kind now, and had it or none before; the others are as they were
pub record NotedAt (old new : List ℕ) (u kind : ℕ) : Type 0 where
  pub is : get_or new u 0 ≡ kind
  pub was : (get_or old u 0 ≡ 0 → ⊥) → get_or old u 0 ≡ kind
  pub others : (v : ℕ) → (v ≡ u → ⊥) → get_or new v 0 ≡ get_or old v 0

-- unit u has another kind
pub record Differs (kinds : List ℕ) (u kind : ℕ) : Type 0 where
  pub some : get_or kinds u 0 ≡ 0 → ⊥
  pub other : get_or kinds u 0 ≡ kind → ⊥

-- a register of the kind lists unit u
pub record Lister (t : RegInfo) (u kind : ℕ) : Type 0 where
  pub reg : ℕ
  pub known : reg < num_regs t
  pub lists : has u (reg_units t reg) ≡ true
  pub same : kind ≡ kind_of t reg

-- the units of the first n registers have those registers' kinds, and a kind is that of a register that lists the unit
pub record Noted (t : RegInfo) (n : ℕ) (kinds : List ℕ) : Type 0 where
  pub seen : (r u : ℕ) → r < n → has u (reg_units t r) ≡ true → get_or kinds u 0 ≡ kind_of t r
  pub listed : (u : ℕ) → (get_or kinds u 0 ≡ 0 → ⊥) → Lister t u (get_or kinds u 0)
