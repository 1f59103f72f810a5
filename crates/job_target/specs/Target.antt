-- 01, The job: how a target is read from bytes.
use Rattle.std.specs.Prelude.{ℕ, zero, suc, ◌+◌, Bool, List, [], ◌∷◌, leb}
use Rattle.entity.specs.Logic.{and, or, no, any_in}
use Rattle.reginfo.specs.RegInfo.{Bank, Reg, Class, RegInfo}
use Rattle.number.specs.Read.{Read, got, then}
use Rattle.number.specs.Number.{number}
use Rattle.reading.specs.Reading.{tested, below, between, times, distinct}

-- "banks, each size, top class, stack class": the class numbers are tested when the class count is read
unfoldable pub bank : List ℕ → Read Bank
bank l = then (between 0 31 l) (λ size r. then (number r) (λ top q. then (number q) (λ stack p. got (record { size = size; top = top; stack = stack }) p)))

-- "registers, each memory 0/1, bank, unit count, units"
unfoldable pub reg : ℕ → ℕ → List ℕ → Read Reg
reg units banks l =
    then (below 2 l) (λ memory r. then (below banks r) (λ b q. then (between 1 8 q) (λ n p. then (distinct n units [] p) (λ us o. got (record { memory = memory; bank = b; units = us }) o))))

-- a class, and how many order entries there are now
pub record Counted : Type 0 where
  pub class : Class
  pub total : ℕ

-- "classes, each bank, slots 0/1, member count, members, order count, order"; "the total of order entries with the count that raises it"
unfoldable pub class : ℕ → ℕ → ℕ → List ℕ → Read Counted
class banks regs total l =
    then (below banks l)
    (λ b r. then (below 2 r)
    (λ slots q. then (number q)
    (λ n p. then (distinct n regs [] p)
    (λ members o. then (tested (λ m. leb (total + m) 4096) o)
    (λ m k. then (distinct m regs [] k)
    (λ order j. got (record { class = record { bank = b; slots = slots; members = members; order = order }; total = total + m }) j))))))

unfoldable pub classes : ℕ → ℕ → ℕ → ℕ → List ℕ → Read (List Class)
classes zero banks regs total l = got [] l
classes (suc n) banks regs total l = then (class banks regs total l) (λ c r. then (classes n banks regs c.total r) (λ cs q. got (c.class ∷ cs) q))

-- 2: a bank's class that there is not
abbrev pub unknown_class : ℕ → Bank → Bool
unknown_class n b = or (leb n b.top) (leb n b.stack)

unfoldable pub target : List ℕ → Read RegInfo
target l =
    then (between 1 512 l)
    (λ units r. then (between 1 8 r)
    (λ n q. then (times n bank q)
    (λ banks p. then (between 1 512 p)
    (λ m o. then (times m (reg units n) o)
    (λ regs k. then (tested (λ c. and (and (leb 1 c) (leb c 64)) (no (any_in (unknown_class c) banks))) k)
    (λ c j. then (classes c n m 0 j)
    (λ cs i. got (record { units = units; banks = banks; regs = regs; classes = cs }) i)))))))
