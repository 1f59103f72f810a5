-- What a check of a target answers, and what it leaves of the table.
use Rattle.std.specs.Prelude.{ℕ, ◌<◌, ◌≡◌, Bool, List, get_or, Result, Ok, Err, ⊤}
use Rattle.std.proofs.Math.Option.{Option, none, some}
use Rattle.entity.specs.Logic.{or, twice}
use Rattle.reginfo.specs.RegInfo.{RegInfo, class_members, allocation_order}
use Rattle.target_check.specs.declared.TargetError.{TargetError}
use Rattle.target_check.specs.declared.TargetError.TheVariants.{OutsideLimits, ListedTwice, UnequalWidths, ForeignMember, SharedMemory, UnfitClass}

-- the number of the rule that is broken
abbrev pub rule_of : TargetError → ℕ
rule_of OutsideLimits = 2
rule_of ListedTwice = 3
rule_of UnequalWidths = 4
rule_of ForeignMember = 5
rule_of SharedMemory = 6
rule_of UnfitClass = 7

-- the number with which the target is refused
abbrev pub number_of : Result ⊤ TargetError → Option ℕ
number_of (Ok _) = none
number_of (Err e) = some (rule_of e)

-- every cell of u below n is as in t
abbrev pub SameBelow : ℕ → List ℕ → List ℕ → Type 0
SameBelow n t u = (i : ℕ) → i < n → get_or u i 0 ≡ get_or t i 0

-- 3: a class's members or its order list a register twice
abbrev pub twice_in : RegInfo → ℕ → Bool
twice_in t c = or (twice (class_members t c)) (twice (allocation_order t c))
