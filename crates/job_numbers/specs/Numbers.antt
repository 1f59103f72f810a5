-- 02 a: "checked target, function and patches in, job bytes out, in shortest numbers": a job as data, as the numbers that stand for it in 01's
-- order, and as the bytes of these.
use Rattle.std.specs.Prelude.{ℕ, zero, suc, List, [], ◌∷◌, ◌++◌, eqb, ltb, length}
use Rattle.std.proofs.Math.Option.{Option, none, some}
use Rattle.entity.specs.Logic.{pick}
use Rattle.entity.specs.Place.{code_of}
use Rattle.reginfo.specs.RegInfo.{Bank, Reg, Class, RegInfo}
use Rattle.reginfo.specs.Refused.{first_of}
use Rattle.function.specs.Function.{ValueData, Function}
use Rattle.rules.specs.Patch.{Entry, move, remat, Patch, sorted, patch_conditions}
use Rattle.number.specs.Read.{Read, got, refused, then}
use Rattle.number.specs.Number.{encoded}
use Rattle.job_patch.specs.Patches.{unless_given, patch}
use Rattle.job_rules.specs.Job.{opening}

-- "checked target, function and patches"
pub record Job : Type 0 where
  pub target : RegInfo
  pub function : Function
  pub patches : List Patch

-- ---- the numbers of a job, in 01's order: each count is the length of its list
abbrev pub counted : List ℕ → List ℕ
counted l = length l ∷ l

-- the numbers of one after those of another
unfoldable pub each_of : {A : Type 0} → (A → List ℕ) → List A → List ℕ
each_of numbers [] = []
each_of numbers (x ∷ l) = numbers x ++ each_of numbers l

-- "banks, each size, top class, stack class"
abbrev pub bank_numbers : Bank → List ℕ
bank_numbers b = b.size ∷ b.top ∷ b.stack ∷ []

-- "registers, each memory 0/1, bank, unit count, units"
abbrev pub reg_numbers : Reg → List ℕ
reg_numbers r = r.memory ∷ r.bank ∷ counted r.units

-- "classes, each bank, slots 0/1, member count, members, order count, order"
abbrev pub class_numbers : Class → List ℕ
class_numbers c = c.bank ∷ c.slots ∷ (counted c.members ++ counted c.order)

-- "target: units; banks ..; registers ..; classes .."
unfoldable pub target_numbers : RegInfo → List ℕ
target_numbers t =
    t.units
    ∷ length t.banks
    ∷ (each_of bank_numbers t.banks ++ (length t.regs
    ∷ (each_of reg_numbers t.regs ++ (length t.classes
    ∷ each_of class_numbers t.classes))))

-- "each value bank, rebuild 0 none, 1 `CheaperThanMove`, 2 `CheaperThanLoad`, and a class unless 0"
abbrev pub value_numbers : ValueData → List ℕ
value_numbers v = v.bank ∷ v.cost ∷ pick (eqb v.cost 0) [] (v.class ∷ [])

-- "function: values, N, L; each value .."
unfoldable pub function_numbers : Function → List ℕ
function_numbers f = length f.values ∷ f.slots ∷ f.limit ∷ each_of value_numbers f.values

-- "0 source destination value, or 1 destination value"
abbrev pub entry_numbers : Entry → List ℕ
entry_numbers (move s d v) = 0 ∷ code_of s ∷ code_of d ∷ v ∷ []
entry_numbers (remat d v) = 1 ∷ code_of d ∷ v ∷ []

-- "each: free count, free units rising, entry count, entries"
abbrev pub patch_numbers : Patch → List ℕ
patch_numbers p = counted p.free ++ (length p.entries ∷ each_of entry_numbers p.entries)

-- "patch count 1 to 1,024", and the patches
unfoldable pub patches_numbers : List Patch → List ℕ
patches_numbers ps = length ps ∷ each_of patch_numbers ps

unfoldable pub job_numbers : Job → List ℕ
job_numbers j = target_numbers j.target ++ (function_numbers j.function ++ patches_numbers j.patches)

-- "in shortest numbers"
unfoldable pub bytes_of : List ℕ → List ℕ
bytes_of ns = each_of encoded ns

-- ---- reading alone, to the job's end: "16 and 17 belong to resolving"
-- every test that a patch has before it is resolved; the lent list has room for every patch, so 16 is not given
unfoldable pub read_patches : RegInfo → Function → ℕ → List ℕ → Read (List Patch)
read_patches t f zero [] = got [] []
read_patches t f zero (b ∷ l) = refused 8
read_patches t f (suc n) l =
    then (patch t f l)
    (λ p r. unless_given (first_of (patch_conditions t f p 1024 (sorted t f p)))
    (then (read_patches t f n r) (λ ps q. got (p ∷ ps) q)))

-- a setting, prices and shares are given beside a job and are no part of it: it is read with one kept eviction
unfoldable pub read_job : List ℕ → Read Job
read_job l =
    then (opening 1 l)
    (λ h r. then (read_patches h.target h.function h.patches r)
    (λ ps q. got (record { target = h.target; function = h.function; patches = ps }) q))

abbrev pub number_of : {A : Type 0} → Read A → Option ℕ
number_of (got x r) = none
number_of (refused k) = some k

-- ---- writing, into `room` lent bytes
pub data Written : Type 0 where
  wrote : List ℕ → Written
  not_written : ℕ → Written

abbrev pub unless_number : Option ℕ → Written → Written
unless_number none w = w
unless_number (some k) w = not_written k

-- "A job the reader would refuse, its length included, gets the reader's number"; "18, the lent bytes are fewer than the job needs, tested
-- after those and before anything is written"
unfoldable pub written : List ℕ → (room : ℕ) → Written
written ns room = unless_number (number_of (read_job (bytes_of ns))) (pick (ltb room (length (bytes_of ns))) (not_written 18) (wrote (bytes_of ns)))
