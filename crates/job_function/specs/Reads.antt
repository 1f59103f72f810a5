-- 01, The job: how a function is read, over the target that was read before it; 02 i: its setting is "given beside the job".
use Rattle.std.specs.Prelude.{ℕ, ◌≤◌, ◌≡◌, true, List, ◌↔◌, eqb}
use Rattle.entity.specs.Logic.{pick}
use Rattle.reginfo.specs.RegInfo.{RegInfo, num_banks, num_classes, bank_for_class}
use Rattle.function.specs.Function.{ValueData, Function, is_setting}
use Rattle.function.specs.Refused.{Accepted}
use Rattle.number.specs.Read.{Read, got, refused, then}
use Rattle.reading.specs.Reading.{below, between, times}

-- the class of a value that can be rebuilt; 9 for a class of another bank
unfoldable pub remat_value : RegInfo → ℕ → ℕ → List ℕ → Read ValueData
remat_value t b cost l = then (below (num_classes t) l) (λ c r. pick (eqb (bank_for_class t c) b) (got (record { bank = b; cost = cost; class = c }) r) (refused 9))

-- "each value bank, rebuild 0 none, 1 `CheaperThanMove`, 2 `CheaperThanLoad`, and a class unless 0"
unfoldable pub value : RegInfo → List ℕ → Read ValueData
value t l =
    then (below (num_banks t) l) (λ b r. then (below 3 r) (λ cost q. pick (eqb cost 0) (got (record { bank = b; cost = 0; class = 0 }) q) (remat_value t b cost q)))

-- the values, once their number, N and L are read
unfoldable pub valued : RegInfo → (kept n slots limit : ℕ) → List ℕ → Read Function
valued t kept n slots limit l = then (times n (value t) l) (λ vs r. got (record { values = vs; slots = slots; limit = limit; kept = kept }) r)

-- "function: values, N, L", of `kept` kept evictions
unfoldable pub function : RegInfo → (kept : ℕ) → List ℕ → Read Function
function t kept l = then (between 0 4096 l) (λ n r. then (between 0 4096 r) (λ slots q. then (between 0 2048 q) (λ limit p. valued t kept n slots limit p)))

-- 02 l: the same with N from `least` to `most`: "All have the first one's N (else 2, when that N is read)"
unfoldable pub function_within : (least most : ℕ) → RegInfo → (kept : ℕ) → List ℕ → Read Function
function_within least most t kept l =
    then (between 0 4096 l) (λ n r. then (between least most r) (λ slots q. then (between 0 2048 q) (λ limit p. valued t kept n slots limit p)))

-- what is read so is what is read without, and has such an N
abbrev pub ReadWithin : Type 0
ReadWithin =
    (least most : ℕ) → most ≤ 4096 → (t : RegInfo) (kept : ℕ) (l : List ℕ) (f : Function) (r : List ℕ)
    → (function_within least most t kept l ≡ got f r) ↔ ((function t kept l ≡ got f r) × (least ≤ f.slots) × (f.slots ≤ most))

-- what is read with a setting of one or two is an accepted function with that setting, whatever the target
abbrev pub ReadAccepted : Type 0
ReadAccepted = (t : RegInfo) (kept : ℕ) → is_setting kept ≡ true → (l : List ℕ) (f : Function) (r : List ℕ) → function t kept l ≡ got f r → Accepted t f × (f.kept ≡ kept)
