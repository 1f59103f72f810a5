-- 02 a: "What it writes reads back as the same job, and any accepted job read and written again has its old bytes."
use Rattle.std.specs.Prelude.{ℕ, ◌<◌, ◌≤◌, ◌≡◌, true, List, [], ◌++◌, map, ◌↔◌, ◌⊎◌, eqb, ltb, length}
use Rattle.std.proofs.Math.Option.{some}
use Rattle.entity.specs.Logic.{pick, all_in}
use Rattle.reginfo.specs.RegInfo.{RegInfo}
use Rattle.function.specs.Function.{ValueData, Function}
use Rattle.number.specs.Read.{got, refused}
use Rattle.number.specs.Number.{Bytes}
use Rattle.job_rules.specs.Job.{job}
use Rattle.job_numbers.specs.Numbers.{Job, target_numbers, function_numbers, patches_numbers, job_numbers, bytes_of, read_job, number_of, wrote, not_written, written}

-- every number fits 01's form
abbrev pub Numbers : List ℕ → Type 0
Numbers ns = all_in (λ n. ltb n 4294967296) ns ≡ true

-- "any accepted job read and written again has its old bytes"
abbrev pub OldBytes : Type 0
OldBytes = (l : List ℕ) (j : Job) (r : List ℕ) → Bytes l → read_job l ≡ got j r → (r ≡ []) × (bytes_of (job_numbers j) ≡ l)

-- "What it writes reads back as the same job"
abbrev pub SameJob : Type 0
SameJob = (ns : List ℕ) (j : Job) (r : List ℕ) → Numbers ns → read_job (bytes_of ns) ≡ got j r → job_numbers j ≡ ns

-- the same of `written`: what it writes is read to its end, as a job of those numbers; a job that is read and written again, where its bytes
-- have room, is those bytes
abbrev pub ReadsBack : Type 0
ReadsBack =
    (ns : List ℕ) (room : ℕ) (bytes : List ℕ) → Numbers ns → written ns room ≡ wrote bytes
    → (j : Job) × (read_job bytes ≡ got j []) × (job_numbers j ≡ ns)

abbrev pub Rewritten : Type 0
Rewritten = (l : List ℕ) (j : Job) (r : List ℕ) (room : ℕ) → Bytes l → read_job l ≡ got j r → length l ≤ room → written (job_numbers j) room ≡ wrote l

-- what a job says of a value: no class where it is not rebuilt
abbrev pub plain_value : ValueData → ValueData
plain_value v = record { bank = v.bank; cost = v.cost; class = pick (eqb v.cost 0) 0 v.class }

-- what a job says of a function: with the setting of one that sets none
unfoldable pub plain : Function → Function
plain f = record { values = map (λ v. plain_value v) f.values; slots = f.slots; limit = f.limit; kept = 1 }

-- the job that is read back has the tables that were written, and the patches' numbers
abbrev pub SameTables : Type 0
SameTables =
    (t : RegInfo) (f : Function) (ps : List ℕ) (j : Job) (r : List ℕ)
    → Numbers (target_numbers t ++ (function_numbers f ++ ps)) → read_job (bytes_of (target_numbers t ++ (function_numbers f ++ ps))) ≡ got j r
    → (j.target ≡ t) × (j.function ≡ plain f) × (patches_numbers j.patches ≡ ps)

-- "A job the reader would refuse [..] gets the reader's number; 16 and 17 belong to resolving": of every list of bytes, resolving gives 17 or
-- just what reading alone gives, with one kept eviction and with two
abbrev pub ReadersAgree : Type 0
ReadersAgree = (k : ℕ) (l : List ℕ) → (k ≡ 1) ⊎ (k ≡ 2) → ((job k l).refusal ≡ some 17) ⊎ ((job k l).refusal ≡ number_of (read_job l))

-- the reading's own numbers are 1 to 15 and 21: neither 16 and 17, nor 18, nor 22
abbrev pub OnlyReading : Type 0
OnlyReading = (l : List ℕ) (n : ℕ) → read_job l ≡ refused n → ((1 ≤ n) × (n ≤ 15)) ⊎ (n ≡ 21)

-- "A job the reader would refuse, its length included"
abbrev pub OverLong : Type 0
OverLong = (ns : List ℕ) (room : ℕ) → 65536 < length (bytes_of ns) → written ns room ≡ not_written 2

-- "18, the lent bytes are fewer than the job needs, tested after those": of an accepted job, and exactly then
abbrev pub Eighteen : Type 0
Eighteen =
    (ns : List ℕ) (room : ℕ)
    → (written ns room ≡ not_written 18) ↔ (((j : Job) × (r : List ℕ) × (read_job (bytes_of ns) ≡ got j r)) × (room < length (bytes_of ns)))
