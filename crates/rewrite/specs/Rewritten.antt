-- What it says of a job that it was written anew.
use Rattle.std.specs.Prelude.{ℕ, zero, suc, ◌+◌, ◌-◌, ◌≤◌, ◌≡◌, Bool, true, Option, Some, None, List, ◌++◌, ◌⊎◌, eqb, leb, length, take, drop}
use Rattle.entity.specs.Logic.{pick, and, or}
use Rattle.reginfo.specs.Table.{reg_info_of}
use Rattle.function.specs.Table.{function_of}
use Rattle.number.specs.Read.{got, refused}
use Rattle.number.specs.Number.{number}
use Rattle.print.specs.Text.{refused_line}
use Rattle.records.specs.Bytes.{same_list}
use Rattle.job_rules.specs.Job.{beginning}
use Rattle.job_numbers.specs.Numbers.{Written, target_numbers, function_numbers, bytes_of, wrote, not_written, written}
use Rattle.rewrite.specs.declared.Outcome.{Outcome}
use Rattle.rewrite.specs.declared.Outcome.TheVariants.{Same, Refused, NoNumbers, Differs, End}

-- the bytes are those of the first n numbers; or behind those of some numbers there is none
abbrev pub DecodedAs : (s numbers : List ℕ) → Option ℕ → Type 0
DecodedAs s numbers (Some n) = (n ≤ length numbers) × (length numbers ≡ 16384) × (bytes_of (take n numbers) ≡ s)
DecodedAs s numbers None = (ns : List ℕ) × (at : ℕ) × (bytes_of ns ++ drop at s ≡ s) × (number (drop at s) ≡ refused 1)

-- the text ends with the line of refusal k
abbrev pub tells_of : List ℕ → ℕ → Bool
tells_of text k = and (leb (length (refused_line k)) (length text)) (same_list (drop (length text - length (refused_line k)) text) (refused_line k))

-- the first of n numbers from k on whose line it is, or 0
unfoldable pub recorded_from : List ℕ → (k n : ℕ) → ℕ
recorded_from text k zero = 0
recorded_from text k (suc n) = pick (tells_of text k) k (recorded_from text (k + 1) n)

-- the number of the refusal that a text ends with: `resolve` says 1 to 22
abbrev pub recorded_in : List ℕ → ℕ
recorded_in text = recorded_from text 1 22

-- what is recorded is the reader's number, or 0; 17 and 22 are not the reader's, and come before what follows them
abbrev pub agreed : (told k : ℕ) → Bool
agreed told k = or (eqb told 17) (or (eqb told 22) (eqb told k))

-- the job was written, and none of the reader's refusals was recorded; or it is refused as recorded
abbrev pub HeldAs : (job : List ℕ) → Written → (told : ℕ) → Outcome → Type 0
HeldAs job x told Same = (x ≡ wrote job) × (agreed told 0 ≡ true)
HeldAs job x told Refused = (k : ℕ) × (x ≡ not_written k) × (agreed told k ≡ true)
HeldAs job x told NoNumbers = Unit
HeldAs job x told Differs = Unit
HeldAs job x told End = Unit

-- the numbers of a target and a function as tables hold them, and those behind them
abbrev pub tables_numbers : (t f ns : List ℕ) → List ℕ
tables_numbers t f ns = target_numbers (reg_info_of t) ++ (function_numbers (function_of f) ++ ns)

-- what is written of tables that hold the job's opening, and the numbers behind it
abbrev pub OfTables : (job : List ℕ) → Written → Type 0
OfTables job x =
    (t : List ℕ) × (f : List ℕ) × (rest : List ℕ) × (ns : List ℕ)
    × (beginning 1 job ≡ got (record { target = reg_info_of t; function = function_of f }) rest) × (bytes_of ns ≡ rest) × (written (tables_numbers t f ns) 16384 ≡ x)

abbrev pub FromTables : (job : List ℕ) (told : ℕ) → Outcome → Type 0
FromTables job told Same = OfTables job (wrote job) × (agreed told 0 ≡ true)
FromTables job told Refused = (k : ℕ) × ((beginning 1 job ≡ refused k) ⊎ OfTables job (not_written k)) × (agreed told k ≡ true)
FromTables job told NoNumbers = Unit
FromTables job told Differs = Unit
FromTables job told End = Unit

-- one is said of both only where it is so of each
abbrev pub BothAre : (first second r : Outcome) → Type 0
BothAre first second Same = (first ≡ Same) × (second ≡ Same)
BothAre first second Refused = (first ≡ Refused) × (second ≡ Refused)
BothAre first second NoNumbers = ⊥
BothAre first second Differs = Unit
BothAre first second End = Unit

-- the job's own numbers are, and so are its tables; the text says nothing else
abbrev pub Rewritten : (job text : List ℕ) → Outcome → Type 0
Rewritten job text Same =
    ((ns : List ℕ) × (bytes_of ns ≡ job) × HeldAs job (written ns 16384) (recorded_in text) Same) × FromTables job (recorded_in text) Same
Rewritten job text Refused =
    ((ns : List ℕ) × (bytes_of ns ≡ job) × HeldAs job (written ns 16384) (recorded_in text) Refused) × FromTables job (recorded_in text) Refused
Rewritten job text NoNumbers = (ns : List ℕ) × (at : ℕ) × (bytes_of ns ++ drop at job ≡ job) × (number (drop at job) ≡ refused 1)
Rewritten job text Differs = Unit
Rewritten job text End = Unit
