-- 02 n: all that the program prints, of its arguments and a function.
use Rattle.std.specs.Prelude.{ℕ, ◌≡◌, Bool, List, leb, ltb}
use Rattle.entity.specs.Logic.{pick, and}
use Rattle.reginfo.specs.RegInfo.{RegInfo}
use Rattle.function.specs.Function.{Function}
use Rattle.price.specs.declared.Prices.{Prices}
use Rattle.print.specs.Text.{refused_line}
use Rattle.print.specs.Put.{Put}
use Rattle.number.specs.Read.{Read, got, refused}
use Rattle.job_rules.specs.Job.{Opened}
use Rattle.job_tries.specs.Tries.{asked, Both}
use Rattle.try_settings.specs.Text.{table_text}

-- a seed of 32 bits and 1 to 1,024 patches
abbrev pub arguments_fit : (seed patches : ℕ) → Bool
arguments_fit seed patches = and (ltb seed 4294967296) (and (leb 1 patches) (leb patches 1024))

-- 2 for a seed from 2^32 on, before all else
abbrev pub asked_with : Prices → (seed patches : ℕ) → List ℕ → Read Opened
asked_with p seed patches l = pick (ltb seed 4294967296) (asked p patches l) (refused 2)

-- the table's text, of tables that report what was tried
abbrev pub PrintedBoth : RegInfo → Function → Prices → (seed patches : ℕ) → (out out' : List ℕ) → ℕ → Type 0
PrintedBoth t f p seed patches out out' r = (one : List ℕ) × (two : List ℕ) × Both t f p seed patches one two × Put out out' 0 (table_text one two seed patches) r

-- or `refused` and the number
abbrev pub Printed : Read Opened → Prices → (seed patches : ℕ) → (out out' : List ℕ) → ℕ → Type 0
Printed (refused k) p seed patches out out' r = Put out out' 0 (refused_line k) r
Printed (got h l) p seed patches out out' r = PrintedBoth h.target h.function p seed patches out out' r
