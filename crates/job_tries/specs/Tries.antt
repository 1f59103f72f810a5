-- 02 n: a function tried at both settings.
use Rattle.std.specs.Prelude.{ℕ, ◌≡◌, true, List, [], ◌∷◌, leb}
use Rattle.std.proofs.Math.Option.{Option, none}
use Rattle.entity.specs.Logic.{pick, and, Anything}
use Rattle.reginfo.specs.RegInfo.{RegInfo}
use Rattle.reginfo.specs.Table.{reg_info_of}
use Rattle.function.specs.Function.{Function}
use Rattle.function.specs.Known.{Checked}
use Rattle.function.specs.Table.{function_of}
use Rattle.entries.specs.declared.Added.{Added}
use Rattle.entries.specs.declared.Added.TheVariants as A
use Rattle.price.specs.declared.Prices.{Prices}
use Rattle.price.specs.Price.{in_range}
use Rattle.number.specs.Read.{Read, got, refused, then}
use Rattle.reading.specs.Reading.{between}
use Rattle.job_patch.specs.Patches.{unless_given}
use Rattle.job_rules.specs.Job.{Opened}
use Rattle.job_rules.specs.Priced.{beginning_priced}
use Rattle.job_numbers.specs.Numbers.{read_patches, number_of}
use Rattle.trying.specs.Tried.{tried}
use Rattle.trying.specs.Report.{Reported}

-- what stands behind a function: nothing; else a patch count and as many patches, read to the end as a job's and not resolved
unfoldable pub rest_refusal : RegInfo → Function → List ℕ → Option ℕ
rest_refusal t f [] = none
rest_refusal t f (b ∷ l) = number_of (then (between 1 1024 (b ∷ l)) (λ n q. read_patches t f n q))

-- "an accepted function and prices": a target and a function, or a job that reading takes; 19 after 7
unfoldable pub function_asked : Prices → List ℕ → Read Opened
function_asked p l = then (beginning_priced p 1 l) (λ x r. unless_given (rest_refusal x.target x.function r) (got x r))

-- "make 1 to 1,024 patches (else 2)", tested first
unfoldable pub asked : Prices → (patches : ℕ) → List ℕ → Read Opened
asked p patches l = pick (and (leb 1 patches) (leb patches 1024)) (function_asked p l) (refused 2)

-- the counts "for each setting, both from the same seed"
abbrev pub Both : RegInfo → Function → Prices → (seed patches : ℕ) → (one two : List ℕ) → Type 0
Both t f p seed patches one two = Reported one p (tried t f 1 patches seed).answers × Reported two p (tried t f 2 patches seed).answers

-- 0 and the counts, or the number, and both tables as they were
abbrev pub TriedBy : Read Opened → Prices → (seed patches r : ℕ) → (one two one' two' : List ℕ) → Type 0
TriedBy (refused k) p seed patches r one two one' two' = (r ≡ k) × (one' ≡ one) × (two' ≡ two)
TriedBy (got h l) p seed patches r one two one' two' = (r ≡ 0) × Both h.target h.function p seed patches one' two'

-- read: the tables hold the target and the function, and the prices are in their range; where it is refused, the tables hold anything
abbrev pub FunctionAt : Prices → Read Opened → Added → (t f : List ℕ) → Type 0
FunctionAt p (refused k) r t f = (r ≡ A.Refused k) × Anything t × Anything f
FunctionAt p (got x rest) r t f = (r ≡ A.Yes) × (reg_info_of t ≡ x.target) × (function_of f ≡ x.function) × Checked t f × (in_range p ≡ true)
