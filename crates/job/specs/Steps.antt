-- What the steps of answering a job ensure.
use Rattle.std.specs.Prelude.{ℕ, ◌≤◌, ◌≡◌, List, ◌++◌, map, length, drop}
use Rattle.entity.specs.Logic.{Anything}
use Rattle.reginfo.specs.Table.{reg_info_of}
use Rattle.function.specs.Known.{Checked}
use Rattle.function.specs.Table.{function_of}
use Rattle.rules.specs.Patch.{Patch, Answer}
use Rattle.rules.specs.Patch as rules
use Rattle.edit.specs.Word.{word_of, AllInRange}
use Rattle.slots.specs.Stacks.{cache_of}
use Rattle.number.specs.Read.{Read, got, refused}
use Rattle.number.specs.declared.Number.{Number}
use Rattle.number.specs.declared.Number.TheVariants as N
use Rattle.reading.specs.declared.Next.{Next}
use Rattle.reading.specs.declared.Next.TheVariants as X
use Rattle.parallel_moves.specs.Given.{CacheOk}
use Rattle.job.specs.declared.Step.{Step}
use Rattle.job.specs.declared.Step.TheVariants.{Edits, Refused}
use Rattle.job_rules.specs.Job.{Opened, Header, Resolver}

-- target and function read: the tables hold them, and the answer is the next offset; where one is refused, the tables hold anything
abbrev pub BegunAt : (s : List ℕ) → Read Opened → Next → (t f : List ℕ) → Type 0
BegunAt s (refused k) r t f = (r ≡ X.Refused k) × Anything t × Anything f
BegunAt s (got x rest) r t f =
    (next : ℕ) × (r ≡ X.At next) × (rest ≡ drop next s) × (next ≤ length s) × (reg_info_of t ≡ x.target) × (function_of f ≡ x.function) × Checked t f

-- the header read: the tables hold the target and the function, and the answer has the patch count and the next offset; where it is refused,
-- the tables hold anything
abbrev pub HeaderAt : (s : List ℕ) → Read Header → Number → (t f : List ℕ) → Type 0
HeaderAt s (refused k) r t f = (r ≡ N.Refused k) × Anything t × Anything f
HeaderAt s (got h rest) r t f =
    (next : ℕ) × (r ≡ N.Is h.patches next) × (rest ≡ drop next s) × (next ≤ length s) × (reg_info_of t ≡ h.target) × (function_of f ≡ h.function) × Checked t f

-- a patch resolved: its edits' words stand at the front of the list, and the cache is that of the rules; a refusal leaves list and cache
abbrev pub CallAt : (f : List ℕ) → Answer → (next : ℕ) → Step → (list list' cache cache' : List ℕ) → Type 0
CallAt f (rules.refused k) next r list list' cache cache' = (r ≡ Refused k) × (list' ≡ list) × (cache' ≡ cache)
CallAt f (rules.resolved es c n) next r list list' cache cache' =
    (r ≡ Edits (length es) n next) × (list' ≡ map word_of es ++ drop (length es) list) × AllInRange es × (cache_of cache' ≡ c) × CacheOk f cache'

-- a patch read and resolved
abbrev pub StepAt : Resolver → (t f s : List ℕ) → Read Patch → Step → (list list' cache cache' : List ℕ) → Type 0
StepAt by t f s (refused k) r list list' cache cache' = (r ≡ Refused k) × (list' ≡ list) × (cache' ≡ cache)
StepAt by t f s (got p rest) r list list' cache cache' =
    (next : ℕ) × (rest ≡ drop next s) × (next ≤ length s) × CallAt f (by (reg_info_of t) (function_of f) p (length list) (cache_of cache)) next r list list' cache cache'
