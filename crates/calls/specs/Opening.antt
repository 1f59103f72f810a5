-- A target and a function, opened once for all calls; 02 i: with the function's setting.
use Rattle.std.specs.Prelude.{ℕ, ◌≡◌, List, [], ◌∷◌}
use Rattle.entity.specs.Logic.{Anything}
use Rattle.reginfo.specs.Table.{reg_info_of}
use Rattle.function.specs.Known.{Checked}
use Rattle.function.specs.Table.{function_of}
use Rattle.slots.specs.Steps.{Cleared}
use Rattle.number.specs.Read.{Read, got, refused, then}
use Rattle.price.specs.declared.Prices.{Prices}
use Rattle.parallel_moves.specs.Given.{CacheOk}
use Rattle.job_rules.specs.Job as job
use Rattle.job_rules.specs.Job.{beginning}
use Rattle.job_rules.specs.Priced.{beginning_priced}
use Rattle.calls.specs.declared.Opened.{Opened}
use Rattle.calls.specs.declared.Opened.TheVariants.{Yes, Refused}

-- 8: "bytes left over"
abbrev pub ended : job.Opened → List ℕ → Read job.Opened
ended x [] = got x []
ended x (b ∷ l) = refused 8

-- a target and a function of `kept` kept evictions as a job begins with them, and nothing behind them
unfoldable pub opened : (kept : ℕ) → List ℕ → Read job.Opened
opened kept l = then (beginning kept l) (λ x q. ended x q)

-- 02 e: the same of a target that gives these prices, "tested after 7"
unfoldable pub opened_priced : Prices → (kept : ℕ) → List ℕ → Read job.Opened
opened_priced p kept l = then (beginning_priced p kept l) (λ x q. ended x q)

-- the tables hold them; where they are refused, the tables hold anything
abbrev pub TablesAs : Read job.Opened → Opened → (t f : List ℕ) → Type 0
TablesAs (refused k) r t f = (r ≡ Refused k) × Anything t × Anything f
TablesAs (got x rest) r t f = (r ≡ Yes) × (reg_info_of t ≡ x.target) × (function_of f ≡ x.function) × Checked t f

-- the tables hold them, and the cache is one with no slot made, its stamp raised; where they are refused, the tables hold anything and the cache is as it was
abbrev pub OpenedAs : Read job.Opened → Opened → (t f cache cache' : List ℕ) → Type 0
OpenedAs (refused k) r t f cache cache' = (r ≡ Refused k) × Anything t × Anything f × (cache' ≡ cache)
OpenedAs (got x rest) r t f cache cache' = (r ≡ Yes) × (reg_info_of t ≡ x.target) × (function_of f ≡ x.function) × Checked t f × Cleared cache cache' × CacheOk f cache'
