-- What a caller in another language is answered patch by patch.
use Rattle.std.specs.Prelude.{ℕ, ◌≡◌, List, ◌++◌, map, length, drop}
use Rattle.entity.specs.Logic.{Anything}
use Rattle.reginfo.specs.Table.{reg_info_of}
use Rattle.function.specs.Known.{Checked}
use Rattle.function.specs.Table.{function_of}
use Rattle.rules.specs.Patch.{Answer, refused, resolved}
use Rattle.machine.specs.Enough.{enough_slots}
use Rattle.edit.specs.Word.{word_of, AllInRange}
use Rattle.slots.specs.Stacks.{cache_of, stamp_of, raised}
use Rattle.slots.specs.Steps.{Cleared}
use Rattle.number.specs.Read as read
use Rattle.number.specs.Read.{Read}
use Rattle.parallel_moves.specs.Given.{CacheOk}
use Rattle.job_rules.specs.Job.{Opened, Header}

-- opened: 0, the tables hold target and function, and the cache has no slot made, its stamp raised; refused: 01's number, the tables hold anything,
-- and the cache is as it was
abbrev pub OpenedBy : Read Opened → ℕ → (t f cache cache' : List ℕ) → Type 0
OpenedBy (read.refused k) r t f cache cache' = (r ≡ k) × Anything t × Anything f × (cache' ≡ cache)
OpenedBy (read.got x rest) r t f cache cache' = (r ≡ 0) × (reg_info_of t ≡ x.target) × (function_of f ≡ x.function) × Checked t f × Cleared cache cache' × CacheOk f cache'

-- how many patches a job has, and 0 for the number; refused: 0, and 01's number
abbrev pub CountedBy : Read Header → (r refusal : ℕ) → Type 0
CountedBy (read.refused k) r refusal = (r ≡ 0) × (refusal ≡ k)
CountedBy (read.got h rest) r refusal = (r ≡ h.patches) × (refusal ≡ 0)

-- 02 j: "an L to plan with", and 0 for the number; refused: 0, and 01's number
abbrev pub PlannedBy : Read Opened → (r refusal : ℕ) → Type 0
PlannedBy (read.refused k) r refusal = (r ≡ 0) × (refusal ≡ k)
PlannedBy (read.got x rest) r refusal = (r ≡ enough_slots x.target x.function) × (refusal ≡ 0)

-- `Gives` of crate parallel_moves, as a count and numbers
abbrev pub CalledAs : (f : List ℕ) → Answer → (r refusal position position' : ℕ) → (list list' cache cache' : List ℕ) → Type 0
CalledAs f (refused n) r refusal position position' list list' cache cache' = (r ≡ 0) × (refusal ≡ n) × (position' ≡ position) × (list' ≡ list) × (cache' ≡ cache)
CalledAs f (resolved es c n) r refusal position position' list list' cache cache' =
    (r ≡ length es) × (refusal ≡ 0) × (position' ≡ n) × (list' ≡ map word_of es ++ drop (length es) list) × AllInRange es × (cache_of cache' ≡ c) × CacheOk f cache'
    × (stamp_of cache' ≡ raised (stamp_of cache))
