-- 02 l: what a call of a formula gets beside its patch, and how a formula is opened.
use Rattle.std.specs.Prelude.{ℕ, ◌≡◌, Bool, true, false, List, eqb}
use Rattle.entity.specs.Logic.{pick, Anything}
use Rattle.reginfo.specs.Table.{reg_info_of}
use Rattle.function.specs.Known.{Checked}
use Rattle.function.specs.Table.{function_of}
use Rattle.machine.specs.Slots.{Stacked}
use Rattle.slots.specs.Stacks.{cache_of, CacheFits}
use Rattle.slots.specs.Steps.{Cleared}
use Rattle.number.specs.Read.{Read, got, refused, then}
use Rattle.parallel_moves.specs.declared.Grant.{Grant}
use Rattle.parallel_moves.specs.Given.{with_made}
use Rattle.job_rules.specs.Job as job
use Rattle.job_rules.specs.Formula.{beginning_within}
use Rattle.calls.specs.declared.Opened.{Opened}
use Rattle.calls.specs.declared.Opened.TheVariants.{Yes, Refused}
use Rattle.calls.specs.Opening.{ended}
use Rattle.frame_table.specs.Table.{counter_of, slots_of, reach_of}
use Rattle.frame_table.specs.Steps.{SlotsSet}
use Rattle.frame_table.specs.Held.{FrameOk}

-- "Slot numbers come from one counter", which may go as far as `reach`
abbrev pub grant_of : List ℕ → ℕ → Grant
grant_of frame i = record { made = counter_of frame; limit = reach_of frame i }

-- a formula's cache that is fresh or came from its last call: the others may have led the counter on since
pub record InFrame (frame f cache : List ℕ) : Type 0 where
  pub fits : CacheFits cache
  pub stacks : Stacked (function_of f) (with_made (counter_of frame) (cache_of cache))

-- ---- opening: "All have the first one's N (else 2, when that N is read)"
abbrev pub least_of : List ℕ → ℕ → ℕ
least_of frame i = pick (eqb i 0) 0 (slots_of frame)

abbrev pub most_of : List ℕ → ℕ → ℕ
most_of frame i = pick (eqb i 0) 4096 (slots_of frame)

-- a target and a function as a job begins with them, and nothing behind them
unfoldable pub opened_in : (frame : List ℕ) (i kept : ℕ) → List ℕ → Read job.Opened
opened_in frame i kept l = then (beginning_within true (least_of frame i) (most_of frame i) kept l) (λ x q. ended x q)

-- the first one's N is noted; the others change nothing
abbrev pub NotedIf : Bool → (frame : List ℕ) (n : ℕ) (frame' : List ℕ) → Type 0
NotedIf true frame n frame' = SlotsSet frame n frame'
NotedIf false frame n frame' = frame' ≡ frame

abbrev pub SlotsNoted : (frame : List ℕ) (i n : ℕ) (frame' : List ℕ) → Type 0
SlotsNoted frame i n frame' = NotedIf (eqb i 0) frame n frame'

-- the tables hold them, the cache has no slot made, its stamp raised, and the frame goes on; where they are refused, the tables hold anything, and
-- cache and frame are as they were
abbrev pub OpenedAs : (frame frame' : List ℕ) (i : ℕ) → Read job.Opened → Opened → (t f cache cache' : List ℕ) → Type 0
OpenedAs frame frame' i (refused k) r t f cache cache' = (r ≡ Refused k) × Anything t × Anything f × (cache' ≡ cache) × (frame' ≡ frame)
OpenedAs frame frame' i (got x rest) r t f cache cache' =
    (r ≡ Yes) × (reg_info_of t ≡ x.target) × (function_of f ≡ x.function) × Checked t f × Cleared cache cache' × InFrame frame' f cache' × SlotsNoted frame i x.function.slots frame' × FrameOk frame'
