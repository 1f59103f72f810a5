-- 02 l of the code: a frame as it is opened, by `open_frame`, then formula by formula by `open_in`; every list of calls after that is claimed.
use Rattle.std.specs.Prelude.{ℕ, suc, ◌<◌, ◌≡◌, List, [], ◌∷◌, map, length, get_or}
use Rattle.reginfo.specs.RegInfo.{RegInfo}
use Rattle.reginfo.specs.Table.{reg_info_of}
use Rattle.function.specs.Function.{Function}
use Rattle.function.specs.Table.{function_of}
use Rattle.number.specs.Read.{Read, got, refused}
use Rattle.job_rules.specs.Job as job
use Rattle.calls.specs.declared.Opened.TheVariants.{Yes}
use Rattle.calls.specs.Opening as alone
use Rattle.frame_rules.specs.Frame.{Inlined, no_target, no_function}
use Rattle.frame_table.specs.declared.FrameOpened.TheVariants as F
use Rattle.frame_table.specs.Opening.{FrameAs}
use Rattle.frame_table.specs.Held.{FrameOk}
use Rattle.frame_calls.specs.Given.{opened_in, OpenedAs}
use Rattle.frame_claim.specs.Claim.{Made, Named, Called, Begun, begun, Shared}

-- a call of `open_in` that was made: "a promised share, given beside its job", its setting, its job, what its cache held, and the tables as it left
-- them, the formula's own and the frame's
pub record Opening : Type 0 where
  pub share : ℕ
  pub kept : ℕ
  pub job : List ℕ
  pub before : List ℕ
  pub target : List ℕ
  pub function : List ℕ
  pub cache : List ℕ
  pub frame : List ℕ

abbrev pub no_opening : Opening
no_opening = record { share = 0; kept = 0; job = []; before = []; target = []; function = []; cache = []; frame = [] }

-- ---- the formulas that the jobs are, by what each is read as alone
abbrev pub target_read : Read job.Opened → RegInfo
target_read (got x rest) = x.target
target_read (refused k) = no_target

abbrev pub function_read : Read job.Opened → Function
function_read (got x rest) = x.function
function_read (refused k) = no_function

abbrev pub inlined_of : Opening → Inlined
inlined_of x =
    record { target = target_read (alone.opened x.kept x.job); function = function_read (alone.opened x.kept x.job); share = x.share }

abbrev pub formulas_of : List Opening → List Inlined
formulas_of l = map inlined_of l

-- ---- what was left
abbrev pub targets_of : List Opening → ℕ → List ℕ
targets_of l i = (get_or l i no_opening).target

abbrev pub functions_of : List Opening → ℕ → List ℕ
functions_of l i = (get_or l i no_opening).function

abbrev pub caches_of : List Opening → ℕ → List ℕ
caches_of l i = (get_or l i no_opening).cache

abbrev pub frame_after : List ℕ → List Opening → List ℕ
frame_after frame [] = frame
frame_after frame (x ∷ l) = frame_after x.frame l

-- each formula from i on was opened, as the contract says, over the frame as the last one left it
abbrev pub OpenedFrom : ℕ → List ℕ → List Opening → Type 0
OpenedFrom i frame [] = Unit {0}
OpenedFrom i frame (x ∷ l) =
    (FrameOk frame → OpenedAs frame x.frame i (opened_in frame i x.kept x.job) Yes x.target x.function x.before x.cache)
    × OpenedFrom (suc i) x.frame l

-- the frame was opened for these shares, then the formulas in order
pub record OpenedAll (limit : ℕ) (before frame : List ℕ) (l : List Opening) : Type 0 where
  pub opens : FrameAs limit (map (λ (x : Opening). x.share) l) F.Yes before frame
  pub formulas : OpenedFrom 0 frame l

-- then it is a frame of the rules with the formulas that the jobs are, each read as it is alone
-- Without this the claim would be about any tables that happen to hold a frame, and not about those that the openings leave.
pub record Begins (limit : ℕ) (frame : List ℕ) (l : List Opening) : Type 0 where
  pub begun : Begun (targets_of l) (functions_of l) limit (formulas_of l) (frame_after frame l) (caches_of l)
  pub read :
      (i : ℕ) → i < length l
      → alone.opened (get_or l i no_opening).kept (get_or l i no_opening).job ≡ got (record { target = reg_info_of (targets_of l i); function = function_of (functions_of l i) }) []

abbrev pub OpeningsBegin : Type 0
OpeningsBegin = (limit : ℕ) (before frame : List ℕ) (l : List Opening) → OpenedAll limit before frame l → Begins limit frame l

-- and so of every list of calls after such openings all that `SharedFrame` claims holds
abbrev pub SharedFromOpenings : Type 0
SharedFromOpenings =
    (limit : ℕ) (before frame : List ℕ) (l : List Opening) → OpenedAll limit before frame l
    → (calls : List Made) → Named (targets_of l) (functions_of l) (length l) calls
    → Called (targets_of l) (functions_of l) calls (begun (targets_of l) (functions_of l) (frame_after frame l) (caches_of l))
    → Shared (targets_of l) (functions_of l) limit (formulas_of l) (frame_after frame l) (caches_of l) calls
