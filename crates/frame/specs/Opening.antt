-- 02 l, a schedule: how a frame and its formulas are opened, as a job's numbers.
use Rattle.std.specs.Prelude.{ℕ, ◌<◌, ◌≤◌, ◌≡◌, Bool, true, false, List, ◌⊎◌, leb, length, take, drop}
use Rattle.std.proofs.Math.Option.{none, some}
use Rattle.entity.specs.Logic.{pick}
use Rattle.reginfo.specs.Refused.{first_of}
use Rattle.number.specs.Read.{Read, got, refused, then}
use Rattle.number.specs.Number.{number}
use Rattle.reading.specs.declared.Next.{Next}
use Rattle.reading.specs.declared.Next.TheVariants as X
use Rattle.job_rules.specs.Job as job
use Rattle.calls.specs.declared.Opened.TheVariants.{Yes}
use Rattle.frame_table.specs.Opening.{share_conditions, Filled}
use Rattle.frame_calls.specs.Given.{opened_in, OpenedAs}
use Rattle.schedule.specs.Lists.{listed}

-- the common limit, and the shares behind their count
pub record Shares : Type 0 where
  pub limit : ℕ
  pub shares : List ℕ

unfoldable pub shares_of : List ℕ → Read Shares
shares_of l = then (number l) (λ n r. then (listed r) (λ shares q. got (record { limit = n; shares = shares }) q))

-- a frame of them, with no slot made: of one or two formulas
abbrev pub Fits : Shares → (frame : List ℕ) → Type 0
Fits x frame = (first_of (share_conditions x.limit x.shares) ≡ none) × Filled x.limit x.shares frame × (length x.shares ≤ 2)

-- 02 l's number; or 0, which is none, for more
abbrev pub NoFrame : Shares → ℕ → Type 0
NoFrame x k = (first_of (share_conditions x.limit x.shares) ≡ some k) ⊎ ((k ≡ 0) × (2 < length x.shares))

abbrev pub FrameAt : Shares → (frame : List ℕ) (next : ℕ) → Next → Type 0
FrameAt x frame next (X.At m) = (m ≡ next) × Fits x frame
FrameAt x frame next (X.Refused k) = NoFrame x k

abbrev pub SharesAt : (s frame : List ℕ) → Next → Type 0
SharesAt s frame (X.At next) = (x : Shares) × (shares_of s ≡ got x (drop next s)) × Fits x frame × (next ≤ length s)
SharesAt s frame (X.Refused k) = (shares_of s ≡ refused k) ⊎ ((x : Shares) × (q : List ℕ) × (shares_of s ≡ got x q) × NoFrame x k)

-- formula i: its setting, the length of its opening, and as many bytes, else 1
unfoldable pub part_of : (frame : List ℕ) (i kept n : ℕ) → List ℕ → Read job.Opened
part_of frame i kept n l = pick (leb n (length l)) (then (opened_in frame i kept (take n l)) (λ x q. got x (drop n l))) (refused 1)

unfoldable pub formula_of : (frame : List ℕ) (i : ℕ) → List ℕ → Read job.Opened
formula_of frame i l = then (number l) (λ kept r. then (number r) (λ n q. part_of frame i kept n q))

-- opened, as `open_in` does it
abbrev pub FormulaAt : (frame frame' : List ℕ) (i : ℕ) (s : List ℕ) (at : ℕ) → Read job.Opened → Next → (t f cache cache' : List ℕ) → Type 0
FormulaAt frame frame' i s at (refused k) r t f cache cache' = (r ≡ X.Refused k) × (cache' ≡ cache) × (frame' ≡ frame)
FormulaAt frame frame' i s at (got x rest) r t f cache cache' =
    (next : ℕ) × (r ≡ X.At next) × (rest ≡ drop next s) × (at ≤ next) × (next ≤ length s) × OpenedAs frame frame' i (got x rest) Yes t f cache cache'

-- where the frame has a formula i
abbrev pub IfThere : Bool → (frame frame' : List ℕ) (i : ℕ) (s : List ℕ) (at : ℕ) → Next → (t f cache cache' : List ℕ) → Type 0
IfThere true frame frame' i s at r t f cache cache' = FormulaAt frame frame' i s at (formula_of frame i (drop at s)) r t f cache cache'
IfThere false frame frame' i s at r t f cache cache' = (r ≡ X.At at) × (cache' ≡ cache) × (frame' ≡ frame)
