-- 02 n: what holds of every run.
use Rattle.std.specs.Prelude.{ℕ, zero, suc, ◌+◌, ◌*◌, ◌^◌, ◌<◌, ◌≤◌, ◌≡◌, false, List, [], ◌∷◌, length}
use Rattle.entity.specs.Logic.{twice}
use Rattle.reginfo.specs.RegInfo.{RegInfo}
use Rattle.function.specs.Function.{Function}
use Rattle.rules.specs.Counts.{sum}
use Rattle.draws.specs.Draws.{next}
use Rattle.trying.specs.Tried.{Tries, tried}
use Rattle.trying.specs.Report.{accepted_in, refusals_in, edits_in, of_kind}

-- each patch drawn is counted once: as accepted, or under its number
abbrev pub EachOnce : Type 0
EachOnce =
    (t : RegInfo) (f : Function) (kept count seed : ℕ)
    → accepted_in (tried t f kept count seed).answers + sum (λ j. refusals_in j (tried t f kept count seed).answers) 256 ≡ length (tried t f kept count seed).answers

-- evictions are counted by their reloads, and each register that is evicted is saved once: as many S as L
abbrev pub AsManySaves : Type 0
AsManySaves =
    (t : RegInfo) (f : Function) (kept count seed : ℕ)
    → of_kind 3 (edits_in (tried t f kept count seed).answers) ≡ of_kind 4 (edits_in (tried t f kept count seed).answers)

-- the first n draws from a seed
unfoldable pub first_draws : ℕ → ℕ → List ℕ
first_draws s zero = []
first_draws s (suc n) = next s ∷ first_draws (next s) n

-- the draws of a run are the first from its seed, of at most 1,024 patches, 9 drawings each and 49 draws each; "no draw repeats"
pub record Differ (r : Tries) (seed : ℕ) : Type 0 where
  pub many : ℕ
  pub few : many ≤ 1024 * 9 * 49
  pub are : r.draws ≡ first_draws seed many
  pub once : twice r.draws ≡ false

abbrev pub DrawsDiffer : Type 0
DrawsDiffer = (t : RegInfo) (f : Function) (kept count seed : ℕ) → count ≤ 1024 → seed < 2 ^ 32 → Differ (tried t f kept count seed) seed
