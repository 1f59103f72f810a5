-- What `read_target` answers.
use Rattle.std.specs.Prelude.{ℕ, ◌<◌, ◌≤◌, ◌≡◌, List, length, drop}
use Rattle.reginfo.specs.Table.{reg_info_of}
use Rattle.reading.specs.Answer.{next_of}
use Rattle.reading.specs.declared.Next.{Next}
use Rattle.reading.specs.declared.Next.TheVariants.{At, Refused}
use Rattle.job_target.specs.Target.{target}

-- the next offset is past the target and within the bytes
abbrev pub Onward : List ℕ → ℕ → Next → Type 0
Onward s at (At next) = (at < next) × (next ≤ length s)
Onward s at (Refused k) = Unit

-- the target that is read is the one that the table holds now; of a refused one's table nothing is said
pub record TargetAt (s : List ℕ) (at : ℕ) (t : List ℕ) (r : Next) : Type 0 where
  pub reads : next_of s (reg_info_of t) r ≡ target (drop at s)
  pub onward : Onward s at r
