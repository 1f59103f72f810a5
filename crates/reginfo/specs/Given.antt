-- 01, Refused jobs: "Each is given when its condition holds and none earlier does, else not."
use Rattle.std.specs.Prelude.{ℕ, ◌<◌, ◌≡◌, true, false, List, length, get_or}
use Rattle.reginfo.specs.Refused.{Condition, refused_if}

abbrev pub condition_at : List Condition → ℕ → Condition
condition_at l i = get_or l i (refused_if 0 false)

-- one of the conditions has the number n and holds, and none earlier does
pub record Given (l : List Condition) (n : ℕ) : Type 0 where
  pub at : ℕ
  pub is : at < length l
  pub number : (condition_at l at).number ≡ n
  pub holds : (condition_at l at).holds ≡ true
  pub earlier : (k : ℕ) → k < at → (condition_at l k).holds ≡ false

abbrev pub NoneHolds : List Condition → Type 0
NoneHolds l = (i : ℕ) → i < length l → (condition_at l i).holds ≡ false
