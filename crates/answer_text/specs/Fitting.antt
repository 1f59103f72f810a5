-- A text put from an offset on where it may not fit.
use Rattle.std.specs.Prelude.{ℕ, ◌+◌, ◌<◌, ◌≤◌, ◌≡◌, Option, Some, None, List, length}
use Rattle.print.specs.Put.{Put}

-- it is put, or no byte is changed
abbrev pub Fitted : List ℕ → List ℕ → ℕ → List ℕ → Option ℕ → Type 0
Fitted out out' n text (Some m) = Put out out' n text m
Fitted out out' n text None = (length out < n + length text) × (out' ≡ out)

-- it is put, or 0 is answered and no byte is changed
pub record Ended (out out' : List ℕ) (n : ℕ) (text : List ℕ) (r : ℕ) : Type 0 where
  pub fits : n + length text ≤ length out → Put out out' n text r
  pub short : length out < n + length text → (r ≡ 0) × (out' ≡ out)
