-- Text written into lent bytes from an offset on.
use Rattle.std.specs.Prelude.{ℕ, ◌+◌, ◌≤◌, ◌≡◌, List, ◌++◌, length, take, drop}

pub record Room (out : List ℕ) (n : ℕ) (text : List ℕ) : Type 0 where
  pub fits : n + length text ≤ length out

-- the text stands from n on, every other byte is as it was, and r is the offset past the text
pub record Put (out out' : List ℕ) (n : ℕ) (text : List ℕ) (r : ℕ) : Type 0 where
  pub room : n + length text ≤ length out
  pub stands : out' ≡ take n out ++ (text ++ drop (n + length text) out)
  pub next : r ≡ n + length text
