-- 02 l, opening a frame: "1 to 16 formulas [..] a common limit of 0 to 2,048 slots (else 2 for either, tested first)"; "23, shares above the limit,
-- tested next".
use Rattle.std.specs.Prelude.{ℕ, ◌+◌, ◌<◌, ◌≡◌, List, [], ◌∷◌, map, eqb, ltb, length, get_or}
use Rattle.std.proofs.Math.Option.{none, some}
use Rattle.entity.specs.Logic.{or}
use Rattle.reginfo.specs.Refused.{Condition, refused_if, first_of}
use Rattle.frame_rules.specs.Frame.{Inlined, frame_conditions}
use Rattle.frame_table.specs.declared.FrameOpened.{FrameOpened}
use Rattle.frame_table.specs.declared.FrameOpened.TheVariants.{Yes, Refused}
use Rattle.frame_table.specs.Table.{number_of, limit_of, counter_of, slots_of, open_of, share_of, made_of}

unfoldable pub sum_of : List ℕ → ℕ
sum_of [] = 0
sum_of (n ∷ l) = n + sum_of l

-- of the shares alone
unfoldable pub share_conditions : ℕ → List ℕ → List Condition
share_conditions limit shares =
    refused_if 2 (or (eqb (length shares) 0) (ltb 16 (length shares))) ∷ refused_if 2 (ltb 2048 limit) ∷ refused_if 23 (ltb limit (sum_of shares)) ∷ []

-- they are those of the formulas with these shares
abbrev pub SameConditions : Type 0
SameConditions = (limit : ℕ) (l : List Inlined) → share_conditions limit (map (λ (x : Inlined). x.share) l) ≡ frame_conditions limit l

-- a table of a frame in which no slot is made
pub record Filled (limit : ℕ) (shares frame : List ℕ) : Type 0 where
  pub number : number_of frame ≡ length shares
  pub limit_is : limit_of frame ≡ limit
  pub counter : counter_of frame ≡ 0
  pub slots : slots_of frame ≡ 0
  pub opened : open_of frame ≡ 0
  pub share : (j : ℕ) → j < length shares → share_of frame j ≡ get_or shares j 0
  pub made : (j : ℕ) → j < length shares → made_of frame j ≡ 0

-- a refusal leaves the table as it was
abbrev pub FrameAs : (limit : ℕ) (shares : List ℕ) → FrameOpened → (frame frame' : List ℕ) → Type 0
FrameAs limit shares (Refused k) frame frame' = (first_of (share_conditions limit shares) ≡ some k) × (frame' ≡ frame)
FrameAs limit shares Yes frame frame' = (first_of (share_conditions limit shares) ≡ none) × Filled limit shares frame'
