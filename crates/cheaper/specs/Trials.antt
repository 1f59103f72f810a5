-- Choices by computation, at the prices 4, 6, 16 and 12.
use Rattle.std.specs.Prelude.{ℕ, ◌≡◌, List, [], ◌∷◌, replicate}
use Rattle.price.specs.Trials.{prices}
use Rattle.cheaper.specs.declared.Choice.{Choice}
use Rattle.cheaper.specs.declared.Choice.TheVariants.{First, Second, Refused}
use Rattle.cheaper.specs.Cheaper.{choice_of}

-- words of one kind each: 1 is M, 3 S, 4 L
abbrev pub chosen : List ℕ → List ℕ → Choice
chosen = choice_of (prices 4 6 16 12)

pub record Trials : Type 0 where
  -- 12 and 28
  pub moves-first : chosen (1 ∷ 1 ∷ 1 ∷ []) (3 ∷ 4 ∷ []) ≡ First
  -- 12 and 12
  pub same_first : chosen (1 ∷ 1 ∷ 1 ∷ []) (4 ∷ []) ≡ First
  -- 16 and 12: words of kind 0, 5 and 7 cost nothing
  pub others-nothing : chosen (3 ∷ []) (0 ∷ 1 ∷ 5 ∷ 1 ∷ 7 ∷ 1 ∷ []) ≡ Second
  -- a word of kind 3 that saves slot 1 is no edit, yet costs an S
  pub by_kind : chosen (262147 ∷ []) (4 ∷ []) ≡ Second
  pub both-empty : chosen [] [] ≡ First
  pub price-outside : choice_of (prices 4 6 16 65536) [] (1 ∷ []) ≡ Refused
  pub longest : chosen (replicate 65536 4) (replicate 65536 1) ≡ Second
  pub first-too-long : chosen (replicate 65537 0) [] ≡ Refused
  pub second-too-long : chosen [] (replicate 65537 0) ≡ Refused
