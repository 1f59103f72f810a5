-- 02 e: "19, a price outside its range [..], or a run count outside its own, tested first when that edge's price is asked for."
use Rattle.std.specs.Prelude.{ℕ, ◌^◌, ◌≡◌, Bool, true, false, List, leb, ltb, length, Float}
use Rattle.std.proofs.Math.Option.{Option, none, some}
use Rattle.entity.specs.Logic.{pick, or, no}
use Rattle.price.specs.declared.Prices.{Prices}
use Rattle.price.specs.Price.{in_range, total_of}
use Rattle.price.specs.Exact.{Priced}

-- a run count or a price outside its range
abbrev pub outside : Prices → ℕ → Bool
outside p n = or (leb (2 ^ 26) n) (no (in_range p))

-- the edits of one call: of no patch there are over 1,024
abbrev pub few_edits : List ℕ → Option (List ℕ)
few_edits l = pick (ltb 1024 (length l)) none (some l)

module _ (p : Prices) (n : ℕ) where
  -- a number, and the three out-words are as they were; or 0, and they are the record of the edge
  abbrev pub AnsweredAs : Bool → Option (List ℕ) → (r total total' : ℕ) → (runs runs' product product' : Float) → Type 0
  AnsweredAs true o r total total' runs runs' product product' = (r ≡ 19) × (total' ≡ total) × (runs' ≡ runs) × (product' ≡ product)
  AnsweredAs false none r total total' runs runs' product product' = (r ≡ 2) × (total' ≡ total) × (runs' ≡ runs) × (product' ≡ product)
  AnsweredAs false (some l) r total total' runs runs' product product' =
      (r ≡ 0) × Priced (total_of p l) n (record { total = total'; runs = runs'; product = product' })

  -- of the words of an edge's edits, if there are any such
  abbrev pub PricedAs : Option (List ℕ) → (r total total' : ℕ) → (runs runs' product product' : Float) → Type 0
  PricedAs = AnsweredAs (outside p n)
