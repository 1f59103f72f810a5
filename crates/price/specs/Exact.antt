-- 02 e: "The profiler's run count for the edge, a whole number from 0 and below 2^26, stands in a record beside the price as f64, and their
-- product must be exact."
use Rattle.std.specs.Prelude.{ℕ, ◌*◌, ◌^◌, ◌<◌, ◌≤◌, ◌≡◌, false, List, T, Float}
use Rattle.std.specs.Float.{binary64}
use Rattle.std.specs.Float.Ieee.{to_unsigned, in_unsigned}
use Rattle.std.specs.Float.Ieee.Exact.{HasValue}
use Rattle.price.specs.declared.Prices.{Prices}
use Rattle.price.specs.declared.Edge.{Edge}
use Rattle.price.specs.declared.EdgePrice.{EdgePrice}
use Rattle.price.specs.declared.EdgePrice.TheVariants.{Price, Refused}
use Rattle.price.specs.Price.{total_of}

-- x is finite, not negative and n / 1 in size; n is below 2^53; x cast back to a whole number is n
pub record Exactly (x : Float) (n : ℕ) : Type 0 where
  pub value : HasValue x false n 1
  pub below : n < 2 ^ 53
  pub casts : T (in_unsigned binary64 64 x)
  pub back : to_unsigned 64 x ≡ n

-- the record of an edge whose patch costs `total` and that ran n times
pub record Priced (total n : ℕ) (e : Edge) : Type 0 where
  pub whole : e.total ≡ total
  pub runs : Exactly e.runs n
  pub product : Exactly e.product (n * total)

-- of the words of a patch and a run count: "below 2^26", else 19
abbrev pub PriceIs : Prices → List ℕ → ℕ → EdgePrice → Type 0
PriceIs p l n (Price e) = (n < 2 ^ 26) × Priced (total_of p l) n e
PriceIs p l n (Refused k) = (2 ^ 26 ≤ n) × (k ≡ 19)
