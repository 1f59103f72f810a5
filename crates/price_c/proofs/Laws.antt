-- What is answered of an edge.
use Prim.Native.Nat.{ℕ, ◌^◌, ◌<◌}
use mathlib.Core.Path.{◌≡◌, refl}
use mathlib.Core.Bool.{true, false}
use mathlib.Core.List.{List}
use mathlib.Core.Option.{Option, none}
use lib.Dec.{leb}
use lib.Ieee.{Float}
use borrow.Author.Tests.{leb-false}
use Rattle.entity.specs.Logic.{no}
use Rattle.entity.proofs.Laws.{or-false, no_false}
use Rattle.price.specs.declared.Prices.{Prices}
use Rattle.price.specs.Price.{in_range}
use Rattle.price_c.specs.Priced.{outside, PricedAs}

module _ (p : Prices) (n : ℕ) where
  pub within : outside p n ≡ false → (n < 2 ^ 26) × (in_range p ≡ true)
  within h = let s = or-false (leb (2 ^ 26) n) (no (in_range p)) h in (leb-false (2 ^ 26) n s.0, no_false (in_range p) s.1)

  module _ (o : Option (List ℕ)) (total : ℕ) (runs product : Float) where
    pub gives-19 : outside p n ≡ true → PricedAs p n o 19 total total runs runs product product
    gives-19 h = rw h (refl, refl, refl, refl)

    pub gives-2 : outside p n ≡ false → o ≡ none → PricedAs p n o 2 total total runs runs product product
    gives-2 h e = rw (h, e) (refl, refl, refl, refl)
