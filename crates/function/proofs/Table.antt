-- What the accessors of a function read in its table.
use Prim.Native.Nat.{ℕ, ◌+◌, ◌*◌, ◌<◌}
use mathlib.Core.Path.{◌≡◌, refl, ap, ◌∙◌}
use mathlib.Core.List.{List}
use native.Mathlib.Omega.{arith}
use lib.ListN.{get_or}
use Rattle.entity.proofs.Laws.{length-built, get_d-built}
use Rattle.function.specs.Function.{ValueData, no_value, num_values, value_bank, remat_cost, remat_class}
use Rattle.function.specs.Table.{value_at, function_of}

module _ (t : List ℕ) where
  pub values-count : num_values (function_of t) ≡ get_or t 16384 0
  unfolding function_of
  values-count = length-built (value_at t) 0 (get_or t 16384 0)

  pub slots-count : (function_of t).slots ≡ get_or t 16385 0
  unfolding function_of
  slots-count = refl

  pub limit_is : (function_of t).limit ≡ get_or t 16386 0
  unfolding function_of
  limit_is = refl

  pub kept-is : (function_of t).kept ≡ get_or t 16387 0
  unfolding function_of
  kept-is = refl

  module _ (v : ℕ) (h : v < num_values (function_of t)) where
    value-is : get_or (function_of t).values v no_value ≡ value_at t v
    unfolding function_of
    value-is = get_d-built (value_at t) 0 (get_or t 16384 0) v no_value (rw values-count at h) ∙ ap (value_at t) (omega arith)

    pub value-bank-is : value_bank (function_of t) v ≡ get_or t (v * 4) 0
    unfolding value_bank value_at
    value-bank-is = ap (λ (x : ValueData). x.bank) value-is

    pub cost-is : remat_cost (function_of t) v ≡ get_or t (1 + v * 4) 0
    unfolding remat_cost value_at
    cost-is = ap (λ (x : ValueData). x.cost) value-is

    pub class-is : remat_class (function_of t) v ≡ get_or t (2 + v * 4) 0
    unfolding remat_class value_at
    class-is = ap (λ (x : ValueData). x.class) value-is
