-- `edge_of` meets its contract: both casts and the product are exact.
use mathlib.Core.Path.{refl}
use Rattle.price.proofs.Floats.{in-float, of-exact, mul-exact, wider, below}
use Rattle.price.proofs.edge_of.Goals as goal

pub int_to_float-runs : goal.int_to_float-runs
int_to_float-runs c = in-float _ (wider c.requires.1)

pub int_to_float-price : goal.int_to_float-price
int_to_float-price c = in-float _ (wider c.requires.0)

pub returns : goal.returns
returns c =
    let total = c.requires.0 in
    let count = c.requires.1 in
    record {
      whole = refl;
      runs = of-exact _ (wider count);
      product = mul-exact _ _ _ _ (of-exact _ (wider count)) (of-exact _ (wider total)) (below count total);
    }
