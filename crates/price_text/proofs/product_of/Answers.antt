-- `product_of` meets its contract: the run count is in its range.
use Prim.Native.Nat.{ℕ, ◌*◌}
use mathlib.Core.Path.{sym, ap, ◌∙◌, subst}
use native.Mathlib.Omega.{arith}
use Rattle.price.specs.Exact.{Priced}
use Rattle.price_text.proofs.product_of.Goals as goal

pub whole_product-requires : goal.whole_product-requires
whole_product-requires c =
    let h = rw c.in-Price.is at c.edge_price.ensures in
    subst (λ (x : ℕ). Priced x c.args.runs c.in-Price.e) (sym h.1.whole) h.1

pub returns-in-Price : goal.returns-in-Price
returns-in-Price c =
    let h = rw c.in-Price.is at c.edge_price.ensures in
    c.whole_product.ensures ∙ ap (λ (x : ℕ). c.args.runs * x) h.1.whole

pub returns-in-Refused : goal.returns-in-Refused
returns-in-Refused c =
    let h = rw c.in-Refused.is at c.edge_price.ensures in
    absurd (omega (arith, h.0, c.requires.2))
