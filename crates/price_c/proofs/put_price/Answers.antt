-- `put_price` meets its contract: a run count in its range is not refused.
use mathlib.Core.Path.{refl}
use native.Mathlib.Omega.{arith}
use Rattle.price_c.proofs.Laws.{within}
use Rattle.price_c.proofs.put_price.Goals as goal

pub edge_price-requires : goal.edge_price-requires
edge_price-requires c = let a = c.args in ((within a.p a.runs c.requires.0).1, c.requires.1)

pub returns-in-Refused : goal.returns-in-Refused
returns-in-Refused c =
    let h = rw c.in-Refused.is at c.edge_price.ensures in
    let s = c in
    absurd (omega (arith, h.0, (within s.args.p s.args.runs s.requires.0).0))

pub returns-in-Price : goal.returns-in-Price
returns-in-Price c =
    let h = rw c.in-Price.is at c.edge_price.ensures in
    rw c.requires.0 (refl, h.1)
