-- `entry` meets its contract: the 192 numbers are the lists and the rows, computed.
use mathlib.Core.Path.{refl}
use Rattle.entity.specs.Logic.{indices}
use Rattle.shipped.specs.Shipped.{shipped_units, shipped_row}
use Rattle.shipped.specs.Table.{joined, table}
use Rattle.shipped.proofs.entry.Goals as goal

pub returns : goal.returns
unfolding table joined shipped_units shipped_row indices
returns c = refl
