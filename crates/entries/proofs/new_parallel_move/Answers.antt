-- `new_parallel_move` meets its contract: with counts of 0 nothing is kept or rebuilt.
use Prim.Native.Nat.{◌+◌}
use mathlib.Core.Path.{◌∙◌}
use lib.ListN.{set, length-set}
use Rattle.entries.proofs.Table.{emptied}
use Rattle.entries.proofs.Writers.{tracked-none}
use Rattle.entries.proofs.new_parallel_move.Goals as goal

pub returns : goal.returns
returns c = let e = emptied (set c.args.e.now 1540 (c.stamp-next.result + 1)) (length-set c.args.e.now 1540 (c.stamp-next.result + 1) ∙ c.told-e) in (e, λ t f. tracked-none _ _ _ _ _ _ e c.clear.ensures)
