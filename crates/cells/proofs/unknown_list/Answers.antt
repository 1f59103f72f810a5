-- `unknown_list` meets its contract: nine words, the first of which is the cell's own.
use native.Mathlib.Omega.{arith}
use Rattle.cells.proofs.Laws.{unknown-is}
use Rattle.cells.proofs.unknown_list.Goals as goal

pub returns : goal.returns
returns c = (unknown-is c.args.at, omega arith)
