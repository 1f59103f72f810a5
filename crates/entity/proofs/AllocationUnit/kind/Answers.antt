-- `AllocationUnit::kind` meets its contract: below 512 a register unit.
use native.Mathlib.Omega.{arith}
use borrow.Author.Tests.{lt-ltb, le-ltb}
use Rattle.entity.specs.Place.{unit_at}
use Rattle.entity.proofs.AllocationUnit.kind.Goals as goal

pub returns-in-0-to-511 : goal.returns-in-0-to-511
unfolding unit_at
returns-in-0-to-511 c = rw (lt-ltb c.args.self.0 512 (omega arith))

pub returns-in_default : goal.returns-in_default
unfolding unit_at
returns-in_default c = rw (le-ltb c.args.self.0 512 (omega arith))
