-- The line of a refusal has room.
use Rattle.print.proofs.Lengths.{refused-short}
use native.Mathlib.Omega.{arith}
use Rattle.schedule.proofs.put_refused.Goals as goal

pub put_refused-requires : goal.put_refused-requires
put_refused-requires c = record { fits = omega (arith, refused-short c.from.result (omega arith), c.requires) }
