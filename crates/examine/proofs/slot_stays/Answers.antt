-- `slot_stays` meets its contract: nothing was written there, or it is as it began, or a destination.
use Prim.Native.Nat.{◌+◌}
use mathlib.Core.Path.{sym, ◌∙◌}
use native.Mathlib.Omega.{arith}
use Rattle.entries.specs.Known.{is_written}
use Rattle.examine_rules.specs.Examine.{same_words}
use Rattle.cells.specs.Cells.{memory_of}
use Rattle.examine.proofs.Laws.{or-second, untouched-same}
use Rattle.examine.proofs.slot_stays.Goals as goal

pub returns-then-untouched : goal.returns-then-untouched
returns-then-untouched c =
    let s = c in (
      or-second
          (is_written s.args.w.now (512 + s.args.x))
          (same_words ((memory_of s.args.c.now).lists (512 + s.args.x)) ((memory_of s.args.s.now).lists (512 + s.args.x)))
          (untouched-same s.args.c.now s.args.s.now (512 + s.args.x) (omega (arith, s.requires.3)) (sym c.untouched.ensures ∙ c.if-untouched.true)),
      tt,
      tt,
    )
