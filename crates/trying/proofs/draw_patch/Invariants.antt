-- `draw_patch` meets its contract: move by move, in place of what the definition draws from here on.
use Prim.Native.Nat.{◌-◌}
use Rattle.reginfo.specs.Table.{reg_info_of}
use Rattle.function.specs.Table.{function_of}
use Rattle.trying.specs.Drawing.{draw_moves}
use Rattle.trying.proofs.Drawing.{Going}
use Rattle.trying.proofs.draw_patch.Given as goal

abbrev pub invariant-loop-i : goal.invariant-loop-i
invariant-loop-i l = Going l.t l.f l.numbers l.s l.i (l.n - l.i) (draw_moves (reg_info_of l.t) (function_of l.f) l.n l.initial.s)
