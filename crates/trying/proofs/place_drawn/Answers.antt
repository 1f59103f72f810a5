-- `place_drawn` meets its contract: a register or a slot, by the number that the draw comes to.
use native.Mathlib.Omega.{arith}
use Rattle.trying.proofs.Drawing.{counts_of, low-place, register-drawn, slot-drawn}
use Rattle.trying.proofs.place_drawn.Goals as goal

pub overflow_add-i : goal.overflow_add-i
overflow_add-i c = let k = counts_of _ _ c.requires in omega (arith, k.few-regs, k.low-slots)

pub nonzero_rem-i : goal.nonzero_rem-i
nonzero_rem-i c = let k = counts_of _ _ c.requires in omega (arith, k.some-regs)

pub overflow_cast-result : goal.overflow_cast-result
overflow_cast-result c = let k = counts_of _ _ c.requires in omega (arith, k.few-regs, c.if-i-registers.true)

pub returns-then-i-registers : goal.returns-then-i-registers
returns-then-i-registers c = rw (c.num_regs-registers.ensures, c.num_slots.ensures) (register-drawn _ _ (rw (c.num_regs-registers.ensures, c.num_slots.ensures) at c.if-i-registers.true))

pub overflow_cast-result-2 : goal.overflow_cast-result-2
overflow_cast-result-2 c =
    let s = c in
    omega (arith, low-place _ _ s.requires s.args.drawn _ _ c.num_regs-registers.ensures c.num_slots.ensures)

pub returns : goal.returns
returns c = rw (c.num_regs-registers.ensures, c.num_slots.ensures) (slot-drawn _ _ (rw (c.num_regs-registers.ensures, c.num_slots.ensures) at c.if-i-registers.false))
