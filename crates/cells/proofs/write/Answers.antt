-- `write` meets its contract: by the kind of the place.
use Prim.Native.Nat.{ℕ, ◌+◌}
use mathlib.Core.Path.{refl, sym, ap, ◌∙◌}
use native.Mathlib.Omega.{arith}
use Rattle.rules.specs.Edit.{updated}
use Rattle.entity.specs.Place.{Place, reg, slot}
use Rattle.reginfo.specs.Table.{reg_info_of}
use Rattle.reginfo.proofs.Laws.{by_kind}
use Rattle.machine.specs.Machine.{write}
use Rattle.cells.specs.Cells.{memory_of, words_in, Celled}
use Rattle.cells.proofs.Laws.{mem, write-memory, write-units, of-kind, cell-low}
use Rattle.cells.proofs.write.Goals as goal

pub set_list-requires : goal.set_list-requires
set_list-requires c = let s = c in let k = of-kind (Celled (reg_info_of s.args.t.now)) s.requires.1 c.kind.ensures c.in-PhysReg.is in (s.requires.0, rw c.reg_cell.ensures (cell-low (reg_info_of s.args.t.now) (reg c.in-PhysReg.r.0) k), s.requires.2)

pub returns-then-is_memory_reg : goal.returns-then-is_memory_reg
returns-then-is_memory_reg c = let s = c in let t = reg_info_of s.args.t.now in let m = memory_of s.args.c.now in let ws = words_in s.args.b.now in (λ f. c.set_list.ensures.0 ∙ ap (λ (n : ℕ). mem m.word (updated n ws m.lists)) c.reg_cell.ensures ∙ sym (write-memory t f m (reg c.in-PhysReg.r.0) ws (sym c.is_memory_reg.ensures ∙ c.if-is_memory_reg.true)) ∙ by_kind (λ (q : Place). write t f q ws m) c.kind.ensures c.in-PhysReg.is, c.set_list.ensures.1)

pub set_list-requires-in-SpillSlot : goal.set_list-requires-in-SpillSlot
set_list-requires-in-SpillSlot c = let s = c in let k = of-kind (Celled (reg_info_of s.args.t.now)) s.requires.1 c.kind.ensures c.in-SpillSlot.is in (s.requires.0, omega (arith, c.from.ensures, cell-low (reg_info_of s.args.t.now) (slot c.in-SpillSlot.s.0) k), s.requires.2)

pub returns-else-is_memory_reg : goal.returns-else-is_memory_reg
returns-else-is_memory_reg c = let s = c in let t = reg_info_of s.args.t.now in let m = memory_of s.args.c.now in let ws = words_in s.args.b.now in (λ f. c.set_units.ensures.0 ∙ sym (write-units t f m (reg c.in-PhysReg.r.0) ws (sym c.is_memory_reg.ensures ∙ c.if-is_memory_reg.false)) ∙ by_kind (λ (q : Place). write t f q ws m) c.kind.ensures c.in-PhysReg.is, c.set_units.ensures.1)

pub returns-in-SpillSlot : goal.returns-in-SpillSlot
returns-in-SpillSlot c = let s = c in let t = reg_info_of s.args.t.now in let m = memory_of s.args.c.now in let ws = words_in s.args.b.now in (λ f. c.set_list-in-SpillSlot.ensures.0 ∙ ap (λ (n : ℕ). mem m.word (updated (512 + n) ws m.lists)) c.from.ensures ∙ sym (write-memory t f m (slot c.in-SpillSlot.s.0) ws refl) ∙ by_kind (λ (q : Place). write t f q ws m) c.kind.ensures c.in-SpillSlot.is, c.set_list-in-SpillSlot.ensures.1)
