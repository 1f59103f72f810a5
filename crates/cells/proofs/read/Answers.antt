-- `read` meets its contract: by the kind of the place.
use Prim.Native.Nat.{ℕ, ◌+◌}
use mathlib.Core.Path.{refl, sym, ap, ◌∙◌}
use native.Mathlib.Omega.{arith}
use Rattle.entity.specs.Place.{reg, slot}
use Rattle.reginfo.specs.Table.{reg_info_of}
use Rattle.reginfo.proofs.Laws.{by_kind}
use Rattle.machine.specs.Machine.{read}
use Rattle.cells.specs.Cells.{memory_of, Celled}
use Rattle.cells.proofs.Laws.{read-memory, read-units, of-kind, cell-low}
use Rattle.cells.proofs.read.Goals as goal

pub get_list-requires : goal.get_list-requires
get_list-requires c = let s = c in let k = of-kind (Celled (reg_info_of s.args.t.now)) s.requires.1 c.kind.ensures c.in-PhysReg.is in (s.requires.0, rw c.reg_cell.ensures (cell-low (reg_info_of s.args.t.now) (reg c.in-PhysReg.r.0) k))

pub returns-then-is_memory_reg : goal.returns-then-is_memory_reg
returns-then-is_memory_reg c = let s = c in let t = reg_info_of s.args.t.now in let m = memory_of s.args.c.now in (λ f. c.get_list.ensures.0 ∙ ap m.lists c.reg_cell.ensures ∙ sym (read-memory t f m (reg c.in-PhysReg.r.0) (sym c.is_memory_reg.ensures ∙ c.if-is_memory_reg.true)) ∙ by_kind (read t f m) c.kind.ensures c.in-PhysReg.is, c.get_list.ensures.1)

pub get_list-requires-in-SpillSlot : goal.get_list-requires-in-SpillSlot
get_list-requires-in-SpillSlot c = let s = c in let k = of-kind (Celled (reg_info_of s.args.t.now)) s.requires.1 c.kind.ensures c.in-SpillSlot.is in (s.requires.0, omega (arith, c.from.ensures, cell-low (reg_info_of s.args.t.now) (slot c.in-SpillSlot.s.0) k))

pub returns-else-is_memory_reg : goal.returns-else-is_memory_reg
returns-else-is_memory_reg c = let s = c in let t = reg_info_of s.args.t.now in let m = memory_of s.args.c.now in (λ f. c.get_units.ensures.0 ∙ sym (read-units t f m (reg c.in-PhysReg.r.0) (sym c.is_memory_reg.ensures ∙ c.if-is_memory_reg.false)) ∙ by_kind (read t f m) c.kind.ensures c.in-PhysReg.is, c.get_units.ensures.1)

pub returns-in-SpillSlot : goal.returns-in-SpillSlot
returns-in-SpillSlot c = let s = c in let t = reg_info_of s.args.t.now in let m = memory_of s.args.c.now in (λ f. c.get_list-in-SpillSlot.ensures.0 ∙ ap (λ (n : ℕ). m.lists (512 + n)) c.from.ensures ∙ sym (read-memory t f m (slot c.in-SpillSlot.s.0) refl) ∙ by_kind (read t f m) c.kind.ensures c.in-SpillSlot.is, c.get_list-in-SpillSlot.ensures.1)
