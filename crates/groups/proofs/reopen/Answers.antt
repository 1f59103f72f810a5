-- `reopen` meets its contract: by the place's kind.
use mathlib.Core.Path.{◌∙◌, ap}
use Rattle.entity.specs.Place.{Place}
use Rattle.reginfo.specs.RegInfo.{place_units}
use Rattle.reginfo.specs.Table.{reg_info_of}
use Rattle.reginfo.proofs.Laws.{by_kind, known-kind}
use Rattle.entity.specs.Logic.{and, or, has}
use Rattle.small_set.specs.Set.{set_of}
use Rattle.groups.proofs.Free.{slot-reopened}
use Rattle.groups.proofs.reopen.Goals as goal

pub reopen_reg-requires : goal.reopen_reg-requires
reopen_reg-requires c =
    let args = c.args in
    let pre = c.requires in
    known-kind (reg_info_of args.t.now) (pre) c.kind.ensures c.in-PhysReg.is

pub returns-in-PhysReg : goal.returns-in-PhysReg
returns-in-PhysReg c =
    let args = c.args in
    λ u. c.reopen_reg.ensures u ∙ ap (λ (p : Place). or (and (has u (place_units (reg_info_of args.t.now) p)) (set_of args.free.now u)) (set_of args.out.now u)) (by_kind (λ (p : Place). p) c.kind.ensures c.in-PhysReg.is)

pub returns-in-SpillSlot : goal.returns-in-SpillSlot
returns-in-SpillSlot c =
    let args = c.args in
    λ u. (slot-reopened c.in-SpillSlot.field-0.0 args.free.now args.out.now c.told-free) u ∙ ap (λ (p : Place). or (and (has u (place_units (reg_info_of args.t.now) p)) (set_of args.free.now u)) (set_of args.out.now u)) (by_kind (λ (p : Place). p) c.kind.ensures c.in-SpillSlot.is)
