-- `index_source` meets its contract: by the place's kind.
use mathlib.Core.Path.{◌∙◌}
use Rattle.entity.specs.Logic.{twice}
use Rattle.entity.specs.Place.{Place}
use Rattle.reginfo.specs.RegInfo.{place_units}
use Rattle.reginfo.specs.Table.{reg_info_of}
use Rattle.reginfo.proofs.Laws.{by_kind, known-kind}
use Rattle.entries.proofs.Sources.{slot-indexed}
use Rattle.entries.proofs.index.index_source.Goals as goal

pub index_reg-requires : goal.index_reg-requires
index_reg-requires c =
    let s = c in
    (s.requires.0, known-kind (reg_info_of s.args.t.now) s.requires.1.known c.kind.ensures c.in-PhysReg.is, by_kind (λ (p : Place). twice (place_units (reg_info_of s.args.t.now) p)) c.kind.ensures c.in-PhysReg.is ∙ s.requires.1.once)

pub returns-in-PhysReg : goal.returns-in-PhysReg
returns-in-PhysReg c = rw (by_kind (λ (p : Place). p) c.kind.ensures c.in-PhysReg.is) at c.index_reg.ensures

pub returns-in-SpillSlot : goal.returns-in-SpillSlot
returns-in-SpillSlot c =
    let s = c in
    rw (by_kind (λ (p : Place). p) c.kind.ensures c.in-SpillSlot.is) at (slot-indexed (reg_info_of s.args.t.now) s.args.e.now c.in-SpillSlot.field-0.0 s.requires.0)
