-- `remat_with_scratch` meets its contract.
use native.Mathlib.Omega.{arith}
use mathlib.Core.List.{[]}
use Rattle.scratch.proofs.Bounds.{fewer}
use Rattle.scratch.specs.Promises.{tables}
use Rattle.remats.proofs.Known.{dest-fits, value-fits, value-known, class-fits, class-known, bank-fits}
use Rattle.remats.proofs.RemattedWithScratch.{remat-one}
use Rattle.remats.proofs.remat_with_scratch.Goals as goal

pub remat_class-c-requires : goal.remat_class-c-requires
remat_class-c-requires c = value-known _ _ c.requires.0 _ _ c.requires.1

pub bank_for_class-b-requires : goal.bank_for_class-b-requires
bank_for_class-b-requires c = let pre = c.requires in class-known _ _ pre.0 _ _ pre.1 _ c.remat_class-c.ensures

pub unevict_for_reg-brought-requires : goal.unevict_for_reg-brought-requires
unevict_for_reg-brought-requires c =
    let pre = c.requires in
    (pre.0, (dest-fits _ _ pre.0 _ _ pre.1).known, fewer (omega arith) (omega arith) (omega arith) pre.2)

pub get_scratch_reg-found-requires : goal.get_scratch_reg-found-requires
get_scratch_reg-found-requires c =
    let pre = c.requires in
    let class = c.remat_class-c.ensures in
    (pre.0, bank-fits _ _ pre.0 _ _ pre.1 _ class _ c.bank_for_class-b.ensures, class-fits _ _ pre.0 _ _ pre.1 _ class, fewer (omega arith) (omega arith) (omega arith) ((c.unevict_for_reg-brought.ensures []).fits 0 2 13 pre.2))

pub through_scratch-requires : goal.through_scratch-requires
through_scratch-requires c =
    let pre = c.requires in
    let class = c.remat_class-c.ensures in
    let found = c.get_scratch_reg-found.ensures in (
      record {
        checked = pre.0;
        bank = bank-fits _ _ pre.0 _ _ pre.1 _ class _ c.bank_for_class-b.ensures;
        to-fits = dest-fits _ _ pre.0 _ _ pre.1;
        from-fits = found.place;
        value = value-fits _ _ pre.0 _ _ pre.1;
      },
      fewer (omega arith) (omega arith) (omega arith) (found.fits 0 1 11 ((c.unevict_for_reg-brought.ensures []).fits 0 2 13 pre.2)),
    )

pub returns : goal.returns
returns c =
    let a = c.args in
    let pre = c.requires in
    let brought = c.unevict_for_reg-brought in
    let found = c.get_scratch_reg-found in
    let l = a.available.now in
    remat-one _ _ _ pre.0 a.to.0 a.v.0 _ _ pre.1 a.sources.now _ brought.result _ _ (tables brought.new.edits l brought.new.slots) found.result (tables found.new.edits l found.new.slots) _ pre.2
    c.remat_class-c.ensures c.bank_for_class-b.ensures (brought.ensures l) found.ensures c.through_scratch.ensures
