-- `is_dropped` meets its contract: the writer of the first unit.
use Prim.Native.Nat.{ℕ}
use mathlib.Core.Path.{◌∙◌}
use mathlib.Core.Option.{Option}
use Rattle.entity.proofs.Laws.{has_get_d}
use Rattle.entity.specs.Place.{place_at}
use Rattle.reginfo.specs.RegInfo.{place_units}
use Rattle.reginfo.specs.Table.{reg_info_of}
use Rattle.entries.specs.Table.{is_move_of}
use Rattle.entries.proofs.Writers.{by-found}
use Rattle.entries.proofs.writing.is_dropped.Goals as goal

pub get-requires : goal.get-requires
get-requires c = (c.requires.0, rw c.place_unit.ensures (c.requires.1.low _ (has_get_d (place_units (reg_info_of c.args.t.now) (place_at c.args.dest.0)) 0 c.requires.1.some)))

pub returns-in-Some : goal.returns-in-Some
returns-in-Some c =
    let a = c.args in
    c.is_move.ensures ∙ rw (← c.place_unit.ensures) (by-found (λ (o : Option ℕ). is_move_of a.e.now o a.source.0 a.dest.0 a.v.0) c.get.ensures c.in-Some.is)

pub returns-in-None : goal.returns-in-None
returns-in-None c =
    let a = c.args in
    rw (← c.place_unit.ensures) (by-found (λ (o : Option ℕ). is_move_of a.e.now o a.source.0 a.dest.0 a.v.0) c.get.ensures c.in-None.is)
