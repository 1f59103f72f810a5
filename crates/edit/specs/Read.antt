-- What a word read by the code stands for.
use Rattle.std.specs.Prelude as std
use Rattle.std.specs.Prelude.{Some, None}
use Rattle.std.proofs.Math.Option.{Option, none, some}
use Rattle.entity.specs.Place.{place_at}
use Rattle.rules.specs.Edit as rule
use Rattle.edit.specs.declared.Edit.{Edit}
use Rattle.edit.specs.declared.Edit.TheVariants.{Move, Rematerialize, EmergencySpill, EmergencyReload}

abbrev pub read_of : std.Option Edit → Option rule.Edit
read_of (Some (Move to from v)) = some (rule.Move (place_at to.0) (place_at from.0) v.0)
read_of (Some (Rematerialize to v)) = some (rule.Rematerialize (place_at to.0) v.0)
read_of (Some (EmergencySpill s r)) = some (rule.EmergencySpill s.0 r.0)
read_of (Some (EmergencyReload r s)) = some (rule.EmergencyReload r.0 s.0)
read_of None = none
