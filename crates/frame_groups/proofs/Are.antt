-- What the contract says a call by groups is answered is the rules' answer.
use mathlib.Core.Path.{◌≡◌, refl, ap}
use Rattle.reginfo.specs.Table.{reg_info_of}
use Rattle.rules.specs.Patch.{unless_refused}
use Rattle.calls.specs.Call.{free_refusal}
use Rattle.frame_table.specs.Table.{reach_of}
use Rattle.frame_table.proofs.Held.{reach-held}
use Rattle.frame_rules.specs.Frame.{reach}
use Rattle.group_calls.specs.Call.{call_by_groups}
use Rattle.group_rules.specs.Frame.{groups_in}
use Rattle.frame_groups.specs.Are.{GroupsAre}

pub groups-are : GroupsAre
unfolding call_by_groups groups_in
groups-are frame s holds kept i h t f cache target_is function-is stacks-are free numbers room =
    let far : reach_of frame i ≡ reach s i = reach-held frame s holds kept i h in
    ap (unless_refused (free_refusal (reg_info_of t).units free)) (rw (target_is, function-is, far, stacks-are, holds.counter) refl)
