-- `push_reload` meets its contract: the word that is pushed is the edit's.
use native.Mathlib.Omega.{arith}
use Rattle.rules.specs.Edit.{EmergencyReload}
use Rattle.edit.proofs.Laws.{as-edit, written}
use Rattle.edit.proofs.push_reload.Goals as goal

pub returns : goal.returns
returns c =
    let s = c in
    (as-edit s.args.e.now _ c.reload_word.result (EmergencyReload s.args.r.0 s.args.s.0) (record { to-small = omega arith; from-small = omega arith; value-small = omega arith }) c.reload_word.ensures c.push.ensures.0, c.push.ensures.1, written s.args.e.now _ c.reload_word.result (EmergencyReload s.args.r.0 s.args.s.0) (record { to-small = omega arith; from-small = omega arith; value-small = omega arith }) c.reload_word.ensures c.push.ensures.0)
