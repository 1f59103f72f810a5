-- The text of 1,024 edits has room.
use mathlib.Core.Path.{◌≡◌}
use lib.ListN.{length, take}
use lib.Seq.{length-take-le}
use Rattle.print.proofs.Lengths.{words-short}
use native.Mathlib.Omega.{arith}
use Rattle.schedule.proofs.put_patch.Goals as goal

pub put_patch-requires : goal.put_patch-requires
put_patch-requires c =
    let a = c.args in
    let pre = c.requires in
    let len : length a.list.now ≡ 1024 = c.told-list in
    let short : length (take a.count a.list.now) ≡ a.count = length-take-le a.count a.list.now (omega (arith, pre.1)) in
    (omega (arith, pre.1), record { fits = omega (arith, words-short 1 (take a.count a.list.now) c.from.result (omega arith) (omega (arith, pre.1)) (omega arith), pre.0, pre.1) })
