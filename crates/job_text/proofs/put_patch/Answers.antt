use Rattle.print.proofs.Lengths.{words-short}
use lib.Seq.{length-take-le}
use lib.ListN.{length, take}
use mathlib.Core.Path.{◌≡◌}
use native.Mathlib.Omega.{arith}
use Rattle.job_text.proofs.put_patch.Goals as goal

pub put_patch-requires : goal.put_patch-requires
put_patch-requires c =
    let a = c.args in
    let pre = c.requires in
    let len : length a.list.now ≡ 1024 = c.told-list in
    let short : length (take a.count a.list.now) ≡ a.count = length-take-le a.count a.list.now (omega (arith, pre.2)) in
    (omega (arith, pre.2), record { fits = omega (arith, words-short a.k (take a.count a.list.now) a.made (omega (arith, pre.1)) (omega (arith, pre.2)) (omega (arith, pre.3)), pre.0, pre.2) })

pub returns : goal.returns
returns c =
    let a = c.args in
    let pre = c.requires in
    let len : length a.list.now ≡ 1024 = c.told-list in
    let short : length (take a.count a.list.now) ≡ a.count = length-take-le a.count a.list.now (omega (arith, pre.2)) in
    let put = c.put_patch.ensures.0 in
    (put, omega (arith, put.next, words-short a.k (take a.count a.list.now) a.made (omega (arith, pre.1)) (omega (arith, pre.2)) (omega (arith, pre.3)), pre.2))
