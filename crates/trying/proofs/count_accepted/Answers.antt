-- `count_accepted` meets its contract.
use native.Mathlib.Omega.{arith}
use Rattle.trying.proofs.Tally.{kinds-left, price-left, words-counted}
use Rattle.trying.proofs.count_accepted.Goals as goal

pub add-requires : goal.add-requires
add-requires c =
    let s = c in
    (omega arith, omega (arith, kinds-left s.args.list.now s.args.tally.now c.count_kinds.new.tally 0 c.count_kinds.ensures s.requires.1 s.requires.2 (omega arith)))

pub add-requires-2 : goal.add-requires-2
add-requires-2 c =
    let s = c in
    let k = c.count_kinds in
    (omega arith, price-left s.args.p s.args.list.now s.args.tally.now k.new.tally c.add.new.tally c.total-total.result s.requires.0 k.ensures c.add.ensures.0 c.total-total.ensures s.requires.1 s.requires.2)

pub returns : goal.returns
returns c =
    let s = c in
    words-counted s.args.p s.args.list.now s.args.tally.now _ _ _ _ c.count_kinds.ensures c.add.ensures.0 c.total-total.ensures c.add-2.ensures.0 c.add-2.ensures.1
