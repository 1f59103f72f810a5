use native.Mathlib.Omega.{arith}
use Rattle.rewrite.proofs.Rewriting.{begun, no_number, one_number}
use Rattle.rewrite.proofs.decode.Goals as goal

pub loop-at-init : goal.loop-at-init
loop-at-init c =
    let args = c.args in
    begun args.s.now args.numbers.now c.told-numbers

pub returns-in-Refused : goal.returns-in-Refused
returns-in-Refused c =
    let args = c.args in
    let loop = c.loop-at in
    let read = c.read in
    no_number args.s.now loop.numbers loop.at loop.n loop.invariant read.result read.ensures _ c.in-Refused.is

pub loop-at-preserved : goal.loop-at-preserved
loop-at-preserved c =
    let args = c.args in
    let pre = c.requires in
    let shared-slice-known = c.shared_slice_known-1 in
    let loop = c.loop-at in
    let loop-test = c.loop-at-test in
    let read = c.read in
    one_number args.s.now loop.numbers loop.at loop.n loop.invariant read.result read.ensures _ _ c.in-Is.is
    (λ i. omega (arith, shared-slice-known.given i)) (pre) loop-test.true
