use Prim.Native.Nat.{◌+◌, ◌-◌}
use mathlib.Core.Path.{◌≡◌, sym, ◌∙◌}
use Rattle.job_check.proofs.Passing.{refused-here, goes_on, left_over, all_read}
use native.Mathlib.Omega.{arith}
use Rattle.job_check.proofs.check_patches.Goals as goal

pub returns-in-Refused : goal.returns-in-Refused
returns-in-Refused c =
    let args = c.args in
    let loop = c.loop-done in
    let read-accepted = c.read_accepted in
    record { result_value = sym (loop.invariant ∙ refused-here args.t.now args.f.now args.s.now read-accepted.new.free read-accepted.new.e read-accepted.new.w (c.args.count - loop._done) loop.at (omega arith) read-accepted.result read-accepted.ensures _ c.in-Refused.is); anything = (tt, tt, tt) }

pub loop-done-preserved : goal.loop-done-preserved
loop-done-preserved c =
    let args = c.args in
    let loop = c.loop-done in
    let read-accepted = c.read_accepted in
    let e : c.args.count - (loop._done + 1) ≡ c.args.count - loop._done - 1 = omega arith in
    rw e (loop.invariant ∙ goes_on args.t.now args.f.now args.s.now read-accepted.new.free read-accepted.new.e read-accepted.new.w (c.args.count - loop._done) loop.at (omega arith) read-accepted.result read-accepted.ensures _ c.in-At.is)

pub returns-then-at-s : goal.returns-then-at-s
returns-then-at-s c =
    let args = c.args in
    let loop = c.loop-done in
    let if1 = c.if-at-s in
    record { result_value = sym (loop.invariant ∙ left_over args.t.now args.f.now args.s.now (c.args.count - loop._done) loop.at (omega arith) if1.true); anything = (tt, tt, tt) }

pub returns : goal.returns
returns c =
    let args = c.args in
    let loop = c.loop-done in
    let if1 = c.if-at-s in
    record { result_value = sym (loop.invariant ∙ all_read args.t.now args.f.now args.s.now (c.args.count - loop._done) loop.at (omega arith) if1.false); anything = (tt, tt, tt) }
