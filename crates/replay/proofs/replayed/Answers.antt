use native.Mathlib.Omega.{arith}
use Prim.Native.Nat.{ℕ}
use mathlib.Core.Path.{sym}
use lib.ListN.{length-replicate}
use lib.Seq.{length-take-le}
use Rattle.records.specs.Told.{text_of}
use Rattle.records.proofs.Showing.{shown}
use Rattle.replay.proofs.Replaying.{not-told, compared}
use Rattle.replay.proofs.replayed.Goals as goal

pub returns-then-n-eq0 : goal.returns-then-n-eq0
returns-then-n-eq0 c =
    let a = c.args in
    let p = c.put_text-n in
    not-told a.kept_evictions a.job.now a.text.now _ p.new.out p.result p.ensures (length-replicate {A = ℕ} 65536 0) c.if-n-eq0.true

pub slice_bounds-out-end : goal.slice_bounds-out-end
slice_bounds-out-end c =
    let p = c.put_text-n in
    let w = shown _ p.new.out (text_of c.args.kept_evictions c.args.job.now) p.result p.ensures c.if-n-eq0.false in
    omega (arith, w.0, length-replicate {A = ℕ} 65536 0)

pub slice_bounds-same-end : goal.slice_bounds-same-end
slice_bounds-same-end c =
    let p = c.put_text-n in
    let w = shown _ p.new.out (text_of c.args.kept_evictions c.args.job.now) p.result p.ensures c.if-n-eq0.false in
    sym (length-take-le p.result p.new.out (omega (arith, w.0, p.auto.out)))

pub returns : goal.returns
returns c =
    let a = c.args in
    let p = c.put_text-n in
    compared a.kept_evictions a.job.now a.text.now _ p.new.out p.result p.ensures (length-replicate {A = ℕ} 65536 0) c.if-n-eq0.false c.same.result c.same.ensures
