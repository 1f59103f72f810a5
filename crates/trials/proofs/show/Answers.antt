use native.Mathlib.Omega.{arith}
use Prim.Native.Nat.{ℕ}
use lib.ListN.{length-replicate}
use lib.Seq.{length-take-le}
use Rattle.records.specs.Told.{text_of}
use Rattle.records.proofs.Showing.{shown}
use Rattle.trials.proofs.show.Goals as goal

pub slice_bounds-out-end : goal.slice_bounds-out-end
slice_bounds-out-end c =
    let p = c.put_text-n in
    let w = shown _ p.new.out (text_of c.args.kept_evictions c.args.job.now) p.result p.ensures c.if-n-eq0.false in
    omega (arith, w.0, length-replicate {A = ℕ} 65536 0)

pub slice_bounds-write_all-end-2 : goal.slice_bounds-write_all-end-2
slice_bounds-write_all-end-2 c =
    let p = c.put_text-n in
    let w = shown _ p.new.out (text_of c.args.kept_evictions c.args.job.now) p.result p.ensures c.if-n-eq0.false in
    let q = length-take-le p.result p.new.out (omega (arith, w.0, p.auto.out, length-replicate {A = ℕ} 65536 0)) in
    omega (arith, q)
