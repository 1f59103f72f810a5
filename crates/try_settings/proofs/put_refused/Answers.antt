-- `put_refused` meets its contract: the label is made first.
use Prim.Native.Nat.{ℕ}
use native.Mathlib.Omega.{arith}
use mathlib.Core.Path.{sym}
use borrow.Author.Rules.{rules}
use lib.ListN.{length-replicate}
use lib.Seq.{length-take-le}
use Rattle.print.proofs.Putting.{then-put}
use Rattle.print.proofs.Putting as putting
use Rattle.try_settings.proofs.Laws.{number-few, text-taken, refused-long}
use Rattle.try_settings.proofs.put_refused.Goals as goal

pub put_number-k-requires : goal.put_number-k-requires
put_number-k-requires c = let s = c in let a = c.put_text-at.ensures in record { fits = omega (arith, a.next, putting.same_length a, number-few s.args.number s.requires.0, length-replicate {A = ℕ} 12 0) }

pub slice_bounds-put_row-end : goal.slice_bounds-put_row-end
slice_bounds-put_row-end c =
    let s = c in
    let a = c.put_text-at.ensures in
    let d = c.put_number-k in
    sym (length-take-le d.result d.new.out (omega (arith, a.next, putting.same_length a, d.ensures.next, putting.same_length d.ensures, number-few s.args.number s.requires.0, length-replicate {A = ℕ} 12 0)))

pub put_row-requires : goal.put_row-requires
put_row-requires c =
    let s = c in
    (rw (text-taken (then-put c.put_text-at.ensures c.put_number-k.ensures)) (refused-long s.args.number s.requires.0), s.requires.1)

pub returns : goal.returns
returns c = rw (text-taken (then-put c.put_text-at.ensures c.put_number-k.ensures)) at c.put_row.ensures
