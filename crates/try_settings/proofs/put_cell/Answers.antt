-- `put_cell` meets its contract: blanks, then the number.
use Prim.Native.Nat.{ℕ}
use native.Mathlib.Omega.{arith}
use mathlib.Core.Path.{sym}
use borrow.Author.Rules.{rules}
use lib.ListN.{length-replicate}
use lib.Seq.{length-take-le}
use Rattle.print.proofs.Putting as putting
use Rattle.try_settings.proofs.Laws.{blanks-long, number-long, text-taken, cell-put}
use Rattle.try_settings.proofs.put_cell.Goals as goal

pub put_number-k-requires : goal.put_number-k-requires
put_number-k-requires c = let s = c in record { fits = omega (arith, number-long s.args.x (omega arith), length-replicate {A = ℕ} 20 0) }

pub slice_bounds-put_text-end : goal.slice_bounds-put_text-end
slice_bounds-put_text-end c =
    let s = c in
    let d = c.put_number-k in
    sym (length-take-le d.result d.new.out (omega (arith, d.ensures.next, number-long s.args.x (omega arith), putting.same_length d.ensures, length-replicate {A = ℕ} 20 0)))

pub put_text-requires : goal.put_text-requires
put_text-requires c =
    let s = c in
    let d = c.put_number-k in
    let b = c.put_blanks-at in
    let n = number-long s.args.x (omega arith) in
    rw (text-taken d.ensures) (record { fits = omega (arith, b.ensures.next, putting.same_length b.ensures, blanks-long c.blanks_left-left.result (omega arith), c.blanks_left-left.ensures, d.ensures.next, n, s.requires) })

pub returns : goal.returns
returns c =
    let s = c in
    let d = c.put_number-k in
    let b = c.put_blanks-at in
    let t = c.put_text in
    cell-put s.args.out.now b.new.out t.new.out d.new.out s.args.n s.args.x d.result c.blanks_left-left.result b.result t.result
    (omega (arith, d.ensures.next)) (omega (arith, d.ensures.next, number-long s.args.x (omega arith))) c.blanks_left-left.ensures (text-taken d.ensures) b.ensures t.ensures
