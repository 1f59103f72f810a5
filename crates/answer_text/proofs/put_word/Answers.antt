-- `put_word` meets its contract: no line is longer than 64 bytes.
use mathlib.Core.Path.{sym}
use native.Mathlib.Omega.{arith}
use lib.Seq.{length-take-le}
use borrow.Author.Rules.{rules}
use Rattle.answer_text.proofs.Lines.{line-short, front, within}
use Rattle.answer_text.proofs.put_word.Goals as goal

pub put_line-m-requires : goal.put_line-m-requires
put_line-m-requires c = let s = c in record { fits = omega (arith, line-short s.args.k s.args.word (search rules)) }

pub slice_bounds-put_fitting-end : goal.slice_bounds-put_fitting-end
slice_bounds-put_fitting-end c = let p = c.put_line-m in sym (length-take-le p.result p.new.out (within p.ensures))

pub returns : goal.returns
returns c =
    let f = c in
    let p = f.put_line-m in
    rw (front p.ensures) at f.put_fitting.ensures
