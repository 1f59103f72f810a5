-- `put_blanks` meets its contract.
use native.Mathlib.Omega.{arith}
use mathlib.Core.Path.{sym}
use borrow.Author.Rules.{rules}
use Rattle.try_settings.proofs.Laws.{blanks-long}
use Rattle.try_settings.proofs.put_blanks.Goals as goal

pub slice_bounds-put_text-end : goal.slice_bounds-put_text-end
slice_bounds-put_text-end c = let s = c in sym (blanks-long s.args.k s.requires.0)

pub put_text-requires : goal.put_text-requires
put_text-requires c = let s = c in record { fits = omega (arith, blanks-long s.args.k s.requires.0, s.requires.1) }
