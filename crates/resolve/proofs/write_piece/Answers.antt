use lib.Seq.{length-take-le}
use mathlib.Core.Path.{sym}
use borrow.Author.Rules.{rules}
use Rattle.resolve.proofs.write_piece.Goals as goal

pub slice_bounds-write_all-end : goal.slice_bounds-write_all-end
slice_bounds-write_all-end g c = let s = c in sym (length-take-le s.args.p.held s.args.out.now s.requires.room)

pub emptied-requires : goal.emptied-requires
emptied-requires g c = c.requires.short
