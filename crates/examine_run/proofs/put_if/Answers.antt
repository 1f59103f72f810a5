-- `put_if` meets its contract: the place takes so many, or not.
use mathlib.Core.Path.{sym, ◌∙◌}
use borrow.Author.Tests.{not-true, not-false}
use Rattle.entity.specs.Place.{place_at}
use Rattle.reginfo.specs.Table.{reg_info_of}
use Rattle.cells.specs.Cells.{memory_of, words_in}
use Rattle.cells.proofs.Laws.{words-length}
use Rattle.examine_run.proofs.Laws.{put-no, put-yes, fits-takes, some_function}
use Rattle.examine_run.proofs.put_if.Goals as goal

pub returns-then-not-fits : goal.returns-then-not-fits
returns-then-not-fits c = let s = c in let b = s.args.b.now in (λ f. put-no (reg_info_of s.args.t.now) f (place_at s.args.p.0) (words_in b) (memory_of s.args.c.now) (memory_of s.args.c.now) c.from.result (c.from.ensures ∙ sym (words-length b)) (sym (c.before.fits.ensures f) ∙ not-true c.before.fits.result c.if-not-fits.true-raw), s.requires.0)

pub write-requires : goal.write-requires
write-requires c = let s = c in let t = reg_info_of s.args.t.now in (s.requires.0, s.requires.1, s.requires.2, λ z. sym c.from.ensures ∙ fits-takes t some_function (place_at s.args.p.0) c.from.result (sym (c.before.before.fits.ensures some_function) ∙ not-false c.before.before.fits.result c.if-not-fits.false-raw) z)

pub returns : goal.returns
returns c = let s = c in let b = s.args.b.now in (λ f. put-yes (reg_info_of s.args.t.now) f (place_at s.args.p.0) (words_in b) (memory_of s.args.c.now) _ c.from.result (c.from.ensures ∙ sym (words-length b)) (sym (c.before.before.before.fits.ensures f) ∙ not-false c.before.before.before.fits.result c.if-not-fits.false-raw) (c.write.ensures.0 f), c.write.ensures.1)
