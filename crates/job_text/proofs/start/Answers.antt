use Rattle.job_text.specs.declared.Progress.{Progress}
use mathlib.Core.Path.{ap, ◌∙◌}
use Rattle.job_text.proofs.Opening.{turned-away, begun-stands}
use native.Mathlib.Omega.{arith}
use Rattle.job_text.proofs.start.Goals as goal

pub returns-in-Refused : goal.returns-in-Refused
returns-in-Refused c =
    let s = c in
    let read = c.read_opening in
    let end = c.refuse in
    (turned-away _ s.args.s.now read.new.t read.new.f s.args.cache.now s.args.out.now end.new.out _ c.begun.result end.result (rw c.in-Refused.is at read.ensures) c.begun.ensures end.ensures.0 end.ensures.1, end.ensures.0.kept ∙ ap (λ (p : Progress). p.written) c.begun.ensures)

pub returns-in-Is : goal.returns-in-Is
returns-in-Is c =
    let s = c in
    let read = c.read_opening in
    let clear = c.clear in
    (rw c.begun-in-Is.ensures (begun-stands _ s.args.s.now read.new.t read.new.f clear.new.cache s.args.out.now _ _ (rw c.in-Is.is at read.ensures) clear.ensures (omega arith)), ap (λ (p : Progress). p.written) c.begun-in-Is.ensures)
