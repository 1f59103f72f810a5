-- `held` meets its contract: what is written is the job, or is refused.
use mathlib.Core.Path.{sym, ◌∙◌}
use lib.Seq.{length-take-le}
use Rattle.entity.proofs.Laws.{no_false}
use Rattle.rewrite.proofs.Rewriting.{refused_as, written_as, same-job}
use Rattle.rewrite.proofs.held.Goals as goal

pub returns-then-agrees : goal.returns-then-agrees
returns-then-agrees c x out₀ h = (_, refused_as x out₀ c.args.out.now c.args.written h _ c.in-Refused.is, sym c.agrees.ensures ∙ c.if-agrees.true)

pub slice_bounds-same-end : goal.slice_bounds-same-end
slice_bounds-same-end c = sym (length-take-le _ c.args.out.now (c.requires _ c.in-Bytes.is))

pub returns-then-same : goal.returns-then-same
returns-then-same c x out₀ h =
    (same-job c.args.s.now x _ _ (written_as x out₀ c.args.out.now c.args.written h _ c.in-Bytes.is).1 c.same.ensures c.if-same.true, sym c.agrees-in-Bytes.ensures ∙ no_false c.agrees-in-Bytes.result c.if-not-agrees.false-raw)
