-- `scratch::ScratchAllocator::mark_ends` meets its contract.
use mathlib.Core.Path.{ap, ◌∙◌}
use Rattle.entity.specs.Place.{place_at}
use Rattle.rules.specs.Scratch.{make_unavailable}
use Rattle.scratch.specs.State.{T, F}
use Rattle.scratch.proofs.ScratchAllocator.mark_ends.Goals as goal

pub returns : goal.returns
returns c =
    let a = c.args in
    let marked = c.make_available-marked.ensures in
    let then = c.make_unavailable.ensures in
    (then.0 ∙ marked.0, λ f cache edits slots. then.1 f cache edits slots ∙ ap (make_unavailable (T a.t.now) (F f) (place_at a.from.0)) (marked.1 f cache edits slots))
