-- `scratch::ScratchAllocator::make_unavailable` meets its contract.
use mathlib.Core.Path.{refl}
use Rattle.entity.specs.Place.{place_at}
use Rattle.scratch.proofs.Outcomes.{units-unavailable}
use Rattle.scratch.proofs.ScratchAllocator.make_unavailable.Goals as goal

pub returns : goal.returns
returns c = let a = c.args in (refl, λ f cache edits slots. units-unavailable _ f cache (place_at a.p.0) a.self edits slots _ _ c.remove_units.ensures)
