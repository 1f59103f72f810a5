-- `scratch::ScratchAllocator::make_available` meets its contract.
use mathlib.Core.Path.{refl}
use Rattle.entity.specs.Place.{place_at}
use Rattle.scratch.proofs.Outcomes.{units-available}
use Rattle.scratch.proofs.ScratchAllocator.make_available.Goals as goal

pub returns : goal.returns
returns c = let a = c.args in (refl, λ f cache edits slots. units-available _ f cache (place_at a.p.0) a.self edits slots _ _ c.insert_units.ensures)
