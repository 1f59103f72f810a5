-- Rebuilds without scratch, one after the other.
use Prim.Native.Nat.{ℕ, ◌+◌, ◌<◌, ◌≤◌}
use mathlib.Core.Path.{◌≡◌, refl, sym, ap, ◌∙◌}
use mathlib.Core.Bool.{Bool}
use mathlib.Core.List.{List, [], ◌∷◌}
use native.Mathlib.Omega.{arith}
use lib.ListN.{length, get_or, drop, drop_of_length-le}
use Rattle.entity.specs.Place.{place_at}
use Rattle.entity.proofs.Laws.{drop-step}
use Rattle.rules.specs.Edit.{Rematerialize}
use Rattle.rules.specs.Scratch.{make_available}
use Rattle.rules.specs.Order.{Remat, remats, no_remat}
use Rattle.edit.specs.Buffer.{count_of, edits_of, Written}
use Rattle.scratch.specs.declared.ScratchAllocator.{ScratchAllocator}
use Rattle.scratch.specs.State.{T, F, allocator_of, Fits}
use Rattle.remats.specs.Remats.{Rematted}

module _ (t : List ℕ) (k : ScratchAllocator) (edits : List ℕ) (available : List Bool) where
  pub one-remat : (r : Remat) (to v : ℕ) (k' : ScratchAllocator) (edits' : List ℕ) (available' : List Bool) → place_at to ≡ r.dest → v ≡ r.value
      → (edits_of edits' ≡ Rematerialize (place_at to) v ∷ edits_of edits) × (count_of edits' ≡ count_of edits + 1) × (Written edits → Written edits')
      → (k' ≡ k) × ((f cache edits slots : List ℕ) → allocator_of t k' edits available' slots cache ≡ make_available (T t) (F f) (place_at to) (allocator_of t k edits available slots cache))
      → Rematted t (r ∷ []) k edits available k' edits' available'
  unfolding remats
  one-remat r to v k' edits' available' d u p m =
      record { kept = m.0; count = p.1; written = p.2; is = λ f cache slots. m.1 f cache edits' slots ∙ rw (p.0, d, u) }

  -- the first i of the rebuilds made, and the others left to do
  pub record Rematting (l : List Remat) (k' : ScratchAllocator) (edits' : List ℕ) (available' : List Bool) (i : ℕ) : Type 0 where
    pub kept : k' ≡ k
    pub count : count_of edits' ≡ count_of edits + i
    pub written : Written edits → Written edits'
    pub rest : (f cache slots : List ℕ) → remats (T t) (F f) l (allocator_of t k edits available slots cache) ≡ remats (T t) (F f) (drop i l) (allocator_of t k' edits' available' slots cache)
    pub within : i ≤ length l

  pub rematting-none : (l : List Remat) → Rematting l k edits available 0
  rematting-none l = record { kept = refl; count = omega arith; written = λ o. o; rest = λ f cache slots. refl; within = omega arith }

  pub rematting-step : (l : List Remat) (i : ℕ) (k' : ScratchAllocator) (edits' : List ℕ) (available' : List Bool) (k'' : ScratchAllocator) (edits'' : List ℕ) (available'' : List Bool) → Rematting l k' edits' available' i → i < length l
      → Rematted t (get_or l i no_remat ∷ []) k' edits' available' k'' edits'' available'' → Rematting l k'' edits'' available'' (i + 1)
  unfolding remats
  rematting-step l i k' edits' available' k'' edits'' available'' h n one =
      record {
        kept = one.kept ∙ h.kept;
        count = omega (arith, h.count, one.count);
        written = λ o. one.written (h.written o);
        rest = λ f cache slots. h.rest f cache slots ∙ ap (λ (m : List Remat). remats (T t) (F f) m (allocator_of t k' edits' available' slots cache)) (drop-step l i no_remat n) ∙ ap (remats (T t) (F f) (drop (i + 1) l)) (sym (one.is f cache slots));
        within = omega arith;
      }

  pub rematting-end : (l : List Remat) (i : ℕ) (k' : ScratchAllocator) (edits' : List ℕ) (available' : List Bool) → Rematting l k' edits' available' i → length l ≤ i → Rematted t l k edits available k' edits' available'
  unfolding remats
  rematting-end l i k' edits' available' h n =
      record {
        kept = h.kept;
        count = omega (arith, h.count, h.within);
        written = h.written;
        is = λ f cache slots. sym (h.rest f cache slots ∙ ap (λ (m : List Remat). remats (T t) (F f) m (allocator_of t k' edits' available' slots cache)) (drop_of_length-le l {i = i} n));
      }

-- each takes an edit of the room
pub rematted-fits : {a b n : ℕ} {t : List ℕ} {l : List Remat} {k k' : ScratchAllocator} {edits edits' slots cache : List ℕ} {available available' : List Bool} → Rematted t l k edits available k' edits' available' → Fits a b (n + length l) t k edits slots cache
    → Fits (a + length l) (b + length l) n t k' edits' slots cache
rematted-fits h f =
    rw h.kept (record { few = omega (arith, h.count, f.few); most = f.most; put = f.put; own = omega (arith, h.count, f.own); made = omega (arith, h.count, f.made); stacked = f.stacked; held = f.held; written = h.written f.written; untouched = f.untouched })
