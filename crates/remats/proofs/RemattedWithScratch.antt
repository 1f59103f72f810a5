-- Rebuilds with scratch, one after the other.
use Prim.Native.Nat.{ℕ, ◌+◌, ◌*◌, ◌<◌, ◌≤◌}
use mathlib.Core.Path.{◌≡◌, refl, sym, ap, subst, ◌∙◌}
use mathlib.Core.Bool.{Bool, false}
use mathlib.Core.List.{List, ◌∷◌}
use mathlib.Core.Option.{Option, some}
use native.Mathlib.Omega.{arith}
use lib.ListN.{length, get_or, drop, drop_of_length-le}
use Rattle.entity.specs.Place.{place_at}
use Rattle.entity.proofs.Laws.{drop-step}
use Rattle.reginfo.specs.RegInfo.{bank_for_class, spillslot_size}
use Rattle.function.specs.Function.{remat_class}
use Rattle.function.specs.Known.{Checked}
use Rattle.function.specs.Table.{function_of}
use Rattle.rules.specs.Edit.{and_then, each, Rematerialize}
use Rattle.rules.specs.Scratch as rules
use Rattle.rules.specs.Order.{Remat, remat_with_scratch, no_remat}
use Rattle.rules.specs.Sorted.{RematOk}
use Rattle.rules.proofs.Steps.{All}
use Rattle.machine.specs.Paid as machine
use Rattle.machine.proofs.Bound.{scratch-owed}
use Rattle.edit.specs.Buffer.{count_of, edits_of, Written}
use Rattle.search.specs.Search.{barred_by}
use Rattle.scratch.specs.declared.ScratchAllocator.{ScratchAllocator}
use Rattle.scratch.specs.declared.finding.Scratch.{Scratch}
use Rattle.scratch.specs.State.{T, F, evicted_in, allocator_of, Fits, owed}
use Rattle.scratch.specs.Promises.{Tables, tables, state_of, FitsIn, Brought, Found, Moved, Released}
use Rattle.scratch.proofs.Bounds.{fewer, refit, pushed}
use Rattle.scratch.proofs.Unlimited.{same_class, all_placed, owed-is}
use Rattle.entries.specs.Table.{remat_as}
use Rattle.remats.specs.Remats.{through_scratch, Through, RemattedWithScratch}
use Rattle.remats.proofs.Known.{same_ok}

module _ (t f cache : List ℕ) where
  -- the room after the move and the rebuild
  remat-fits : (a b n : ℕ) (k k₁ : ScratchAllocator) (w w₁ : Tables) (by : rules.ScratchAllocator → Option rules.ScratchAllocator) (e : List ℕ) → Moved t f cache k w k₁ w₁ by → count_of e ≡ count_of w₁.edits + 1 → (Written w₁.edits → Written e) → FitsIn t f cache a (b + 1) (n + 5) k w
      → Fits (a + 2) (b + 3) n t k₁ e w₁.slots cache
  remat-fits a b n k k₁ w w₁ by e moved q o h =
      let g : FitsIn t f cache a (b + 1) (n + 1 + 4) k w = fewer (omega arith) (omega arith) (omega arith) h in
      pushed (omega arith) (omega arith) (omega arith) q o (moved.fits a b (n + 1) g)

  -- the scratch moved to the destination, rebuilt and put back
  pub through : (b v to p : ℕ) (k k₁ k₂ k₃ : ScratchAllocator) (w w₁ : Tables) (e s : List ℕ) (l : List Bool)
      → Moved t f cache k w k₁ w₁ (rules.move_edits (T t) (F f) b (place_at to) (place_at p) v)
      → (edits_of e ≡ Rematerialize (place_at p) v ∷ edits_of w₁.edits) × (count_of e ≡ count_of w₁.edits + 1) × (Written w₁.edits → Written e)
      → Released t f cache k₁ (tables e w₁.available w₁.slots) k₂ (tables e w₁.available s) (rules.release_place (T t) (F f) (spillslot_size (T t) b) (place_at p))
      → k₃ ≡ k₂ → allocator_of t k₃ e l s cache ≡ rules.make_available (T t) (F f) (place_at to) (allocator_of t k₂ e w₁.available s cache)
      → Through t f cache k w k₃ (tables e l s) (through_scratch (T t) (F f) b (place_at to) (place_at p) v)
  unfolding through_scratch and_then
  through b v to p k k₁ k₂ k₃ w w₁ e s l moved made released kept marked =
      let put : state_of t f cache k₁ (tables e w₁.available w₁.slots) ≡ rules.push (Rematerialize (place_at p) v) (state_of t f cache k₁ w₁) = rw made.0 in
      record {
        is = rw moved.is (ap some (sym (marked ∙ ap (rules.make_available (T t) (F f) (place_at to)) (released.is ∙ ap (rules.release_place (T t) (F f) (spillslot_size (T t) b) (place_at p)) put))));
        fits = λ a b n h.
            let g : FitsIn t f cache (a + 1 + 1) (b + 3) n k₁ (tables e w₁.available w₁.slots) = fewer (omega arith) (omega arith) (omega arith) (remat-fits a b n k k₁ w w₁ _ e moved made.1 made.2 h) in
            rw kept (released.fits (a + 1) (b + 3) n g);
      }

  module _ (known : Checked t f) (r : Remat) (ok : RematOk (T t) (function_of f) false r) where
    -- five edits at most, made or owed
    five-more : (k k' : ScratchAllocator) (w w' : Tables) → remat_with_scratch (T t) (F f) r (state_of t f cache k w) ≡ some (state_of t f cache k' w') → count_of w'.edits + owed (evicted_in k') ≤ count_of w.edits + owed (evicted_in k) + 5
    five-more k k' w w' e =
        let few : All (λ x. machine.owed x ≤ machine.owed (state_of t f cache k w) + 5) (some (state_of t f cache k' w')) =
        subst (All (λ x. machine.owed x ≤ machine.owed (state_of t f cache k w) + 5)) e (scratch-owed (T t) (F f) known.target (all_placed t f known) r (same_ok t f false r ok) (state_of t f cache k w)) in
        omega (arith, few, owed-is t f cache k w, owed-is t f cache k' w')

  -- a rebuild with scratch
  pub remat-one : Checked t f → (to v b c : ℕ) → RematOk (T t) (function_of f) false (remat_as to v) → (sources : List Bool) (k k₁ k₂ : ScratchAllocator) (w w₁ : Tables) (x : Scratch) (w₂ w₃ : Tables) → FitsIn t f cache 0 2 13 k w
      → c ≡ remat_class (function_of f) v → b ≡ bank_for_class (T t) c
      → Brought t f cache k w k₁ w₁ (rules.unevict_for_reg (T t) (F f) (place_at to)) → Found t f cache k₁ w₁ x w₂ (rules.get_scratch_reg (T t) (F f) b c (barred_by false sources))
      → Through t f cache x.allocator w₂ k₂ w₃ (through_scratch (T t) (F f) b (place_at to) (place_at x.place.0) v)
      → RemattedWithScratch t f cache 1 k w k₂ w₃ (remat_with_scratch (T t) (F f) (remat_as to v))
  unfolding remat_with_scratch through_scratch and_then
  remat-one known to v b c ok sources k k₁ k₂ w w₁ x w₂ w₃ h ec eb brought found on =
      let i = rw (eb, ec) at found.is in
      let j = rw (eb, ec) at on.is in
      let is : remat_with_scratch (T t) (F f) (remat_as to v) (state_of t f cache k w) ≡ some (state_of t f cache k₂ w₃) = rw (same_class f v, ← brought.is, i) j in
      let few = five-more known (remat_as to v) ok k k₂ w w₃ is in
      record {
        is = is;
        fits = fewer (omega arith) (omega arith) (omega arith) (refit 8 (omega (arith, h.few)) (on.fits 0 0 6 (found.fits 0 1 11 (brought.fits 0 2 13 h))));
        few = omega arith;
      }

  -- the first i of the rebuilds made, and the others left to do
  pub record RemattingWithScratch (l : List Remat) (k : ScratchAllocator) (w : Tables) (k' : ScratchAllocator) (w' : Tables) (i : ℕ) : Type 0 where
    pub rest : each (remat_with_scratch (T t) (F f)) l (state_of t f cache k w) ≡ each (remat_with_scratch (T t) (F f)) (drop i l) (state_of t f cache k' w')
    pub fits : FitsIn t f cache 0 2 8 k' w'
    pub few : count_of w'.edits + owed (evicted_in k') ≤ count_of w.edits + owed (evicted_in k) + 5 * i
    pub within : i ≤ length l

  module _ (l : List Remat) (k : ScratchAllocator) (w : Tables) (first : FitsIn t f cache 0 2 (5 * length l + 8) k w) where
    pub rematting-none : RemattingWithScratch l k w k w 0
    rematting-none = record { rest = refl; fits = fewer (omega arith) (omega arith) (omega arith) first; few = omega arith; within = omega arith }

    module _ (i : ℕ) (k' : ScratchAllocator) (w' : Tables) (h : RemattingWithScratch l k w k' w' i) where
      -- room for one more
      pub rematting-fits : i < length l → FitsIn t f cache 0 2 13 k' w'
      rematting-fits n = refit 13 (omega (arith, first.few, h.few)) h.fits

      pub rematting-step : (to v : ℕ) (k'' : ScratchAllocator) (w'' : Tables) → i < length l → place_at to ≡ (get_or l i no_remat).dest → v ≡ (get_or l i no_remat).value
          → RemattedWithScratch t f cache 1 k' w' k'' w'' (remat_with_scratch (T t) (F f) (remat_as to v)) → RemattingWithScratch l k w k'' w'' (i + 1)
      unfolding each and_then
      rematting-step to v k'' w'' n d u one =
          let is : remat_with_scratch (T t) (F f) (get_or l i no_remat) (state_of t f cache k' w') ≡ some (state_of t f cache k'' w'') = rw (d, u) at one.is in
          record {
            rest = h.rest ∙ ap (λ (m : List Remat). each (remat_with_scratch (T t) (F f)) m (state_of t f cache k' w')) (drop-step l i no_remat n) ∙ rw is;
            fits = one.fits;
            few = omega (arith, h.few, one.few);
            within = omega arith;
          }

      pub rematting-end : length l ≤ i → RemattedWithScratch t f cache (length l) k w k' w' (each (remat_with_scratch (T t) (F f)) l)
      unfolding each
      rematting-end n =
          record {
            is = h.rest ∙ ap (λ (m : List Remat). each (remat_with_scratch (T t) (F f)) m (state_of t f cache k' w')) (drop_of_length-le l {i = i} n);
            fits = h.fits;
            few = omega (arith, h.few, h.within);
          }
