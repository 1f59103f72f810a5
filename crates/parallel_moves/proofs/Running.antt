-- The run of a patch.
use Prim.Native.Nat.{ℕ, zero, suc, ◌+◌, ◌*◌, ◌<◌, ◌≤◌}
use mathlib.Core.Path.{◌≡◌, refl, sym, ap, fun_ext, ◌∙◌}
use mathlib.Core.Bool.{Bool, true, false}
use mathlib.Core.List.{List, [], ◌∷◌}
use native.Mathlib.Omega.{arith}
use lib.Dec.{eqb}
use lib.ListN.{length, get_or}
use borrow.Author.Tests.{eq-eqb, ne_eqb}
use Rattle.entity.specs.Logic.{has}
use Rattle.function.specs.Known.{Checked}
use Rattle.function.specs.Table.{function_of}
use Rattle.function.proofs.Laws.{few-slots}
use Rattle.small_set.specs.Set.{set_of, empty_set}
use Rattle.rules.specs.Edit.{and_then, each}
use Rattle.rules.specs.Order.{remat_with_scratch}
use Rattle.rules.specs.Patch.{Patch, run}
use Rattle.edit.specs.Buffer.{count_of, edits_of, Written}
use Rattle.slots.specs.Stacks.{cache_of, stacks_of}
use Rattle.slots.specs.Steps.{Begun}
use Rattle.scratch.specs.declared.Evicted.TheVariants.{Nothing}
use Rattle.scratch.specs.declared.ScratchAllocator.{ScratchAllocator}
use Rattle.scratch.specs.State.{T, F, made_of, evicted_in, Fits, Stacked, owed}
use Rattle.scratch.specs.Promises.{Tables, tables, state_of}
use Rattle.scratch.proofs.Bounds.{fewer, refit}
use Rattle.entries.specs.Table.{sorted_of}
use Rattle.entries.specs.Known.{free_in, EntriesOk}
use Rattle.visits.specs.Marks.{moves_of, remats_of, remats_with_scratch_of}
use Rattle.remats.specs.Remats.{Rematted, RemattedWithScratch}
use Rattle.remats.proofs.Direct.{rematted-fits}
use Rattle.visiting.specs.Steps.{Moves}
use Rattle.parallel_moves.specs.declared.Grant.{Grant}
use Rattle.parallel_moves.specs.Given.{free_from, free_of, with_made, GrantOk}
use Rattle.parallel_moves.specs.Steps.{Ran}

-- a unit is listed as free exactly where its flag is set
free-below : (x b : ℕ) (l : List Bool) → x < b → has x (free_from b l) ≡ false
unfolding free_from has
free-below x b [] h = refl
free-below x b (true ∷ l) h = rw (ne_eqb x b (λ e. omega arith)) (free-below x (b + 1) l (omega arith))
free-below x b (false ∷ l) h = free-below x (b + 1) l (omega arith)

free-at : (i b : ℕ) (l : List Bool) → has (b + i) (free_from b l) ≡ get_or l i false
unfolding free_from has
free-at i b [] = refl
free-at zero b (true ∷ l) = let q : eqb (b + 0) b ≡ true = eq-eqb (b + 0) b (omega arith) in rw q
free-at zero b (false ∷ l) = free-below (b + 0) (b + 1) l (omega arith)
free-at (suc i) b (true ∷ l) = let q : b + suc i ≡ b + 1 + i = omega arith in rw (ne_eqb (b + suc i) b (λ e. omega arith)) (ap (λ (n : ℕ). has n (free_from (b + 1) l)) q ∙ free-at i (b + 1) l)
free-at (suc i) b (false ∷ l) = let q : b + suc i ≡ b + 1 + i = omega arith in ap (λ (n : ℕ). has n (free_from (b + 1) l)) q ∙ free-at i (b + 1) l

pub free-is : (free : List Bool) (u : ℕ) → has u (free_of free) ≡ set_of free u
unfolding set_of
free-is free u = let q : 0 + u ≡ u = omega arith in rw q at (free-at u 0 free)

-- where no unit is given, the set is the empty one
pub settled-none : (given : Bool) (set set' : List Bool) → given ≡ false → set_of set' ≡ empty_set → set_of set' ≡ set_of (free_in given set)
unfolding set_of empty_set
settled-none given set set' q e = rw q e

pub settled-given : (given : Bool) (set : List Bool) → given ≡ true → set_of set ≡ set_of (free_in given set)
settled-given given set q = rw q

-- a run hangs on the set that the flags hold, not on the flags
pub ran-as : (t f cache e : List ℕ) (made : ℕ) (free free' : List Bool) (k : ScratchAllocator) (x : Tables) → set_of free ≡ set_of free' → Ran t f cache e made free k x → Ran t f cache e made free' k x
ran-as t f cache e made free free' k x q h = record { is = λ p same. h.is p (λ u. rw q (same u)); fits = h.fits }

module _ (t f cache e w : List ℕ) (known : Checked t f) (ok : EntriesOk t f e w) (g : Grant) (granted : GrantOk f g cache) where
  -- the tables as a run begins
  module _ (edits slots : List ℕ) (none : edits_of edits ≡ []) (nil : count_of edits ≡ 0) (written : Written edits) (begun : Begun cache slots) (k₀ : ScratchAllocator) (new : (evicted_in k₀ ≡ Nothing) × (made_of k₀ ≡ g.made)) where
    low : Stacked (stacks_of slots cache)
    low = rw begun.stacks (λ z s h. omega (arith, granted.stacks.below s z h, granted.made, granted.limit, few-slots (T t) (function_of f) known.function))

    fits₀ : Fits 0 2 1024 t k₀ edits slots cache
    fits₀ =
        record {
          few = omega (arith, nil, ap owed new.0);
          most = 0;
          put = begun.fits;
          own = omega arith;
          made = omega (arith, new.1, granted.made, granted.limit);
          stacked = low;
          held = rw new.0 tt;
          written = written;
          untouched = begun.untouched;
        }

    few-places : length (moves_of e) + (length (remats_of e) + length (remats_with_scratch_of e)) ≤ 128
    few-places = omega (arith, ok.few, ok.most)

    pub remats-room : count_of edits + length (remats_of e) ≤ 1024
    remats-room = omega (arith, nil, few-places)

    module _ (free : List Bool) (k₁ : ScratchAllocator) (edits₁ : List ℕ) (available₁ : List Bool) (direct : Rematted t (remats_of e) k₀ edits free k₁ edits₁ available₁) where
      pub scratch-room : Fits 0 2 (5 * length (remats_with_scratch_of e) + 8) t k₁ edits₁ slots cache
      scratch-room =
          fewer (omega arith) (omega arith) (omega arith)
          (rematted-fits {a = 0} {b = 2} {n = 5 * length (remats_with_scratch_of e) + 8} direct (fewer {n' = 5 * length (remats_with_scratch_of e) + 8 + length (remats_of e)} (omega arith) (omega arith) (omega (arith, few-places)) fits₀))

      module _ (k₂ : ScratchAllocator) (x₂ : Tables) (rematted : RemattedWithScratch t f cache (length (remats_with_scratch_of e)) k₁ (tables edits₁ available₁ slots) k₂ x₂ (each (remat_with_scratch (T t) (F f)) (remats_with_scratch_of e))) where
        pub moves-room : Fits 0 2 (8 * length (moves_of e)) t k₂ x₂.edits x₂.slots cache
        moves-room =
            refit (8 * length (moves_of e))
            (let q : owed (evicted_in k₁) ≡ 0 = rw (direct.kept, new.0) in omega (arith, rematted.few, direct.count, nil, few-places)) rematted.fits

        begin-is : (p : Patch) → ((u : ℕ) → has u p.free ≡ set_of free u) → state_of t f cache k₀ (tables edits free slots) ≡ record { edits = []; available = λ u. has u p.free; evicted = []; cache = with_made g.made (cache_of cache); met = 0 }
        begin-is p q =
            let a : set_of free ≡ (λ u. has u p.free) = fun_ext (λ u. sym (q u)) in
            rw (none, begun.stacks, a, begun.met, new.0, new.1)

        pub ran : (k₃ : ScratchAllocator) (x₃ : Tables) → Moves t f cache e k₂ x₂ k₃ x₃ → Ran t f cache e g.made free k₃ x₃
        unfolding run and_then sorted_of
        ran k₃ x₃ m = record { is = λ p q. rw (← begin-is p q, ← direct.is f cache slots, rematted.is) m.is; fits = m.fits }
