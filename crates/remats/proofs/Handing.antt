-- Rebuilds without scratch handed out as they stand, and the run of a patch that has nothing else.
use Prim.Native.Nat.{ℕ, zero, suc, ◌+◌, ◌<◌, ◌≤◌}
use mathlib.Core.Path.{◌≡◌, refl, sym, ap, ◌∙◌}
use mathlib.Core.Bool.{true}
use mathlib.Core.List.{List, [], ◌∷◌, ◌++◌, append_assoc, append-nil}
use mathlib.Core.Option.{some}
use native.Mathlib.Omega.{arith}
use native.Mathlib.Numerals.{add-one}
use lib.Dec.{eqb}
use lib.ListN.{length, get_or, take, drop, set}
use lib.Seq.{take-suc-set, drop-set-lt}
use borrow.Author.Tests.{eqb-true}
use Rattle.entity.specs.Logic.{has, indices}
use Rattle.entity.proofs.Laws.{and-true}
use Rattle.reginfo.specs.RegInfo.{RegInfo}
use Rattle.function.specs.Function.{Function}
use Rattle.rules.specs.Edit.{Edit, Rematerialize, and_then, each}
use Rattle.rules.specs.Scratch.{Cache, ScratchAllocator}
use Rattle.rules.specs.Order.{Remat, remats, do_remat, moves, start, no_remat}
use Rattle.rules.specs.Patch.{Patch, Sorted, resolved, answer_of, run}
use Rattle.edit.specs.Word.{AllInRange}
use Rattle.scratch.proofs.Steps.{all_none}
use Rattle.remats.specs.Remats.{RematsFit, only_remats, last_first}

-- one word more handed out
pub handed-on : (w : ℕ) (ws l : List ℕ) (n at : ℕ) → at < n → at < length l → take at l ++ ((w ∷ ws) ++ drop n l) ≡ take (at + 1) (set l at w) ++ (ws ++ drop n (set l at w))
handed-on w ws l n at a b = rw (add-one at, take-suc-set l at w b, drop-set-lt n l at w a, append_assoc)

module _ (l : List Remat) where
  pub last_step : (n : ℕ) → last_first l (suc n) ≡ Rematerialize (get_or l n no_remat).dest (get_or l n no_remat).value ∷ last_first l n
  unfolding last_first
  last_step n = refl

  pub length_last : (n : ℕ) → length (last_first l n) ≡ n
  unfolding last_first
  length_last zero = refl
  length_last (suc n) = ap suc (length_last n)

  pub last-in-range : (t : List ℕ) → RematsFit t l → (n : ℕ) → n ≤ length l → AllInRange (last_first l n)
  unfolding last_first
  last-in-range t fit zero h = tt
  last-in-range t fit (suc n) h = let x = fit.fits n (omega arith) in (record { to-small = x.small; from-small = omega arith; value-small = x.value }, last-in-range t fit n (omega arith))

none_last : last_first [] 0 ≡ []
unfolding last_first
none_last = refl

none-there : {A : Type 0} (l : List A) → eqb (length l) 0 ≡ true → l ≡ []
none-there [] h = refl
none-there (x ∷ l) h = let z = eqb-true (length (x ∷ l)) 0 h in absurd (omega (arith, z))

-- the first rebuild is the last edit
last_cons : (r : Remat) (l : List Remat) (n : ℕ) → last_first (r ∷ l) (suc n) ≡ last_first l n ++ (Rematerialize r.dest r.value ∷ [])
unfolding last_first
last_cons r l zero = refl
last_cons r l (suc n) = ap (λ (es : List Edit). Rematerialize (get_or l n no_remat).dest (get_or l n no_remat).value ∷ es) (last_cons r l n)

-- what the rebuilds leave of the allocator
module _ (t : RegInfo) (f : Function) where
  remats-edits : (l : List Remat) (k : ScratchAllocator) → (remats t f l k).edits ≡ last_first l (length l) ++ k.edits
  unfolding remats
  remats-edits [] k = empty
    where
      empty : k.edits ≡ last_first [] 0 ++ k.edits
      empty = sym (ap (λ (es : List Edit). es ++ k.edits) none_last)
  remats-edits (r ∷ l) k =
      remats-edits l (do_remat t f r k)
      ∙ sym (ap (λ (es : List Edit). es ++ k.edits) (last_cons r l (length l)) ∙ append_assoc (last_first l (length l)) (Rematerialize r.dest r.value ∷ []) k.edits)

  remats-evicted : (l : List Remat) (k : ScratchAllocator) → (remats t f l k).evicted ≡ k.evicted
  unfolding remats
  remats-evicted [] k = refl
  remats-evicted (r ∷ l) k = remats-evicted l (do_remat t f r k)

  remats-cache : (l : List Remat) (k : ScratchAllocator) → (remats t f l k).cache ≡ k.cache
  unfolding remats
  remats-cache [] k = refl
  remats-cache (r ∷ l) k = remats-cache l (do_remat t f r k)

  remats-met : (l : List Remat) (k : ScratchAllocator) → (remats t f l k).met ≡ k.met
  unfolding remats
  remats-met [] k = refl
  remats-met (r ∷ l) k = remats-met l (do_remat t f r k)

  no-moves : (k : ScratchAllocator) → k.evicted ≡ [] → moves t f [] k ≡ some k
  unfolding moves start each and_then indices
  no-moves k h = ap some (all_none t f k h)

  -- the run of a patch with no other entries
  pub only-run : (p : Patch) (a : Sorted) (c : Cache) → only_remats a ≡ true → answer_of (run t f p a c) ≡ resolved (last_first a.remats (length a.remats)) c 0
  unfolding run each and_then
  only-run p a c h =
      let b = and-true (eqb (length a.moves) 0) (eqb (length a.remats_with_scratch) 0) h in
      let k₀ : ScratchAllocator = record { edits = []; available = λ u. has u p.free; evicted = []; cache = c; met = 0 } in
      let k = remats t f a.remats k₀ in
      let is : run t f p a c ≡ some k = rw (none-there a.remats_with_scratch b.1, none-there a.moves b.0) (no-moves k (remats-evicted a.remats k₀)) in
      rw (is, remats-edits a.remats k₀, remats-cache a.remats k₀, remats-met a.remats k₀, append-nil (last_first a.remats (length a.remats)))
