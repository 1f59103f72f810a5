-- The diversion steps are those of the rules' visit: `undivert` as it is, and the search of `divert` before its move is emitted.
use Prim.Native.Nat.{ℕ, pred}
use mathlib.Core.Path.{◌≡◌, refl}
use mathlib.Core.Bool.{Bool, true, false}
use mathlib.Core.List.{List}
use mathlib.Core.Option.{Option, none, some}
use lib.Dec.{eqb}
use borrow.Author.Tests.{eq-eqb}
use Rattle.entity.specs.Logic.{pick}
use Rattle.entity.specs.Place.{Place}
use Rattle.reginfo.specs.RegInfo.{RegInfo, top_level_class, spillslot_size}
use Rattle.function.specs.Function.{Function, value_bank}
use Rattle.rules.specs.Edit.{updated, and_then}
use Rattle.rules.proofs.Steps.{updated-same}
use Rattle.rules.specs.Scratch.{ScratchAllocator, Found, get_scratch_reg, make_unavailable, do_move, release_place}
use Rattle.rules.specs.Order.{KeptMove, ParallelMoves, with_allocator, with_diverted, value, source, cycle_move_sources, emit, divert, lost, undivert}
use Rattle.scratch.specs.Diversions.{Diversion, Diverting, Undiverting, divert_by, undivert_by}

ended : (b : Bool) (o : Option ScratchAllocator) (g : ScratchAllocator → ScratchAllocator) (q : Diversion) (k : ScratchAllocator) (h : ScratchAllocator → ParallelMoves)
    → pick b (and_then o (λ x. some (h (g x)))) (some (h k)) ≡ and_then {A = Undiverting} (pick b (and_then o (λ x. some (record { allocator = g x; diversion = q }))) (some (record { allocator = k; diversion = q }))) (λ x. some (h x.allocator))
unfolding and_then
ended true none g q k h = refl
ended true (some x) g q k h = refl
ended false o g q k h = refl

begun : (o : Option Found) (g : Found → ScratchAllocator) (n : ℕ) (s : Place) (h : Place → ScratchAllocator → Place → Place → Option ParallelMoves)
    → and_then o (λ x. h x.place (g x) s x.place) ≡ and_then {A = Diverting} (and_then o (λ x. some (record { place = x.place; allocator = g x; diversion = record { ref_count = n; alloc = s; scratch = x.place } }))) (λ x. h x.place x.allocator x.diversion.alloc x.diversion.scratch)
unfolding and_then
begun none g n s h = refl
begun (some x) g n s h = refl

-- the diversion of a value in the rules' state
abbrev pub diversion_in : ParallelMoves → ℕ → Diversion
diversion_in w v = record { ref_count = w.diverted.ref_count v; alloc = w.alloc v; scratch = w.scratch v }

module _ (t : RegInfo) (f : Function) (ms : List KeptMove) (w : ParallelMoves) where
  pub undivert-is : (i v : ℕ) (rest : List ℕ)
      → undivert t f ms i v rest w ≡ and_then (undivert_by t f (value_bank f v) v (diversion_in w v) w.allocator) (λ x. some (with_diverted (lost t f ms i v rest w.diverted) (with_allocator x.allocator w)))
  unfolding undivert undivert_by
  undivert-is i v rest =
      rw (updated-same v (pred (w.diverted.ref_count v)) w.diverted.ref_count)
      (ended (eqb (pred (w.diverted.ref_count v)) 0) (do_move t f (value_bank f v) (w.scratch v) (w.alloc v) v w.allocator) (release_place t f (spillslot_size t (value_bank f v)) (w.scratch v)) _ w.allocator
      (λ k. with_diverted (lost t f ms i v rest w.diverted) (with_allocator k w)))

  -- of a diversion that does not live
  pub divert-is : (i added : ℕ) (q : Diversion) → q.ref_count ≡ 0
      → divert t f ms i w
      ≡ and_then (divert_by t f (value_bank f (value t f ms i)) (cycle_move_sources t f ms) added (source t f ms i) q w.allocator)
      (λ x. emit t f ms i x.place (record { allocator = x.allocator; state = w.state; alloc = updated (value t f ms i) x.diversion.alloc w.alloc; scratch = updated (value t f ms i) x.diversion.scratch w.scratch; diverted = w.diverted }))
  unfolding divert divert_by
  divert-is i added q z =
      rw (eq-eqb q.ref_count 0 z)
      (begun (get_scratch_reg t f (value_bank f (value t f ms i)) (top_level_class t (value_bank f (value t f ms i))) (cycle_move_sources t f ms) w.allocator) (λ x. make_unavailable t f x.place x.scratch) added (source t f ms i)
      (λ p k a s. emit t f ms i p (record { allocator = k; state = w.state; alloc = updated (value t f ms i) a w.alloc; scratch = updated (value t f ms i) s w.scratch; diverted = w.diverted })))
