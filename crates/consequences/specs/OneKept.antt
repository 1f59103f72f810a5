-- 02 i, "the Rust is the reference for 1": with one kept eviction every step of the scratch keeper is 01's, told here in 01's words, of one
-- evicted register or none.
use Rattle.std.specs.Prelude.{ℕ, zero, suc, ◌≤◌, ◌≡◌, Bool, List, [], ◌∷◌, reverse, eqb, length}
use Rattle.std.proofs.Math.Option.{Option, none, some}
use Rattle.entity.specs.Logic.{pick, and, or, any_in, has, indices}
use Rattle.entity.specs.Place.{Place, reg}
use Rattle.reginfo.specs.RegInfo.{RegInfo, bank_for_class, spillslot_size, top_level_class, allocation_order, class_members, includes_spillslots, stack_to_stack_class, overlap, is_memory}
use Rattle.function.specs.Function.{Function, remat_class}
use Rattle.rules.specs.Edit.{Move, Rematerialize, EmergencySpill, and_then, each, find}
use Rattle.rules.specs.Scratch.{Cache, Evicted, ScratchAllocator, Found, push, with_evicted, with_cache, meeting, release, release_place, make_available, make_unavailable, unevict_all, unevict_for_reg, make_room, usable, searched_to, nothing_barred, slot_scratch, evict_last, get_scratch_reg, do_move}
use Rattle.rules.specs.Order.{KeptMove, Remat, Pending, Done, is_new, is_pending, ParallelMoves, with_allocator, with_state, with_diverted, remats, remat_with_scratch, source, dest, value, bank, writers, cycle_move_sources, noted, carried, lost, start}
use Rattle.rules.specs.Patch.{Patch, Sorted, run}

module _ (t : RegInfo) (f : Function) where
  -- "To bring back is to emit the save and put the slot back."
  abbrev pub bring_back : Evicted → ScratchAllocator → ScratchAllocator
  bring_back e k = with_cache (release t f e.size e.slot k.cache) (push (EmergencySpill e.slot e.reg) (with_evicted [] k))

  -- "bring back the evicted register if it overlaps"
  unfoldable pub back_if : Place → List Evicted → ScratchAllocator → ScratchAllocator
  back_if p [] k = k
  back_if p (e ∷ l) k = pick (overlap t p (reg e.reg)) (bring_back e k) k

  abbrev pub back_for : Place → ScratchAllocator → ScratchAllocator
  back_for p k = back_if p k.evicted k

  -- "At the end the evicted register is saved."
  unfoldable pub back_all : List Evicted → ScratchAllocator → ScratchAllocator
  back_all [] k = k
  back_all (e ∷ l) k = bring_back e k

  -- "the evicted register if a member; else bring back the evicted one, take a slot of the bank's size, evict the order's last into it and emit
  -- its reload"
  unfoldable pub evicting : List Evicted → ℕ → ℕ → ℕ → ScratchAllocator → Option Found
  evicting [] n b c k = evict_last t f n b c k
  evicting (e ∷ l) n b c k =
      pick (has e.reg (class_members t c)) (some (record { place = reg e.reg; position = n; scratch = k })) (evict_last t f n b c (bring_back e k))

  -- "Failing that: an emergency slot if the class includes slots", else by an eviction
  unfoldable pub failing : Option ℕ → ℕ → ℕ → ℕ → ScratchAllocator → Option Found
  failing (some r) n b c k = some (record { place = reg r; position = n; scratch = k })
  failing none n b c k = pick (includes_spillslots t c) (slot_scratch t f n b k) (evicting k.evicted n b c k)

  -- "Search for a class: the first register of its order whose units are all available"
  unfoldable pub search : ℕ → ℕ → (ℕ → Bool) → ScratchAllocator → Option Found
  search b c barred k = failing (find (usable t f barred k) (allocation_order t c)) (searched_to t f c barred k) b c (meeting (searched_to t f c barred k) k)

  -- "memory to memory goes through a scratch of the stack class"
  unfoldable pub edits : ℕ → Place → Place → ℕ → ScratchAllocator → Option ScratchAllocator
  edits b to from v k =
      pick (and (is_memory t to) (is_memory t from))
      (and_then (search b (stack_to_stack_class t b) (nothing_barred t f) k) (λ x. some (push (Move x.place from v) (push (Move to x.place v) x.scratch))))
      (some (push (Move to from v) k))

  -- "Emitting a move: bring back the evicted register if it overlaps source or destination, source first; [..] then the destination's units
  -- become available and the source's unavailable."
  unfoldable pub emitting : ℕ → Place → Place → ℕ → ScratchAllocator → Option ScratchAllocator
  emitting b to from v k = and_then (edits b to from v (back_for to (back_for from k))) (λ k'. some (make_unavailable t f from (make_available t f to k')))

  -- "A rebuild with scratch brings back the evicted register if it overlaps the destination, searches the rebuild class, emits scratch to
  -- destination [..], then the rebuild into the scratch, and puts a slot scratch back."
  unfoldable pub rebuilding : Remat → ScratchAllocator → Option ScratchAllocator
  rebuilding r k =
      and_then (search b (remat_class f r.value) (nothing_barred t f) (back_for r.dest k))
      (λ x. and_then (edits b r.dest x.place r.value x.scratch)
      (λ k'. some (make_available t f r.dest (release_place t f (spillslot_size t b) x.place (push (Rematerialize x.place r.value) k')))))
    where
      b : ℕ
      b = bank_for_class t (remat_class f r.value)

  -- where one register is held or none, as in every state that a patch comes to (`FewHeld`), each step is that step of 01's
  pub record OfOne : Type 0 where
    pub room : (r : ℕ) (k : ScratchAllocator) → length k.evicted ≤ 1 → make_room t f r k ≡ back_all k.evicted k
    pub back : (p : Place) (k : ScratchAllocator) → length k.evicted ≤ 1 → unevict_for_reg t f p k ≡ back_for p k
    pub searched : (b c : ℕ) (barred : ℕ → Bool) (k : ScratchAllocator) → length k.evicted ≤ 1 → get_scratch_reg t f b c barred k ≡ search b c barred k
    pub moved : (b : ℕ) (to from : Place) (v : ℕ) (k : ScratchAllocator) → length k.evicted ≤ 1 → do_move t f b to from v k ≡ emitting b to from v k
    pub rematted : (r : Remat) (k : ScratchAllocator) → length k.evicted ≤ 1 → remat_with_scratch t f r k ≡ rebuilding r k
    pub ended : (k : ScratchAllocator) → length k.evicted ≤ 1 → unevict_all t f k ≡ back_all k.evicted k

  -- ---- the kept moves in depth, as in Order, by these steps
  module _ (ms : List KeptMove) where
    abbrev pub putting : ℕ → Place → ParallelMoves → Option ParallelMoves
    putting i from w = and_then (emitting (bank t f ms (value t f ms i)) (dest t f ms i) from (value t f ms i) w.allocator) (λ k. some (with_allocator k w))

    unfoldable pub diverting : ℕ → ParallelMoves → Option ParallelMoves
    diverting i w =
        and_then (search (bank t f ms (value t f ms i)) (top_level_class t (bank t f ms (value t f ms i))) (cycle_move_sources t f ms) w.allocator)
        (λ x. putting i x.place (noted t f ms i x w))

    unfoldable pub leading : ℕ → ParallelMoves → Option ParallelMoves
    leading i w =
        pick (any_in (λ m. is_pending (w.state m)) (writers t f ms i))
        (pick (eqb (w.diverted.ref_count (value t f ms i)) 0) (diverting i (carried t f ms i w))
        (putting i (w.scratch (value t f ms i)) (carried t f ms i w)))
        (putting i (source t f ms i) w)

    unfoldable pub losing : ℕ → ℕ → List ℕ → ParallelMoves → Option ParallelMoves
    losing i v rest w =
        pick (eqb ((lost t f ms i v rest w.diverted).ref_count v) 0)
        (and_then (emitting (bank t f ms v) (w.scratch v) (w.alloc v) v w.allocator)
        (λ k. some (with_diverted (lost t f ms i v rest w.diverted) (with_allocator (release_place t f (spillslot_size t (bank t f ms v)) (w.scratch v) k) w))))
        (some (with_diverted (lost t f ms i v rest w.diverted) w))

    unfoldable pub losing_all : ℕ → List ℕ → ParallelMoves → Option ParallelMoves
    losing_all i [] w = some w
    losing_all i (v ∷ l) w = and_then (losing i v l w) (losing_all i l)

    unfoldable pub closing : ℕ → ParallelMoves → Option ParallelMoves
    closing i w = and_then (leading i (with_state i Done w)) (λ w'. losing_all i (w'.diverted.values i) w')

    unfoldable pub visiting : ℕ → ℕ → ParallelMoves → Option ParallelMoves
    visiting zero i w = pick (is_new (w.state i)) none (some w)
    visiting (suc n) i w = pick (is_new (w.state i)) (and_then (each (visiting n) (reverse (writers t f ms i)) (with_state i Pending w)) (closing i)) (some w)

    unfoldable pub visiting_first : ℕ → ParallelMoves → Option ParallelMoves
    visiting_first i w = pick (or (is_memory t (source t f ms i)) (is_memory t (dest t f ms i))) (some w) (visiting (length ms) i w)

    unfoldable pub moving : ScratchAllocator → Option ScratchAllocator
    moving k =
        and_then (and_then (each visiting_first (indices 0 (length ms)) (start t f ms k)) (each (visiting (length ms)) (indices 0 (length ms))))
        (λ w. some (back_all w.allocator.evicted w.allocator))

  unfoldable pub running : Patch → Sorted → Cache → Option ScratchAllocator
  running p a c =
      and_then
      (each rebuilding a.remats_with_scratch (remats t f a.remats (record { edits = []; available = λ u. has u p.free; evicted = []; cache = c; met = 0 })))
      (moving a.moves)

  -- "1 where it sets none": with setting 1 all of the rules are 01's, each step and the whole run of a patch
  pub record ByOne : Type 0 where
    pub steps : OfOne
    pub runs : (p : Patch) (a : Sorted) (c : Cache) → run t f p a c ≡ running p a c

  abbrev pub AtOne : Type 0
  AtOne = f.kept ≡ 1 → ByOne
