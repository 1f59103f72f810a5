-- 01, Ordering: rebuilds, and the kept moves in depth. As in Scratch, none is 17.
-- Edits are found from the last to the first. A move must read its source before anything writes it, so the moves that write it are found first;
-- where that goes round in a circle, the value is put aside in a scratch, from which the move then reads.
use Rattle.std.specs.Prelude.{ℕ, zero, suc, pred, ◌+◌, Bool, true, false, List, [], ◌∷◌, ◌++◌, reverse, eqb, length, get_or}
use Rattle.std.proofs.Math.Option.{Option, none, some}
use Rattle.entity.specs.Logic.{pick, and, or, no, any_in, has, indices}
use Rattle.entity.specs.Place.{Place, reg, slot}
use Rattle.reginfo.specs.RegInfo.{RegInfo, bank_for_class, spillslot_size, top_level_class, place_units, is_memory}
use Rattle.function.specs.Function.{Function, value_bank, remat_class}
use Rattle.rules.specs.Edit.{Rematerialize, updated, and_then, each}
use Rattle.rules.specs.Scratch.{ScratchAllocator, push, Found, units_of_reg, make_available, make_unavailable, release_place, unevict_all, unevict_for_reg, get_scratch_reg, nothing_barred, move_edits, do_move}

pub record KeptMove : Type 0 where
  pub source : Place
  pub dest : Place
  pub value : ℕ

abbrev pub no_move : KeptMove
no_move = record { source = slot 0; dest = slot 0; value = 0 }

-- a rebuild of a value into a place
pub record Remat : Type 0 where
  pub dest : Place
  pub value : ℕ

abbrev pub no_remat : Remat
no_remat = record { dest = slot 0; value = 0 }

-- of a move: not visited, open, closed
-- An open move waits for the writers of its source. Met again while it is open, it closes a circle.
pub data State : Type 0 where
  New Pending Done : State

abbrev pub is_new : State → Bool
is_new New = true
is_new Pending = false
is_new Done = false

abbrev pub is_pending : State → Bool
is_pending New = false
is_pending Pending = true
is_pending Done = false

-- how many open moves carry each value, and what each carries in the order received
-- A count, since the copy into the scratch must stand before all the moves that overwrite the source: it is found when the last of them is (trial
-- `two-writers`).
pub record Diverted : Type 0 where
  pub ref_count : ℕ → ℕ
  pub values : ℕ → List ℕ

-- the kept moves on their way: of a live diversion, `alloc` is the first source and `scratch` the scratch
pub record ParallelMoves : Type 0 where
  pub allocator : ScratchAllocator
  pub state : ℕ → State
  pub alloc : ℕ → Place
  pub scratch : ℕ → Place
  pub diverted : Diverted

abbrev pub with_allocator : ScratchAllocator → ParallelMoves → ParallelMoves
with_allocator k w = record { allocator = k; state = w.state; alloc = w.alloc; scratch = w.scratch; diverted = w.diverted }

abbrev pub with_state : ℕ → State → ParallelMoves → ParallelMoves
with_state i s w = record { allocator = w.allocator; state = updated i s w.state; alloc = w.alloc; scratch = w.scratch; diverted = w.diverted }

abbrev pub with_diverted : Diverted → ParallelMoves → ParallelMoves
with_diverted d w = record { allocator = w.allocator; state = w.state; alloc = w.alloc; scratch = w.scratch; diverted = d }

-- "Each open writer not yet carrying the value carries it and adds one to its count."
-- Once for each writer, however many units of the source it writes and however often it is met: it lets go once, and the count must come to zero
-- (trials `writer-counted-once`, `received-once`).
unfoldable pub carry_one : ℕ → (ℕ → State) → ℕ → Diverted → Diverted
carry_one v state m d =
    pick (and (is_pending (state m)) (no (has v (d.values m))))
    (record { ref_count = updated v (suc (d.ref_count v)) d.ref_count; values = updated m (d.values m ++ (v ∷ [])) d.values })
    d

unfoldable pub carry : ℕ → (ℕ → State) → List ℕ → Diverted → Diverted
carry v state [] d = d
carry v state (m ∷ l) d = carry v state l (carry_one v state m d)

module _ (t : RegInfo) (f : Function) where
  -- a rebuild without scratch: "Every rebuild then makes its destination's units available."
  -- A rebuild reads nothing, so it can stand last, and its destination is a scratch for all that stands before (trial `rebuilt-available`). Nothing
  -- is evicted yet: nothing is to bring back.
  abbrev pub do_remat : Remat → ScratchAllocator → ScratchAllocator
  do_remat r k = make_available t f r.dest (push (Rematerialize r.dest r.value) k)

  unfoldable pub remats : List Remat → ScratchAllocator → ScratchAllocator
  remats [] k = k
  remats (r ∷ l) k = remats l (do_remat r k)

  -- "A rebuild with scratch brings back the evicted register if it overlaps the destination, searches the rebuild class, emits scratch to
  -- destination, bringing nothing back for the scratch (both memory: through a second scratch, of the stack class), then the rebuild into
  -- the scratch, and puts a slot scratch back."; 02 i: whichever overlap the destination
  -- Its destination may wait, evicted by a rebuild found before. Its scratch may be the register that waits: it waits to serve as one. The marks of
  -- the scratch stay: an evicted one gets its own words back, so no diversion may rest in it (trial `scratch-unavailable`).
  unfoldable pub remat_with_scratch : Remat → ScratchAllocator → Option ScratchAllocator
  remat_with_scratch r k =
      and_then (get_scratch_reg t f b (remat_class f r.value) (nothing_barred t f) (unevict_for_reg t f r.dest k))
      (λ x. and_then (move_edits t f b r.dest x.place r.value x.scratch)
      (λ k'. some (make_available t f r.dest (release_place t f (spillslot_size t b) x.place (push (Rematerialize x.place r.value) k')))))
    where
      b : ℕ
      b = bank_for_class t (remat_class f r.value)

  module _ (ms : List KeptMove) where
    abbrev pub source : ℕ → Place
    source i = (get_or ms i no_move).source

    abbrev pub dest : ℕ → Place
    dest i = (get_or ms i no_move).dest

    abbrev pub value : ℕ → ℕ
    value i = (get_or ms i no_move).value

    abbrev pub bank : ℕ → ℕ
    bank v = value_bank f v

    -- the move that writes a unit
    -- there is one at most: 12 refuses destinations that overlap
    unfoldable pub writer_from : ℕ → List KeptMove → ℕ → Option ℕ
    writer_from i [] u = none
    writer_from i (m ∷ l) u = pick (has u (place_units t m.dest)) (some i) (writer_from (i + 1) l u)

    unfoldable pub writers_of : List ℕ → List ℕ
    writers_of [] = []
    writers_of (u ∷ us) = listed (writer_from 0 ms u) (writers_of us)
      where
        listed : Option ℕ → List ℕ → List ℕ
        listed none l = l
        listed (some m) l = m ∷ l

    -- the writers of a move's source units, in the order of the units
    unfoldable pub writers : ℕ → List ℕ
    writers i = writers_of (place_units t (source i))

    -- a source unit of a kept move
    -- of all kept moves, not of the circle alone: which moves are still to be found is then of no account
    unfoldable pub cycle_move_sources : ℕ → Bool
    cycle_move_sources u = any_in (λ m. has u (units_of_reg t f m.source)) ms

    -- the move i emitted from a place
    abbrev pub emit : ℕ → Place → ParallelMoves → Option ParallelMoves
    emit i from w = and_then (do_move t f (bank (value i)) (dest i) from (value i) w.allocator) (λ k. some (with_allocator k w))

    -- "the register found becomes unavailable"; the value's scratch and first source are noted. It would also become so as the move reads it; the
    -- original does it here.
    abbrev pub noted : ℕ → Found → ParallelMoves → ParallelMoves
    noted i x w = record { allocator = make_unavailable t f x.place x.scratch; state = w.state; alloc = updated (value i) (source i) w.alloc; scratch = updated (value i) x.place w.scratch; diverted = w.diverted }

    -- "otherwise the top-level class is searched as for a cycle"
    -- A top-level class includes slots (7), so the scratch is never an evicted register: it must last while the circle is found, and another move of
    -- it could bring the register back.
    unfoldable pub divert : ℕ → ParallelMoves → Option ParallelMoves
    divert i w = and_then (get_scratch_reg t f (bank (value i)) (top_level_class t (bank (value i))) cycle_move_sources w.allocator) (λ x. emit i x.place (noted i x w))

    -- the open writers of the source carry the value
    abbrev pub carried : ℕ → ParallelMoves → ParallelMoves
    carried i w = with_diverted (carry (value i) w.state (writers i) w.diverted) w

    -- "If a writer of its source is still open, its value is diverted: a live diversion of that value keeps its scratch and its first
    -- source [..]. The move is emitted, from the scratch if diverted."
    -- An open writer is found after this move, so it stands before it and overwrites its source. Closed writers stand behind it and do no harm. A
    -- value that is diverted already is read from the same scratch, so that it is copied once; that its further writers count and its first source
    -- stays is as in the original (trials `join-counts`, `join-keeps-source`).
    unfoldable pub lead : ℕ → ParallelMoves → Option ParallelMoves
    lead i w =
        pick (any_in (λ m. is_pending (w.state m)) (writers i))
        (pick (eqb (w.diverted.ref_count (value i)) 0) (divert i (carried i w)) (emit i (w.scratch (value i)) (carried i w)))
        (emit i (source i) w)

    abbrev pub lost : ℕ → ℕ → List ℕ → Diverted → Diverted
    lost i v rest d = record { ref_count = updated v (pred (d.ref_count v)) d.ref_count; values = updated i rest d.values }

    -- "at zero the copy from first source to scratch is emitted and a slot scratch put back"
    -- At zero every writer of the first source is found, so the copy, found now, stands before them all and reads the value still.
    unfoldable pub undivert : ℕ → ℕ → List ℕ → ParallelMoves → Option ParallelMoves
    undivert i v rest w =
        pick (eqb ((lost i v rest w.diverted).ref_count v) 0)
        (and_then (do_move t f (bank v) (w.scratch v) (w.alloc v) v w.allocator)
        (λ k. some (with_diverted (lost i v rest w.diverted) (with_allocator (release_place t f (spillslot_size t (bank v)) (w.scratch v) k) w))))
        (some (with_diverted (lost i v rest w.diverted) w))

    -- "Then the values it carries each lose one, in the order received"
    -- the original's order: the copies stand, and their slots lie, in the reverse of it (trial `let-go-as-received`)
    unfoldable pub undivert_all : ℕ → List ℕ → ParallelMoves → Option ParallelMoves
    undivert_all i [] w = some w
    undivert_all i (v ∷ l) w = and_then (undivert i v l w) (undivert_all i l)

    -- "It then closes."
    -- Done before its writers are looked at: a source that overlaps its own destination is read whole before it is written, and is no circle (trial
    -- `closed-first`).
    unfoldable pub close : ℕ → ParallelMoves → Option ParallelMoves
    close i w = and_then (lead i (with_state i Done w)) (λ w'. undivert_all i (w'.diverted.values i) w')

    -- "In depth, a move visits the unvisited writers of its source units, last unit first, and each writer is a move again." They are found
    -- first, as they must stand behind it; the last unit's is first, as the original takes them from a stack. The first number bounds
    -- the depth: that it never decides is `NeverDecides` of Depth and `OnlyBySlots` of Refusals.
    unfoldable pub visit : ℕ → ℕ → ParallelMoves → Option ParallelMoves
    visit zero i w = pick (is_new (w.state i)) none (some w)
    visit (suc n) i w = pick (is_new (w.state i)) (and_then (each (visit n) (reverse (writers i)) (with_state i Pending w)) (close i)) (some w)

    -- a root of the first pass, which skips "roots with memory at either end"
    -- Moves between registers are found first: each makes its destination a scratch for a move from memory to memory, which needs one. Only roots are
    -- put off: what a visited move waits for cannot be.
    unfoldable pub visit_unless_memory : ℕ → ParallelMoves → Option ParallelMoves
    visit_unless_memory i w = pick (or (is_memory t (source i)) (is_memory t (dest i))) (some w) (visit (length ms) i w)

    unfoldable pub start : ScratchAllocator → ParallelMoves
    start k = record { allocator = k; state = λ i. New; alloc = λ v. reg 0; scratch = λ v. reg 0; diverted = record { ref_count = λ v. 0; values = λ i. [] } }

    -- "two passes over the kept moves"; "At the end the evicted register is saved."; 02 i: "the end of a patch brings back all held"
    -- What is still evicted serves as scratch somewhere behind: its save goes to the very front.
    unfoldable pub moves : ScratchAllocator → Option ScratchAllocator
    moves k =
        and_then (and_then (each visit_unless_memory (indices 0 (length ms)) (start k)) (each (visit (length ms)) (indices 0 (length ms))))
        (λ w. some (unevict_all t f w.allocator))
