-- 01, Scratch keeper; 02 i, two registers evicted. A step answers none where 17 is given: "a slot is needed, its stack is empty and L are made".
-- Edits are found from the last to the first. So whatever a step finds stands before all that was found so far, and what is known is what those
-- behind it still read: a place that they write first may hold anything until then.
use Rattle.std.specs.Prelude.{ℕ, pred, ◌+◌, Bool, false, List, [], ◌∷◌, ltb, take, drop}
use Rattle.std.proofs.Math.Option.{Option, none, some}
use Rattle.entity.specs.Logic.{pick, and, or, no, all_in, has}
use Rattle.entity.specs.Place.{Place, reg, slot}
use Rattle.reginfo.specs.RegInfo.{RegInfo, reg_units, allocation_order, class_members, includes_spillslots, last_in_order, spillslot_size, stack_to_stack_class, overlap, is_memory}
use Rattle.function.specs.Function.{Function}
use Rattle.rules.specs.Edit.{Edit, Move, EmergencySpill, EmergencyReload, updated, and_then, find, first_at, filter}

-- "Emergency slots lie in 32 stacks by size": the top of a stack stands first; `made` counts the function's slots so far
-- By size, since a slot that one patch is done with serves every later value of that size: patches need more frame only where more slots of one size
-- are in use at once than ever before.
pub record Cache : Type 0 where
  pub stacks : ℕ → List ℕ
  pub made : ℕ

-- "A new function starts with none."
abbrev pub empty_cache : Cache
empty_cache = record { stacks = λ z. []; made = 0 }

-- an evicted register, the slot that it waits in and the size of that slot
-- the size says to which stack the slot goes back
pub record Evicted : Type 0 where
  pub reg : ℕ
  pub slot : ℕ
  pub size : ℕ

-- 01: the scratch keeper. `edits` stands in the order handed out, so a new edit is put in front. 02 i: "the record holds an older and a newer":
-- of the evicted registers the newest stands first. 02 d: `met` is the greatest position that a search of the patch met, 0 without searches.
pub record ScratchAllocator : Type 0 where
  pub edits : List Edit
  pub available : ℕ → Bool
  pub evicted : List Evicted
  pub cache : Cache
  pub met : ℕ

abbrev pub push : Edit → ScratchAllocator → ScratchAllocator
push e k = record { edits = e ∷ k.edits; available = k.available; evicted = k.evicted; cache = k.cache; met = k.met }

abbrev pub with_available : (ℕ → Bool) → ScratchAllocator → ScratchAllocator
with_available a k = record { edits = k.edits; available = a; evicted = k.evicted; cache = k.cache; met = k.met }

abbrev pub with_evicted : List Evicted → ScratchAllocator → ScratchAllocator
with_evicted e k = record { edits = k.edits; available = k.available; evicted = e; cache = k.cache; met = k.met }

abbrev pub with_cache : Cache → ScratchAllocator → ScratchAllocator
with_cache c k = record { edits = k.edits; available = k.available; evicted = k.evicted; cache = c; met = k.met }

-- 02 d: "a patch returns the greatest position it met"
abbrev pub meeting : ℕ → ScratchAllocator → ScratchAllocator
meeting n k = record { edits = k.edits; available = k.available; evicted = k.evicted; cache = k.cache; met = pick (ltb k.met n) n k.met }

-- a place, the position that the search reports and the allocator after it
pub record Found : Type 0 where
  pub place : Place
  pub position : ℕ
  pub scratch : ScratchAllocator

-- a slot and the cache without it
pub record Acquired : Type 0 where
  pub slot : ℕ
  pub cache : Cache

module _ (t : RegInfo) (f : Function) where
  -- "take the one last put back, else make slot N, then N + 1 and so on"
  -- A slot is made only where none of the size lies idle: so 17 is given to no patch that could have been served (trial `stack-first`).
  unfoldable pub acquire_from : List ℕ → ℕ → Cache → Option Acquired
  acquire_from (s ∷ l) z c = some (record { slot = s; cache = record { stacks = updated z l c.stacks; made = c.made } })
  acquire_from [] z c =
      pick (ltb c.made f.limit)
      (some (record { slot = f.slots + c.made; cache = record { stacks = c.stacks; made = c.made + 1 } }))
      none

  abbrev pub acquire : ℕ → Cache → Option Acquired
  acquire z c = acquire_from (c.stacks z) z c

  abbrev pub release : ℕ → ℕ → Cache → Cache
  release z s c = record { stacks = updated z (s ∷ c.stacks z) c.stacks; made = c.made }

  -- the register units of a place; a slot has none
  -- Only register units are marked: which emergency slots are idle, the stacks tell, and no other slot is ever a scratch.
  abbrev pub units_of_reg : Place → List ℕ
  units_of_reg (reg r) = reg_units t r
  units_of_reg (slot s) = []

  -- For the destination of an edit: what stands before it may write there, since the edit overwrites it (trial `rebuilt-available`).
  abbrev pub make_available : Place → ScratchAllocator → ScratchAllocator
  make_available p k = with_available (λ u. or (has u (units_of_reg p)) (k.available u)) k

  -- For the source of an edit: what stands before it must leave there what the edit reads.
  abbrev pub make_unavailable : Place → ScratchAllocator → ScratchAllocator
  make_unavailable p k = with_available (λ u. and (k.available u) (no (has u (units_of_reg p)))) k

  -- a slot found as scratch is put back
  -- The edit that fills it is found, so what stands before that may use it.
  abbrev pub release_place : ℕ → Place → ScratchAllocator → ScratchAllocator
  release_place z (slot s) k = with_cache (release z s k.cache) k
  release_place z (reg r) k = k

  -- "To bring back is to emit the save and put the slot back."; 02 i: "Of several for one place or at the end the older comes back first."
  -- The reload was emitted when it was evicted: the save, found later, stands before every use as scratch, and from there to the reload it waits.
  unfoldable pub unevict : List Evicted → ScratchAllocator → ScratchAllocator
  unevict [] k = k
  unevict (e ∷ l) k = with_cache (release e.size e.slot (unevict l k).cache) (push (EmergencySpill e.slot e.reg) (unevict l k))

  abbrev pub unevict_all : ScratchAllocator → ScratchAllocator
  unevict_all k = unevict k.evicted (with_evicted [] k)

  -- all but the n newest
  unfoldable pub unevict_but : ℕ → ScratchAllocator → ScratchAllocator
  unevict_but n k = unevict (drop n k.evicted) (with_evicted (take n k.evicted) k)

  -- "bring back the evicted register if it overlaps"; 02 i: "whichever overlap"
  abbrev pub overlaps_evicted : Place → Evicted → Bool
  overlaps_evicted p e = overlap t p (reg e.reg)

  -- A register that waits holds a scratch value: a move that reads it would read that, and what a move writes there the reload would undo. Its save
  -- stands behind the move that is found next, so that this one finds and leaves the register as its own (trial `source-brought-back`).
  unfoldable pub unevict_for_reg : Place → ScratchAllocator → ScratchAllocator
  unevict_for_reg p k = unevict (filter (overlaps_evicted p) k.evicted) (with_evicted (filter (λ e. no (overlaps_evicted p e)) k.evicted) k)

  -- 02 i: "Before a new eviction, those that overlap the new register are brought back, and then the older if two are still held.", so that
  -- with the new one no more are held than the function keeps, and no two that wait share a unit: else what was saved last would decide what a unit
  -- counts as holding.
  unfoldable pub make_room : ℕ → ScratchAllocator → ScratchAllocator
  make_room r k = unevict_but (pred f.kept) (unevict_for_reg (reg r) k)

  -- "whose units are all available (none of them a source unit of a kept move, if asked for a cycle)": `barred` are those source units
  -- A diversion's scratch is filled before, and read behind, moves that are not found yet: one that reads that register would read the wrong value.
  -- The marks do not tell, since a unit may be free and yet be read (trial `sources-spared`). That it lies on an evicted register does not matter:
  -- nobody needs its units (trial `scratch-on-evicted`).
  abbrev pub usable : (ℕ → Bool) → ScratchAllocator → ℕ → Bool
  usable barred k r = all_in (λ u. and (k.available u) (no (barred u))) (reg_units t r)

  -- "an emergency slot if the class includes slots"
  unfoldable pub slot_scratch : ℕ → ℕ → ScratchAllocator → Option Found
  slot_scratch n b k = and_then (acquire (spillslot_size t b) k.cache) (λ a. some (record { place = slot a.slot; position = n; scratch = with_cache a.cache k }))

  -- "take a slot of the bank's size, evict the order's last into it and emit its reload"
  -- The last, since orders begin with what is used first: it is least likely to hold what is soon needed. By 7 it is not memory. The reload is
  -- emitted here, before the uses are found, as it stands behind them all.
  unfoldable pub evict_last : ℕ → ℕ → ℕ → ScratchAllocator → Option Found
  evict_last n b c k =
      and_then (acquire (spillslot_size t b) k.cache)
      (λ a. some (record {
        place = reg (last_in_order t c);
        position = n;
        scratch =
            with_evicted (record { reg = last_in_order t c; slot = a.slot; size = spillslot_size t b } ∷ k.evicted)
            (push (EmergencyReload (last_in_order t c) a.slot) (with_cache a.cache k));
      }))

  -- "the evicted register if a member; else bring back the evicted one", and evict; 02 i: "A search reuses the newest held member of its class."
  -- Taken again, since every use fills it before reading it: one save and one reload serve many moves. Being a member is enough, even where the order
  -- does not list it (trial `member-taken-again`).
  unfoldable pub reuse : List Evicted → ℕ → ℕ → ℕ → ScratchAllocator → Option Found
  reuse [] n b c k = evict_last n b c (make_room (last_in_order t c) k)
  reuse (e ∷ l) n b c k = pick (has e.reg (class_members t c)) (some (record { place = reg e.reg; position = n; scratch = k })) (reuse l n b c k)

  -- The slot comes before the evicted register, so that a diversion, whose class includes slots, never rests in an evicted one: a move of the circle
  -- could bring that back while the value is in it.
  unfoldable pub or_scratch : Option ℕ → ℕ → ℕ → ℕ → ScratchAllocator → Option Found
  or_scratch (some r) n b c k = some (record { place = reg r; position = n; scratch = k })
  or_scratch none n b c k = pick (includes_spillslots t c) (slot_scratch n b k) (reuse k.evicted n b c k)

  -- 02 d: "the position in the order, counted from 0, at which it found its register, or the order's length where none there would do, an
  -- evicted one taken again included"
  abbrev pub searched_to : ℕ → (ℕ → Bool) → ScratchAllocator → ℕ
  searched_to c barred k = first_at (usable barred k) (allocation_order t c)

  -- "Search for a class: the first register of its order whose units are all available", and failing that
  unfoldable pub get_scratch_reg : ℕ → ℕ → (ℕ → Bool) → ScratchAllocator → Option Found
  get_scratch_reg b c barred k =
      or_scratch (find (usable barred k) (allocation_order t c)) (searched_to c barred k) b c (meeting (searched_to c barred k) k)

  abbrev pub nothing_barred : ℕ → Bool
  nothing_barred u = false

  -- the edit or edits of a move; "memory to memory goes through a scratch of the stack class"
  -- The machine moves nothing from memory to memory. The scratch is never memory itself: a stack class has no slots and no memory register in its order (7).
  unfoldable pub move_edits : ℕ → Place → Place → ℕ → ScratchAllocator → Option ScratchAllocator
  move_edits b to from v k =
      pick (and (is_memory t to) (is_memory t from))
      (and_then (get_scratch_reg b (stack_to_stack_class t b) nothing_barred k) (λ x. some (push (Move x.place from v) (push (Move to x.place v) x.scratch))))
      (some (push (Move to from v) k))

  -- "Emitting a move: bring back the evicted register if it overlaps source or destination, source first; [..] then the destination's
  -- units become available and the source's unavailable."; 02 i: "whichever overlap its source, then its destination"
  -- The source's marks come last: where source and destination share units, these are read, and must not be had (trial `source-last`). A scratch read
  -- here becomes available again with the copy that fills it.
  unfoldable pub do_move : ℕ → Place → Place → ℕ → ScratchAllocator → Option ScratchAllocator
  do_move b to from v k =
      and_then (move_edits b to from v (unevict_for_reg to (unevict_for_reg from k))) (λ k'. some (make_unavailable from (make_available to k')))
