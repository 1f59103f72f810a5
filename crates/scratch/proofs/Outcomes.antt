-- What the methods return meets their contracts.
use Prim.Native.Nat.{ℕ, ◌+◌, ◌<◌, ◌≤◌}
use mathlib.Core.Path.{◌≡◌, refl, sym, ap, ◌∙◌}
use mathlib.Core.Bool.{Bool, true, false}
use mathlib.Core.List.{List, [], ◌∷◌}
use mathlib.Core.Option.{Option, none, some}
use native.Mathlib.Omega.{arith}
use lib.ListN.{length}
use Rattle.entity.specs.declared.AllocationKind.{AllocationKind}
use Rattle.entity.specs.declared.AllocationKind.TheVariants as kind
use Rattle.entity.specs.declared.PhysReg.{PhysReg}
use Rattle.entity.specs.declared.SpillSlot.{SpillSlot}
use Rattle.entity.specs.declared.Allocation.{Allocation}
use Rattle.entity.specs.Logic.{pick, and, has}
use Rattle.entity.specs.Place.{Place, reg, slot, code_of, place_at, place_of}
use Rattle.entity.proofs.Laws.{place-there, code-there}
use Rattle.reginfo.specs.RegInfo.{num_regs, num_classes, class_members, allocation_order, includes_spillslots, spillslot_size, stack_to_stack_class, last_in_order, is_memory}
use Rattle.reginfo.proofs.Accepted.{regs-fit, known-units, ordered-fits, last-ordered}
use Rattle.function.specs.Table.{function_of}
use Rattle.small_set.specs.Set.{set_of}
use Rattle.rules.specs.Edit.{Move, EmergencyReload, and_then}
use Rattle.rules.specs.Scratch as rules
use Rattle.rules.specs.Scratch.{meeting, searched_to, make_room, slot_scratch, evict_last, reuse, or_scratch, get_scratch_reg, move_edits, do_move, make_available, make_unavailable, release_place}
use Rattle.search.specs.Search.{Search, search_of, position_in, Searched, barred_by, usable_in, with_units, without_units}
use Rattle.edit.specs.Buffer.{count_of, edits_of, Written}
use Rattle.std.specs.Prelude.{Some, None}
use Rattle.slots.specs.Stacks.{stacks_of, SlotsFit}
use Rattle.slots.specs.Steps as slots
use Rattle.scratch.specs.declared.Held.{Held}
use Rattle.scratch.specs.declared.Evicted.{Evicted}
use Rattle.scratch.specs.declared.ScratchAllocator.{ScratchAllocator}
use Rattle.scratch.specs.declared.finding.Scratch.{Scratch}
use Rattle.scratch.specs.declared.finding.Taken.{Taken}
use Rattle.function.specs.Known.{Checked}
use Rattle.scratch.specs.State.{T, F, made_of, evicted_in, held_of, evicted_of, cache_in, allocator_of, Stocked, Fits, PlaceFits, Evictable}
use Rattle.scratch.specs.Promises.{Tables, tables, failing, unevict_for_ends, state_of, Acquired, Brought, Holds, Found, Moved, Released}
use Rattle.scratch.proofs.Packed.{one_more}
use Rattle.scratch.proofs.Bounds.{top-low, fewer, pushed, put_back, taken, met-one, one-made, hold}
use Rattle.scratch.proofs.Steps.{took, made, reuse-member, reuse-stranger, find-has}

-- a class without slots has a last register
pub last-low : (t f : List ℕ) (b c : ℕ) → Evictable t f b c → (r : ℕ) → r ≡ last_in_order (T t) c → r < num_regs (T t)
last-low t f b c ok r e = rw e (ordered-fits (T t) ok.checked.target c ok.class _ (last-ordered (T t) ok.checked.target c ok.class ok.slotless))

-- what a search finds is a register
pub found-low : (t f : List ℕ) (c : ℕ) (p : ℕ → Bool) (s : Search) (r : PhysReg) (i : ℕ) → Checked t f → c < num_classes (T t) → Searched p (allocation_order (T t) c) s → s ≡ Some (r, i) → r.0 < num_regs (T t)
found-low t f c p s r i ok h e q = ordered-fits (T t) ok.target c h r.0 (find-has p (allocation_order (T t) c) r.0 (sym e.is ∙ ap search_of q))

module _ (t f cache : List ℕ) where
  -- a slot of the stack, and a new one
  pub taken-top : (z : ℕ) (k : ScratchAllocator) (s s' : List ℕ) (x : SpillSlot) → Stocked k s cache → slots.Taken s cache s' z (Some x) → Acquired t f cache z k s (record { slot = x; allocator = k }) s'
  taken-top z k s s' x h p =
      record {
        is = took (T t) (F f) z (cache_in k s cache) (stacks_of s cache z) x.0 (stacks_of s' cache) p.got p.stacks;
        kept = refl;
        met = p.met;
        small = top-low (stacks_of s cache z) x.0 (h.stacked z) p.got;
        fits = λ a b n edits h. taken p (fewer (omega arith) (omega arith) (omega arith) h);
      }

  pub taken-new : (z : ℕ) (k k' : ScratchAllocator) (s s' : List ℕ) (x : ℕ) → (function_of f).slots ≤ 4096 → Stocked k s cache → slots.Taken s cache s' z None → x ≡ (function_of f).slots + made_of k → k'.packed ≡ k.packed + 1 → Acquired t f cache z k s (record { slot = record { 0 = x }; allocator = k' }) s'
  taken-new z k k' s s' x l h p e q =
      let more = one_more k k' h.made q in
      record {
        is = rw (e, more.1) (made (T t) (F f) z (cache_in k s cache) (stacks_of s cache z) (stacks_of s' cache) p.got p.stacks (omega (arith, h.made)));
        kept = more.0;
        met = p.met;
        small = omega (arith, e, l, h.made);
        fits = λ a b n edits h. taken p (one-made more h);
      }

  -- places found
  slot-fits : (c s : ℕ) → c ≡ code_of (slot s) → s < 8192 → PlaceFits t c
  slot-fits c s q h = record { known = rw (q, place-there (slot s)) (omega arith); small = omega arith }

  pub reg-fits : (c r : ℕ) → Checked t f → c ≡ code_of (reg r) → r < num_regs (T t) → PlaceFits t c
  reg-fits c r ok q h =
      let few = (regs-fit (T t) ok.target).1 in
      record { known = rw (q, place-there (reg r)) (known-units (T t) ok.target r h); small = omega arith }

  pub found-slot : (m b z : ℕ) (k : ScratchAllocator) (e : List ℕ) (available : List Bool) (s s' : List ℕ) (r : Taken) (p : Allocation) → z ≡ spillslot_size (T t) b → Acquired t f cache z k s r s' → p.0 ≡ code_of (slot r.slot.0) → Found t f cache k (tables e available s) (record { place = p; position = m; allocator = r.allocator }) (tables e available s') (slot_scratch (T t) (F f) m b)
  unfolding slot_scratch and_then
  found-slot m b z k e available s s' r p y h q =
      let i = rw y at h.is in
      record {
        is = rw (i, q, place-there (slot r.slot.0), h.kept, h.met);
        place = slot-fits p.0 r.slot.0 q h.small;
        fits = λ a b n g. fewer (omega arith) (omega arith) (omega arith) (h.fits a b (n + 2) e g);
      }

  pub found-last : (m b c z : ℕ) (k k' : ScratchAllocator) (e e' : List ℕ) (available : List Bool) (s s' : List ℕ) (r : Taken) (h : Held) (p : Allocation) → Evictable t f b c → z ≡ spillslot_size (T t) b → Acquired t f cache z k s r s' → h.reg.0 ≡ last_in_order (T t) c → h.slot.0 ≡ r.slot.0 → (edits_of e' ≡ EmergencyReload h.reg.0 r.slot.0 ∷ edits_of e) × (count_of e' ≡ count_of e + 1) × (Written e → Written e') → h.bank.0 ≡ b → Holds h r.allocator k' → p.0 ≡ code_of (reg h.reg.0) → Found t f cache k (tables e available s) (record { place = p; position = m; allocator = k' }) (tables e' available s') (evict_last (T t) (F f) m b c)
  unfolding evict_last and_then
  found-last n b c z k k' e e' available s s' r q p ok u h l x m d v o =
      let i = rw u at h.is in
      let low = last-low t f b c ok q.reg.0 l in
      let same : evicted_of (T t) (evicted_in k') ≡ record { reg = last_in_order (T t) c; slot = r.slot.0; size = spillslot_size (T t) b } ∷ evicted_of (T t) (evicted_in k) = rw (v.is (T t), h.kept, l, x, d) in
      record {
        is = rw (i, o, place-there (reg q.reg.0), m.0, same, v.made, l, h.met);
        place = reg-fits p.0 q.reg.0 ok.checked o low;
        fits = λ a b n g. hold v (low, omega (arith, x, h.small), omega (arith, d, ok.bank)) (pushed (omega arith) (omega arith) (omega arith) m.1 m.2 (h.fits a b (n + 2) e g));
      }

  pub found-evicted : (m b c : ℕ) (k k' : ScratchAllocator) (w w' : Tables) (r : Scratch) (w'' : Tables) → Brought t f cache k w k' w' (make_room (T t) (F f) (last_in_order (T t) c)) → Found t f cache k' w' r w'' (evict_last (T t) (F f) m b c) → Found t f cache k w r w'' (reuse (T t) (F f) [] m b c)
  unfolding reuse
  found-evicted m b c k k' w w' r w'' h g =
      record { is = ap (evict_last (T t) (F f) m b c) (sym h.is) ∙ g.is; place = g.place; fits = λ a b n i. g.fits a b n (h.fits a (b + 1) (n + 2) i) }

  -- what another step of the rules gives too
  found_as : (k : ScratchAllocator) (w : Tables) (r : Scratch) (w' : Tables) (by by' : rules.ScratchAllocator → Option rules.Found) → by' (state_of t f cache k w) ≡ by (state_of t f cache k w) → Found t f cache k w r w' by → Found t f cache k w r w' by'
  found_as k w r w' by by' e h = record { is = e ∙ h.is; place = h.place; fits = h.fits }

  -- a register that changes nothing
  found-reg : (k : ScratchAllocator) (w : Tables) (p : Allocation) (r m : ℕ) (by : rules.ScratchAllocator → Option rules.Found) → Checked t f → p.0 ≡ code_of (reg r) → r < num_regs (T t) → by (state_of t f cache k w) ≡ some (record { place = reg r; position = m; scratch = state_of t f cache k w }) → Found t f cache k w (record { place = p; position = m; allocator = k }) w by
  found-reg k w p r m by ok q h e =
      record {
        is = rw (q, place-there (reg r)) e;
        place = reg-fits p.0 r ok q h;
        fits = λ a b n g. fewer (omega arith) (omega arith) (omega arith) g;
      }

  -- what is held as the record has it
  pub found-held : (m b c : ℕ) (k : ScratchAllocator) (w : Tables) (r : Scratch) (w' : Tables) (v : Evicted) → evicted_in k ≡ v → Found t f cache k w r w' (reuse (T t) (F f) (evicted_of (T t) v) m b c) → Found t f cache k w r w' (reuse (T t) (F f) (evicted_of (T t) (evicted_in k)) m b c)
  found-held m b c k w r w' v e h =
      found_as k w r w' (reuse (T t) (F f) (evicted_of (T t) v) m b c) (reuse (T t) (F f) (evicted_of (T t) (evicted_in k)) m b c) (ap (λ (v : Evicted). reuse (T t) (F f) (evicted_of (T t) v) m b c (state_of t f cache k w)) e) h

  module _ (y b c : ℕ) (k : ScratchAllocator) (w : Tables) (e : Held) (l : List rules.Evicted) (m : Bool) (n : m ≡ has e.reg.0 (class_members (T t) c)) where
    pub found-member : (p : Allocation) → Checked t f → e.reg.0 < num_regs (T t) → p.0 ≡ code_of (reg e.reg.0) → m ≡ true → Found t f cache k w (record { place = p; position = y; allocator = k }) w (reuse (T t) (F f) (held_of (T t) e ∷ l) y b c)
    found-member p ok h q o =
        found-reg k w p e.reg.0 y (reuse (T t) (F f) (held_of (T t) e ∷ l) y b c) ok q h (reuse-member (T t) (F f) y b c (state_of t f cache k w) (held_of (T t) e) l (sym n ∙ o))

    pub found-stranger : (r : Scratch) (w' : Tables) → m ≡ false → Found t f cache k w r w' (reuse (T t) (F f) l y b c) → Found t f cache k w r w' (reuse (T t) (F f) (held_of (T t) e ∷ l) y b c)
    found-stranger r w' o h =
        found_as k w r w' (reuse (T t) (F f) l y b c) (reuse (T t) (F f) (held_of (T t) e ∷ l) y b c) (reuse-stranger (T t) (F f) y b c (state_of t f cache k w) (held_of (T t) e) l (sym n ∙ o)) h

  -- a position met, and what is found then
  module _ (m : ℕ) (k : ScratchAllocator) (w : Tables) (s : List ℕ) (put : SlotsFit 1024 w.slots) (u : slots.Meets w.slots s m) where
    met-state : state_of t f cache k (tables w.edits w.available s) ≡ meeting m (state_of t f cache k w)
    met-state = rw (u.stacks cache put, u.met)

    found-met : (r : Scratch) (w' : Tables) (by by' : rules.ScratchAllocator → Option rules.Found) → by' (state_of t f cache k w) ≡ by (meeting m (state_of t f cache k w)) → Found t f cache k (tables w.edits w.available s) r w' by → Found t f cache k w r w' by'
    found-met r w' by by' e h = record { is = e ∙ ap by (sym met-state) ∙ h.is; place = h.place; fits = λ a b n g. h.fits a b n (met-one u g) }

    -- the first of an order
    pub found_first : (b c : ℕ) (cycle : Bool) (sources : List Bool) (x : Search) (r : PhysReg) (p : Allocation) → Checked t f → c < num_classes (T t) → Searched (usable_in (T t) w.available sources cycle) (allocation_order (T t) c) x → x ≡ Some (r, m) → p.0 ≡ code_of (reg r.0)
        → Found t f cache k w (record { place = p; position = m; allocator = k }) (tables w.edits w.available s) (get_scratch_reg (T t) (F f) b c (barred_by cycle sources))
    unfolding get_scratch_reg or_scratch
    found_first b c cycle sources x r p ok h e d q =
        let state = state_of t f cache k w in
        let by : rules.ScratchAllocator → Option rules.Found = λ z. some (record { place = reg r.0; position = m; scratch = z }) in
        found-met _ _ by (get_scratch_reg (T t) (F f) b c (barred_by cycle sources))
        (ap (λ (o : Option ℕ). or_scratch (T t) (F f) o (searched_to (T t) (F f) c (barred_by cycle sources) state) b c (meeting (searched_to (T t) (F f) c (barred_by cycle sources) state) state)) (sym e.is ∙ ap search_of d)
        ∙ ap (λ (i : ℕ). or_scratch (T t) (F f) (some r.0) i b c (meeting i state)) (sym e.position ∙ ap (position_in (length (allocation_order (T t) c))) d))
        (found-reg k (tables w.edits w.available s) p r.0 m by ok q (found-low t f c (usable_in (T t) w.available sources cycle) x r m ok h e d) refl)

    -- a slot or an evicted register, failing the order
    module _ (b c : ℕ) (r : Scratch) (w' : Tables) (e : m ≡ length (allocation_order (T t) c)) (i : Bool) (j : i ≡ includes_spillslots (T t) c) where
      none_found : (u : Bool) → i ≡ u → failing t f b c (state_of t f cache k w) ≡ pick u (slot_scratch (T t) (F f) m b (meeting m (state_of t f cache k w))) (reuse (T t) (F f) (evicted_of (T t) (evicted_in k)) m b c (meeting m (state_of t f cache k w)))
      unfolding or_scratch
      none_found u q = rw (← e, ← j, q)

      pub found-slotted : i ≡ true → Found t f cache k (tables w.edits w.available s) r w' (slot_scratch (T t) (F f) m b) → Found t f cache k w r w' (failing t f b c)
      found-slotted q h = found-met r w' (slot_scratch (T t) (F f) m b) (failing t f b c) (none_found true q) h

      pub found-reused : i ≡ false → Found t f cache k (tables w.edits w.available s) r w' (reuse (T t) (F f) (evicted_of (T t) (evicted_in k)) m b c) → Found t f cache k w r w' (failing t f b c)
      found-reused q h = found-met r w' (reuse (T t) (F f) (evicted_of (T t) (evicted_in k)) m b c) (failing t f b c) (none_found false q) h

  pub found-failing : (b c : ℕ) (k : ScratchAllocator) (w : Tables) (cycle : Bool) (sources : List Bool) (x : Search) (r : Scratch) (w' : Tables) → Searched (usable_in (T t) w.available sources cycle) (allocation_order (T t) c) x → x ≡ None → Found t f cache k w r w' (failing t f b c)
      → Found t f cache k w r w' (get_scratch_reg (T t) (F f) b c (barred_by cycle sources))
  unfolding get_scratch_reg
  found-failing b c k w cycle sources x r w' e d h =
      let state = state_of t f cache k w in
      found_as k w r w' (failing t f b c) (get_scratch_reg (T t) (F f) b c (barred_by cycle sources))
      (ap (λ (o : Option ℕ). or_scratch (T t) (F f) o (searched_to (T t) (F f) c (barred_by cycle sources) state) b c (meeting (searched_to (T t) (F f) c (barred_by cycle sources) state) state)) (sym e.is ∙ ap search_of d)
      ∙ ap (λ (i : ℕ). or_scratch (T t) (F f) none i b c (meeting i state)) (sym e.position ∙ ap (position_in (length (allocation_order (T t) c))) d))
      h

  -- a move emitted
  module _ (b : ℕ) (to from : Place) (v : ℕ) where
    pub moved-through : (k : ScratchAllocator) (w : Tables) (r : Scratch) (w' : Tables) (e e' : List ℕ) (sources : List Bool) (c : ℕ) → and (is_memory (T t) to) (is_memory (T t) from) ≡ true → c ≡ stack_to_stack_class (T t) b → Found t f cache k w r w' (get_scratch_reg (T t) (F f) b c (barred_by false sources)) → (edits_of e ≡ Move to (place_at r.place.0) v ∷ edits_of w'.edits) × (count_of e ≡ count_of w'.edits + 1) × (Written w'.edits → Written e) → (edits_of e' ≡ Move (place_at r.place.0) from v ∷ edits_of e) × (count_of e' ≡ count_of e + 1) × (Written e → Written e') → Moved t f cache k w r.allocator (tables e' w'.available w'.slots) (move_edits (T t) (F f) b to from v)
    unfolding move_edits and_then
    moved-through k w r w' e e' sources c m d h p q =
        let i = rw d at h.is in
        record {
          is = rw (m, i, q.0, p.0);
          fits = λ a b n g.
              let one : Fits (a + 1) (b + 1) (n + 1) t r.allocator e w'.slots cache = pushed (omega arith) (omega arith) (omega arith) p.1 p.2 (h.fits a b (n + 2) (fewer (omega arith) (omega arith) (omega arith) g)) in
              pushed (omega arith) (omega arith) (omega arith) q.1 q.2 one;
        }

    pub moved-at-once : (k : ScratchAllocator) (w : Tables) (e : List ℕ) → and (is_memory (T t) to) (is_memory (T t) from) ≡ false → (edits_of e ≡ Move to from v ∷ edits_of w.edits) × (count_of e ≡ count_of w.edits + 1) × (Written w.edits → Written e) → Moved t f cache k w k (tables e w.available w.slots) (move_edits (T t) (F f) b to from v)
    unfolding move_edits
    moved-at-once k w e m p = record { is = rw (m, p.0); fits = λ a b n g. pushed (omega arith) (omega arith) (omega arith) p.1 p.2 g }

    pub moved-marked : (k k₂ k₃ k₄ : ScratchAllocator) (w w₂ w₃ : Tables) (l : List Bool) → Brought t f cache k w k₂ w₂ (unevict_for_ends (T t) (F f) to from) → Moved t f cache k₂ w₂ k₃ w₃ (move_edits (T t) (F f) b to from v) → k₄ ≡ k₃ → allocator_of t k₄ w₃.edits l w₃.slots cache ≡ make_unavailable (T t) (F f) from (make_available (T t) (F f) to (state_of t f cache k₃ w₃)) → Moved t f cache k w k₄ (tables w₃.edits l w₃.slots) (do_move (T t) (F f) b to from v)
    unfolding do_move and_then
    moved-marked k k₂ k₃ k₄ w w₂ w₃ l h m p x =
        record {
          is = rw (← h.is, m.is) (ap some (sym x));
          fits = λ a b n i. rw p (m.fits a b n (h.fits a (b + 1) (n + 4) i));
        }

  -- units marked
  pub units-available : (p : Place) (k : ScratchAllocator) (e s : List ℕ) (l l' : List Bool) → set_of l' ≡ with_units (T t) p (set_of l) → allocator_of t k e l' s cache ≡ make_available (T t) (F f) p (allocator_of t k e l s cache)
  units-available (reg r) k e s l l' q = rw q
  units-available (slot x) k e s l l' q = rw q

  pub units-unavailable : (p : Place) (k : ScratchAllocator) (e s : List ℕ) (l l' : List Bool) → set_of l' ≡ without_units (T t) p (set_of l) → allocator_of t k e l' s cache ≡ make_unavailable (T t) (F f) p (allocator_of t k e l s cache)
  units-unavailable (reg r) k e s l l' q = rw q
  units-unavailable (slot x) k e s l l' q = rw q

  -- a scratch put back
  module _ (b c : ℕ) (k : ScratchAllocator) (e : List ℕ) (available : List Bool) (s : List ℕ) where
    pub released-reg : (p : AllocationKind) (r : PhysReg) → place_of p ≡ place_at c → p ≡ kind.PhysReg r → Released t f cache k (tables e available s) k (tables e available s) (release_place (T t) (F f) (spillslot_size (T t) b) (place_at c))
    released-reg p r q d = record { is = rw (← q, d); fits = λ a b n g. fewer (omega arith) (omega arith) (omega arith) g }

    pub released-slot : (s' : List ℕ) (p : AllocationKind) (x : SpillSlot) (z : ℕ) → c < 16384 → place_of p ≡ place_at c → p ≡ kind.SpillSlot x → z ≡ spillslot_size (T t) b → slots.PutBack s s' z x.0 → Released t f cache k (tables e available s) k (tables e available s') (release_place (T t) (F f) (spillslot_size (T t) b) (place_at c))
    released-slot s' p x z h q d y u =
        let at : slot x.0 ≡ place_at c = sym (ap place_of d) ∙ q in
        let low : x.0 < 8192 = omega (arith, ap code_of at ∙ code-there c) in
        record { is = rw (← at, ← y, u.stacks cache, u.met); fits = λ a b n g. put_back u low g }
