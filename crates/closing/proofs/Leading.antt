-- A closed move emitted where a writer of its source is still open.
use Prim.Native.Nat.{ℕ, ◌+◌, ◌<◌, ◌≤◌}
use mathlib.Core.Path.{◌≡◌, refl, sym, ap, ◌∙◌}
use mathlib.Core.Bool.{Bool, true, false}
use mathlib.Core.List.{List, [], ◌∷◌, ◌++◌}
use mathlib.Core.Option.{Option, some}
use mathlib.Core.Logic.{◌⊎◌, inl, inr, ⊎_elim}
use native.Mathlib.Omega.{arith}
use lib.Dec.{eqb}
use lib.ListN.{length, get_or}
use borrow.Author.Tests.{eq-eqb, ne_eqb, eqb-true, eqb-false}
use Rattle.entity.specs.Logic.{pick, and, or, no, any_in, has}
use Rattle.entity.specs.Place.{Place, place_at}
use Rattle.function.specs.Function.{num_values, value_bank}
use Rattle.function.specs.Known.{Checked}
use Rattle.function.specs.Table.{function_of}
use Rattle.small_set.specs.Set.{set_of}
use Rattle.search.specs.Search.{barred_by}
use Rattle.rules.specs.Edit.{updated, and_then}
use Rattle.rules.specs.Scratch as rules
use Rattle.rules.specs.Scratch.{do_move}
use Rattle.rules.specs.Order.{no_move, State, is_pending, Diverted, ParallelMoves, with_allocator, carry_one, carry, dest, writers, cycle_move_sources, carried, lead}
use Rattle.rules.proofs.Steps.{same?, branch, updated-at, updated-same, updated-other}
use Rattle.rules.proofs.Writers.{writers-low}
use Rattle.machine.proofs.Diversions.{Grown, carry-grown}
use Rattle.carried.specs.Carried.{count_of, carried_by}
use Rattle.scratch.specs.declared.ScratchAllocator.{ScratchAllocator}
use Rattle.scratch.specs.declared.diverting.Divert.{Divert}
use Rattle.scratch.specs.State.{T, F, PlaceFits}
use Rattle.scratch.specs.Promises.{Tables, state_of, FitsIn, Moved}
use Rattle.scratch.specs.Diversions.{Diversion, Diverting, count_at, alloc_at, scratch_at, diversion_at, divert_by, Diverts}
use Rattle.scratch.proofs.Bounds.{fewer}
use Rattle.scratch.proofs.Agree.{divert-is}
use Rattle.scratch.proofs.Unlimited.{same-bank}
use Rattle.visits.specs.Marks.{moves_of, states_of, is_noted}
use Rattle.visits.specs.Carry.{Counted, CarriedAs}
use Rattle.closing.specs.State.{Work, Given, KeptValue, Live, Stands, Emits}
use Rattle.closing.specs.Steps.{lead_diverted, Leads, Led}
use Rattle.closing.proofs.Known.{value_there, source_fits, cells_stay}
use Rattle.closing.proofs.Room.{roomy}

-- only the value carried is put to what the moves carry
has_last : (z v : ℕ) (l : List ℕ) → has z (l ++ (v ∷ [])) ≡ true → (has z l ≡ true) ⊎ (z ≡ v)
unfolding has
has_last z v [] e = go (eqb z v) refl e
  where
    go : (b : Bool) → eqb z v ≡ b → or b false ≡ true → (false ≡ true) ⊎ (z ≡ v)
    go true q e = inr (eqb-true z v q)
    go false q e = inl e
has_last z v (x ∷ l) e = go (eqb z x) e (has_last z v l)
  where
    go : (b : Bool) → or b (has z (l ++ (v ∷ []))) ≡ true → (has z (l ++ (v ∷ [])) ≡ true → (has z l ≡ true) ⊎ (z ≡ v)) → (or b (has z l) ≡ true) ⊎ (z ≡ v)
    go true e on = inl refl
    go false e on = on e

module _ (P : ℕ → Type 0) (v : ℕ) (s : ℕ → State) (pv : P v) where
  abbrev Carry : Diverted → Type 0
  Carry d = (x z : ℕ) → has z (d.values x) ≡ true → P z

  one-carries : (m : ℕ) (d : Diverted) → Carry d → Carry (carry_one v s m d)
  unfolding carry_one
  one-carries m d h =
      branch Carry (and (is_pending (s m)) (no (has v (d.values m)))) _ _
      (λ _ x z. updated-at (λ l. has z l ≡ true → P z) m (d.values m ++ (v ∷ [])) d.values x (λ _ g. ⊎_elim (h m z) (λ q. rw q pv) (has_last z v (d.values m) g)) (λ _ g. h x z g))
      (λ _. h)

  all-carry : (l : List ℕ) (d : Diverted) → Carry d → Carry (carry v s l d)
  unfolding carry
  all-carry [] d h = h
  all-carry (m ∷ l) d h = all-carry l (carry_one v s m d) (one-carries m d h)

-- a live diversion: the search does nothing
kept-scratch : (o : Option Diverting) (n : ℕ) (s p : Place) (k k' : rules.ScratchAllocator) (q q' : Diversion)
    → pick (eqb n 0) o (some (record { place = s; allocator = k; diversion = q })) ≡ some (record { place = p; allocator = k'; diversion = q' }) → (n ≡ 0 → ⊥) → (s ≡ p) × (k ≡ k')
kept-scratch o n s p k k' q q' e nz =
    let z : ◌≡◌ {A = Option Diverting} (some (record { place = s; allocator = k; diversion = q })) (some (record { place = p; allocator = k'; diversion = q' })) = rw (ne_eqb n 0 nz) at e in
    let y : ◌≡◌ {A = Diverting} (record { place = s; allocator = k; diversion = q }) (record { place = p; allocator = k'; diversion = q' }) = cc in
    (ap (λ d. d.place) y, ap (λ d. d.allocator) y)

module _ (t f cache e sparse : List ℕ) (given : Given t f e sparse) (m : ℕ) (low : m < length (moves_of e)) (p : ParallelMoves) (k : ScratchAllocator) (w : Work) (h : Leads t f cache e m p k w) where
  abbrev v : ℕ
  v = (get_or (moves_of e) m no_move).value

  kept : KeptValue e v
  kept = (m, low, refl)

  room : FitsIn t f cache 0 2 8 k w.tables
  room = roomy t f cache e 8 1016 8 p k w h.stands h.paid (omega arith)

  pub rows-room : count_of w.carried + 8 ≤ 1024
  rows-room = omega (arith, h.stands.room)

  -- what `divert` asks
  pub divertible : (added : ℕ) → added ≤ 8
      → Checked t f × (v < num_values (function_of f)) × (count_at w.diverted v + added < 65536) × (0 < count_at w.diverted v → PlaceFits t (scratch_at w.diverted v)) × FitsIn t f cache 0 1 2 k w.tables
  divertible added few = (
    given.moves.checked,
    value_there t f e given.moves m low,
    omega (arith, h.stands.diversions.counts v kept, h.stands.counted v, rows-room),
    λ pos. (h.stands.diversions.live v kept pos).scratch-fits,
    fewer (omega arith) (omega arith) (omega arith) room,
  )

  module _ (b added src : ℕ) (barred : ℕ → Bool) (d : List ℕ) (r : Divert) (x : Tables) (div : Diverts t f cache b barred added src v w.diverted k w.tables d r x) where
    pub emit-room : FitsIn t f cache 0 1 4 r.allocator x
    emit-room = fewer (omega arith) (omega arith) (omega arith) (div.fits 0 1 6 room)

    pub emits : Emits t f e m r.place.0
    emits = record { moves = given.moves; low = low; from-fits = div.place }

  -- emitted at once
  module _ (src : ℕ) (es : place_at src ≡ (get_or (moves_of e) m no_move).source) where
    pub emits-source : Emits t f e m src × FitsIn t f cache 0 1 4 k w.tables
    emits-source = (record { moves = given.moves; low = low; from-fits = source_fits t f e given.moves m src low es }, fewer (omega arith) (omega arith) (omega arith) room)

  -- the tables after the sources were noted, the value carried and diverted, and the move emitted
  module _ (sources : List Bool) (marks : List ℕ) (states : states_of marks ≡ states_of w.marks) (noted : is_noted marks ≡ true) (are : set_of sources ≡ cycle_move_sources (T t) (F f) (moves_of e))
      (c : List ℕ) (added : ℕ) (did : CarriedAs (states_of marks) v w.carried c added 8 (carry v (states_of marks) (writers (T t) (F f) (moves_of e) m)))
      (src : ℕ) (es : place_at src ≡ (get_or (moves_of e) m no_move).source) (d : List ℕ) (r : Divert) (x : Tables)
      (div : Diverts t f cache (value_bank (function_of f) v) (barred_by true sources) added src v w.diverted k w.tables d r x) (k' : ScratchAllocator) (x' : Tables)
      (moved : Moved t f cache r.allocator x k' x' (do_move (T t) (F f) (value_bank (F f) v) (dest (T t) (F f) (moves_of e) m) (place_at r.place.0) v)) where
    abbrev after : Work
    after = record { tables = x'; sources = sources; diverted = d; marks = marks; carried = c }

    state-is : p.state ≡ states_of marks
    state-is = h.stands.state ∙ sym states

    abbrev carrying : Diverted
    carrying = carry v p.state (writers (T t) (F f) (moves_of e) m) p.diverted

    counted : Counted p.state v p.diverted carrying c added
    counted = rw state-is (did.diverted p.diverted (rw (← state-is) h.stands.carried))

    grown : Grown (T t) (F f) (moves_of e) v p.state p.diverted carrying
    grown = (carry-grown (T t) (F f) (moves_of e) v (value_there t f e given.moves m low) p.state (writers (T t) (F f) (moves_of e) m) (writers-low (T t) (F f) (moves_of e) m) p.diverted h.paid.counted).0

    still : (y : ℕ) → is_pending (p.state y) ≡ false → p.diverted.values y ≡ carried_by w.carried y → carrying.values y ≡ carried_by c y
    still y q g = grown.only y q ∙ g ∙ sym (did.still y (rw (← state-is) q))

    first_fits : PlaceFits t (alloc_at d v)
    first_fits =
        rw div.noted.alloc-is
        (branch (PlaceFits t) (eqb (count_at w.diverted v) 0) src (alloc_at w.diverted v) (λ z. source_fits t f e given.moves m src low es)
        (λ z. (h.stands.diversions.live v kept (positive z)).alloc-fits))
      where
        positive : eqb (count_at w.diverted v) 0 ≡ false → 0 < count_at w.diverted v
        positive z = let n = eqb-false (count_at w.diverted v) 0 z in omega (arith, n)

    module _ (alloc scratch : ℕ → Place) (a-here : alloc v ≡ place_at (alloc_at d v)) (a-there : (y : ℕ) → (y ≡ v → ⊥) → alloc y ≡ p.alloc y) (s-here : scratch v ≡ place_at (scratch_at d v)) (s-there : (y : ℕ) → (y ≡ v → ⊥) → scratch y ≡ p.scratch y) where
      abbrev next : ParallelMoves
      next = record { allocator = state_of t f cache k' x'; state = p.state; alloc = alloc; scratch = scratch; diverted = carrying }

      counts-next : (y : ℕ) → KeptValue e y → carrying.ref_count y ≡ count_at d y
      counts-next y ky =
          ⊎_elim (λ q. rw q (counted.more ∙ ap (λ (n : ℕ). n + added) (h.stands.diversions.counts v kept) ∙ sym div.noted.count-is))
          (λ n. counted.others y n ∙ h.stands.diversions.counts y ky ∙ sym (cells_stay t f e given.moves w.diverted d v kept div.noted.others y ky n).0) (same? y v)

      live-next : (y : ℕ) → KeptValue e y → 0 < count_at d y → Live t f cache e next d y
      live-next y ky pos = ⊎_elim (λ q. rw q here) (λ n. there n) (same? y v)
        where
          here : Live t f cache e next d v
          here = record { alloc = a-here; scratch = s-here; alloc-fits = first_fits; scratch-fits = rw div.noted.scratch-is div.place }

          there : (y ≡ v → ⊥) → Live t f cache e next d y
          there n =
              let s = cells_stay t f e given.moves w.diverted d v kept div.noted.others y ky n in
              let l = h.stands.diversions.live y ky (rw s.0 at pos) in
              record { alloc = rw s.1 (a-there y n ∙ l.alloc); scratch = rw s.2 (s-there y n ∙ l.scratch); alloc-fits = rw s.1 l.alloc-fits; scratch-fits = rw s.2 l.scratch-fits }

      stands-next : Stands t f cache e 0 next k' after
      stands-next =
          record {
            allocator = refl;
            state = state-is;
            sources = λ _. are;
            diversions = record { counts = counts-next; live = live-next };
            values = all-carry (KeptValue e) v p.state kept (writers (T t) (F f) (moves_of e) m) p.diverted h.stands.values;
            counted = λ y. ⊎_elim (λ q. rw q (omega (arith, counted.more, h.stands.counted v, did.count))) (λ n. omega (arith, counted.others y n, h.stands.counted y, did.count)) (same? y v);
            carried = counted.rows;
            room = omega (arith, h.stands.room, did.count, did.few);
            fits = fewer (omega arith) (omega arith) (omega arith) (moved.fits 0 0 0 (emit-room (value_bank (function_of f) v) added src (barred_by true sources) d r x div));
          }

      led : lead_diverted (T t) (F f) (moves_of e) m p ≡ some next → Led t f cache e (lead_diverted (T t) (F f) (moves_of e) m) p w k' after
      led is = record { gone = record { next = next; is = is; stands = stands-next }; still = still }

    -- a new diversion
    lead-new : count_at w.diverted v ≡ 0 → Led t f cache e (lead_diverted (T t) (F f) (moves_of e) m) p w k' after
    unfolding lead_diverted and_then
    lead-new z =
        led (updated v (place_at (alloc_at d v)) p.alloc) (updated v (place_at (scratch_at d v)) p.scratch) (updated-same v _ p.alloc) (updated-other v _ p.alloc) (updated-same v _ p.scratch) (updated-other v _ p.scratch)
        (rw (h.stands.diversions.counts v kept, eq-eqb (count_at w.diverted v) 0 z)
        (divert-is (T t) (F f) (moves_of e) (carried (T t) (F f) (moves_of e) m p) m added (diversion_at w.diverted v) z
        ∙ rw (h.stands.allocator, ← are, ← es, same-bank f v, div.is, ← same-bank f v, moved.is)))

    -- a live one keeps its scratch and its first source
    lead-live : (count_at w.diverted v ≡ 0 → ⊥) → Led t f cache e (lead_diverted (T t) (F f) (moves_of e) m) p w k' after
    unfolding lead_diverted and_then divert_by
    lead-live n =
        let l = h.stands.diversions.live v kept (omega (arith, n)) in
        let same = kept-scratch _ (count_at w.diverted v) _ _ _ _ _ _ div.is n in
        let first : alloc_at d v ≡ alloc_at w.diverted v = div.noted.alloc-is ∙ rw (ne_eqb (count_at w.diverted v) 0 n) in
        let place : place_at (scratch_at d v) ≡ place_at (scratch_at w.diverted v) = ap place_at div.noted.scratch-is ∙ sym same.0 in
        led p.alloc p.scratch (rw first l.alloc) (λ y q. refl) (rw place l.scratch) (λ y q. refl)
        (rw (h.stands.diversions.counts v kept, ne_eqb (count_at w.diverted v) 0 n, l.scratch, same.0, h.stands.allocator, same.1, moved.is))

    pub lead-diverted : Led t f cache e (lead_diverted (T t) (F f) (moves_of e) m) p w k' after
    lead-diverted = ⊎_elim lead-new lead-live (same? (count_at w.diverted v) 0)

  pub lead-open : (k' : ScratchAllocator) (w' : Work) → true ≡ any_in (λ y. is_pending (states_of w.marks y)) (writers (T t) (F f) (moves_of e) m) → Led t f cache e (lead_diverted (T t) (F f) (moves_of e) m) p w k' w' → Led t f cache e (lead (T t) (F f) (moves_of e) m) p w k' w'
  unfolding lead lead_diverted
  lead-open k' w' q l =
      let is : lead (T t) (F f) (moves_of e) m p ≡ some l.gone.next = rw (h.stands.state, ← q, ← h.stands.state) l.gone.is in
      record { gone = record { next = l.gone.next; is = is; stands = l.gone.stands }; still = l.still }

  pub lead-closed : (k' : ScratchAllocator) (x : Tables) (src : ℕ) → false ≡ any_in (λ y. is_pending (states_of w.marks y)) (writers (T t) (F f) (moves_of e) m) → place_at src ≡ (get_or (moves_of e) m no_move).source
      → Moved t f cache k w.tables k' x (do_move (T t) (F f) (value_bank (F f) v) (dest (T t) (F f) (moves_of e) m) (place_at src) v)
      → Led t f cache e (lead (T t) (F f) (moves_of e) m) p w k' (record { tables = x; sources = w.sources; diverted = w.diverted; marks = w.marks; carried = w.carried })
  unfolding lead and_then
  lead-closed k' x src q es moved =
      let is : lead (T t) (F f) (moves_of e) m p ≡ some (with_allocator (state_of t f cache k' x) p) = rw (h.stands.state, ← q, ← es, h.stands.allocator, moved.is, ← h.stands.state) in
      record {
        gone =
            record {
              next = with_allocator (state_of t f cache k' x) p;
              is = is;
              stands =
                  record {
                    allocator = refl;
                    state = h.stands.state;
                    sources = h.stands.sources;
                    diversions = record { counts = h.stands.diversions.counts; live = λ y ky pos. let l = h.stands.diversions.live y ky pos in record { alloc = l.alloc; scratch = l.scratch; alloc-fits = l.alloc-fits; scratch-fits = l.scratch-fits } };
                    values = h.stands.values;
                    counted = h.stands.counted;
                    carried = h.stands.carried;
                    room = omega (arith, h.stands.room);
                    fits = fewer (omega arith) (omega arith) (omega arith) (moved.fits 0 0 0 (fewer (omega arith) (omega arith) (omega arith) room));
                  };
            };
        still = λ y z g. g;
      }
