-- Every edit of a run names a register of the target, a value of the function and a slot that there is.
use Prim.Native.Nat.{ℕ, zero, suc, pred, ◌+◌, ◌<◌, ◌≤◌}
use mathlib.Core.Path.{◌≡◌, refl, subst}
use mathlib.Core.Bool.{Bool, true, false}
use mathlib.Core.List.{List, [], ◌∷◌, ◌++◌, reverse}
use mathlib.Core.Option.{Option, none, some}
use native.Mathlib.Omega.{arith}
use lib.Dec.{eqb, ltb}
use lib.ListN.{length, take, drop}
use borrow.Author.Tests.{ltb-true, lt-ltb}
use Rattle.entity.specs.Logic.{and, or, no, any_in, has, indices}
use Rattle.entity.specs.Place.{Place, reg, slot, names}
use Rattle.reginfo.specs.RegInfo.{RegInfo, num_regs, num_banks, num_classes, allocation_order, class_members, includes_spillslots, last_in_order, spillslot_size, top_level_class, stack_to_stack_class, bank_for_class, is_memory}
use Rattle.reginfo.specs.Refused as target
use Rattle.reginfo.proofs.Accepted.{regs-fit, top-fits, stack-fits, class-bank-fits, ordered-fits, last-ordered}
use Rattle.function.specs.Function.{Function, num_values, value_bank, remat_class}
use Rattle.rules.specs.Edit.{Edit, Move, Rematerialize, EmergencySpill, EmergencyReload, updated, and_then, each, find, filter}
use Rattle.rules.specs.Scratch.{Cache, ScratchAllocator, Evicted, Found, Acquired, acquire_from, acquire, release, push, unevict, unevict_all, unevict_but, overlaps_evicted, unevict_for_reg, make_room, usable, meeting, searched_to, slot_scratch, evict_last, reuse, or_scratch, get_scratch_reg, nothing_barred, move_edits, do_move, release_place, with_evicted}
use Rattle.rules.specs.Order.{KeptMove, Remat, State, ParallelMoves, Diverted, carry_one, carry, do_remat, remats, remat_with_scratch, source, dest, value, writers, cycle_move_sources, emit, noted, divert, carried, lead, lost, undivert, undivert_all, close, visit, visit_unless_memory, start, moves, with_state, Pending, Done, is_new, is_pending}
use Rattle.rules.specs.Patch.{Patch, Sorted, run}
use Rattle.rules.proofs.Steps.{All, all_then, all_map, branch, Every, every-reverse, every-index, all-each, updated-at}
use Rattle.rules.proofs.Writers.{writers-low}
use Rattle.machine.proofs.Tests.{find-all, of-yes}
use Rattle.examine_rules.specs.Examine.{named}

every-filter : {A : Type 0} (P : A → Type 0) (q : A → Bool) (l : List A) → Every P l → Every P (filter q l)
unfolding filter
every-filter P q [] h = tt
every-filter P q (x ∷ l) h = branch (Every P) (q x) (x ∷ filter q l) (filter q l) (λ _. (h.0, every-filter P q l h.1)) (λ _. every-filter P q l h.1)

every_take : {A : Type 0} (P : A → Type 0) (n : ℕ) (l : List A) → Every P l → Every P (take n l)
every_take P zero l h = tt
every_take P (suc n) [] h = tt
every_take P (suc n) (x ∷ l) h = (h.0, every_take P n l h.1)

every_drop : {A : Type 0} (P : A → Type 0) (n : ℕ) (l : List A) → Every P l → Every P (drop n l)
every_drop P zero l h = h
every_drop P (suc n) [] h = tt
every_drop P (suc n) (x ∷ l) h = every_drop P n l h.1

every-end : {A : Type 0} (P : A → Type 0) (l : List A) (x : A) → Every P l → P x → Every P (l ++ (x ∷ []))
every-end P [] x h k = (k, tt)
every-end P (y ∷ l) x h k = (h.0, every-end P l x h.1 k)

both : (a b : Bool) → a ≡ true → b ≡ true → and a b ≡ true
both a b h k = rw (h, k)

module _ (t : RegInfo) (f : Function) (ta : target.Accepted t) (banks : (v : ℕ) → v < num_values f → value_bank f v < num_banks t) (most : ℕ) (enough : f.limit ≤ most) where
  abbrev pub top : ℕ
  top = f.slots + most

  abbrev pub There : Place → Type 0
  There p = names (num_regs t) top p ≡ true

  abbrev Waits : Evicted → Type 0
  Waits e = (e.reg < num_regs t) × (e.slot < top)

  abbrev pub Low : (ℕ → List ℕ) → Type 0
  Low stacks = (z : ℕ) → Every (λ s. s < top) (stacks z)

  record Good (es : List Edit) (ws : List Evicted) (stacks : ℕ → List ℕ) : Type 0 where
    pub edits : Every (λ e. named t f most e ≡ true) es
    pub evicted : Every Waits ws
    pub low : Low stacks

  abbrev Ok : ScratchAllocator → Type 0
  Ok k = Good k.edits k.evicted k.cache.stacks

  -- an edit by its parts
  move-there : (to from : Place) (v : ℕ) → There to → There from → v < num_values f → named t f most (Move to from v) ≡ true
  unfolding named
  move-there to from v a b h = both _ _ a (both _ _ b (lt-ltb v (num_values f) h))

  remat-there : (to : Place) (v : ℕ) → There to → v < num_values f → named t f most (Rematerialize to v) ≡ true
  unfolding named
  remat-there to v a h = both _ _ a (lt-ltb v (num_values f) h)

  spill-there : (x r : ℕ) → x < top → r < num_regs t → named t f most (EmergencySpill x r) ≡ true
  unfolding named
  spill-there x r a b = both _ _ (lt-ltb x top a) (lt-ltb r (num_regs t) b)

  reload-there : (r x : ℕ) → x < top → r < num_regs t → named t f most (EmergencyReload r x) ≡ true
  unfolding named
  reload-there r x a b = both _ _ (lt-ltb x top a) (lt-ltb r (num_regs t) b)

  pushed : (e : Edit) (k : ScratchAllocator) → named t f most e ≡ true → Ok k → Ok (push e k)
  pushed e k n h = record { edits = (n, h.edits); evicted = h.evicted; low = h.low }

  -- ---- slots
  acquired : (z : ℕ) (c : Cache) → Low c.stacks → (l : List ℕ) → c.stacks z ≡ l → All (λ (a : Acquired). (a.slot < top) × Low a.cache.stacks) (acquire_from t f l z c)
  unfolding acquire_from
  acquired z c h [] e =
      branch (All (λ (a : Acquired). (a.slot < top) × Low a.cache.stacks)) (ltb c.made f.limit) _ _ (λ q. let l : c.made < f.limit = ltb-true _ _ q in (omega arith, h)) (λ _. tt)
  acquired z c h (s ∷ l) e =
      let q : Every (λ s. s < top) (s ∷ l) = subst (Every (λ s. s < top)) e (h z) in
      (q.0, λ y. updated-at (Every (λ s. s < top)) z l c.stacks y (λ _. q.1) (λ _. h y))

  released : (z s : ℕ) (c : Cache) → s < top → Low c.stacks → Low (release t f z s c).stacks
  released z s c l h y = updated-at (Every (λ s. s < top)) z (s ∷ c.stacks z) c.stacks y (λ _. (l, h z)) (λ _. h y)

  put_back : (z : ℕ) (p : Place) (k : ScratchAllocator) → There p → Ok k → Ok (release_place t f z p k)
  put_back z (reg r) k n h = h
  put_back z (slot s) k n h = record { edits = h.edits; evicted = h.evicted; low = released z s k.cache (ltb-true s top n) h.low }

  -- ---- evictions
  unevicted : (l : List Evicted) (k : ScratchAllocator) → Every Waits l → Ok k → Ok (unevict t f l k)
  unfolding unevict
  unevicted [] k w h = h
  unevicted (e ∷ l) k w h =
      let q : Ok (unevict t f l k) = unevicted l k w.1 h in
      record { edits = (spill-there e.slot e.reg w.0.1 w.0.0, q.edits); evicted = q.evicted; low = released e.size e.slot (unevict t f l k).cache w.0.1 q.low }

  keeping : (l : List Evicted) (k : ScratchAllocator) → Every Waits l → Ok k → Ok (with_evicted l k)
  keeping l k w h = record { edits = h.edits; evicted = w; low = h.low }

  for-ok : (p : Place) (k : ScratchAllocator) → Ok k → Ok (unevict_for_reg t f p k)
  unfolding unevict_for_reg
  for-ok p k h =
      unevicted (filter (overlaps_evicted t f p) k.evicted) (with_evicted (filter (λ e. no (overlaps_evicted t f p e)) k.evicted) k)
      (every-filter Waits (overlaps_evicted t f p) k.evicted h.evicted)
      (keeping (filter (λ e. no (overlaps_evicted t f p e)) k.evicted) k (every-filter Waits (λ e. no (overlaps_evicted t f p e)) k.evicted h.evicted) h)

  room-ok : (r : ℕ) (k : ScratchAllocator) → Ok k → Ok (make_room t f r k)
  unfolding make_room unevict_but
  room-ok r k h =
      let k' : ScratchAllocator = unevict_for_reg t f (reg r) k in
      let q : Ok k' = for-ok (reg r) k h in
      unevicted (drop (pred f.kept) k'.evicted) (with_evicted (take (pred f.kept) k'.evicted) k') (every_drop Waits (pred f.kept) k'.evicted q.evicted)
      (keeping (take (pred f.kept) k'.evicted) k' (every_take Waits (pred f.kept) k'.evicted q.evicted) q)

  all-ok : (k : ScratchAllocator) → Ok k → Ok (unevict_all t f k)
  all-ok k h = unevicted k.evicted (with_evicted [] k) h.evicted (keeping [] k tt h)

  -- ---- searches
  abbrev FoundOk : Found → Type 0
  FoundOk x = There x.place × Ok x.scratch

  slot_ok : (n b : ℕ) (k : ScratchAllocator) → Ok k → All FoundOk (slot_scratch t f n b k)
  unfolding slot_scratch
  slot_ok n b k h =
      all_then (λ (a : Acquired). (a.slot < top) × Low a.cache.stacks) FoundOk (acquire t f (spillslot_size t b) k.cache) _
      (acquired (spillslot_size t b) k.cache h.low (k.cache.stacks (spillslot_size t b)) refl)
      (λ a q. (lt-ltb a.slot top q.0, record { edits = h.edits; evicted = h.evicted; low = q.1 }))

  module _ (c : ℕ) (hc : c < num_classes t) where
    last-there : includes_spillslots t c ≡ false → last_in_order t c < num_regs t
    last-there ns = ordered-fits t ta c hc (last_in_order t c) (last-ordered t ta c hc ns)

    evict-ok : (n b : ℕ) (k : ScratchAllocator) → includes_spillslots t c ≡ false → Ok k → All FoundOk (evict_last t f n b c k)
    unfolding evict_last
    evict-ok n b k ns h =
        all_then (λ (a : Acquired). (a.slot < top) × Low a.cache.stacks) FoundOk (acquire t f (spillslot_size t b) k.cache) _
        (acquired (spillslot_size t b) k.cache h.low (k.cache.stacks (spillslot_size t b)) refl)
        (λ a q. (lt-ltb (last_in_order t c) (num_regs t) (last-there ns), record { edits = (reload-there (last_in_order t c) a.slot q.0 (last-there ns), h.edits); evicted = ((last-there ns, q.0), h.evicted); low = q.1 }))

    reuse-ok : (l : List Evicted) (n b : ℕ) (k : ScratchAllocator) → includes_spillslots t c ≡ false → Every Waits l → Ok k → All FoundOk (reuse t f l n b c k)
    unfolding reuse
    reuse-ok [] n b k ns w h = evict-ok n b (make_room t f (last_in_order t c) k) ns (room-ok (last_in_order t c) k h)
    reuse-ok (e ∷ l) n b k ns w h =
        branch (All FoundOk) (has e.reg (class_members t c)) _ _ (λ _. (lt-ltb e.reg (num_regs t) w.0.0, h)) (λ _. reuse-ok l n b k ns w.1 h)

    found_ok : (o : Option ℕ) → All (λ r. r < num_regs t) o → (n b : ℕ) (k : ScratchAllocator) → Ok k → All FoundOk (or_scratch t f o n b c k)
    unfolding or_scratch
    found_ok (some r) q n b k h = (lt-ltb r (num_regs t) q, h)
    found_ok none q n b k h = branch (All FoundOk) (includes_spillslots t c) _ _ (λ _. slot_ok n b k h) (λ ns. reuse-ok k.evicted n b k ns h.evicted h)

    search-ok : (b : ℕ) (barred : ℕ → Bool) (k : ScratchAllocator) → Ok k → All FoundOk (get_scratch_reg t f b c barred k)
    unfolding get_scratch_reg
    search-ok b barred k h =
        found_ok (find (usable t f barred k) (allocation_order t c))
        (all_map _ (λ r. r < num_regs t) (find (usable t f barred k) (allocation_order t c)) (λ r q. ordered-fits t ta c hc r (of-yes _ q.1)) (find-all (usable t f barred k) (allocation_order t c)))
        (searched_to t f c barred k) b (meeting (searched_to t f c barred k) k) h

  -- ---- moves
  edits-ok : (b : ℕ) (to from : Place) (v : ℕ) (k : ScratchAllocator) → b < num_banks t → There to → There from → v < num_values f → Ok k → All Ok (move_edits t f b to from v k)
  unfolding move_edits
  edits-ok b to from v k hb ht hf hv h =
      branch (All Ok) (and (is_memory t to) (is_memory t from)) _ _
      (λ _. all_then FoundOk Ok (get_scratch_reg t f b (stack_to_stack_class t b) (nothing_barred t f) k) _ (search-ok (stack_to_stack_class t b) (stack-fits t ta b hb) b (nothing_barred t f) k h)
      (λ x q. pushed (Move x.place from v) (push (Move to x.place v) x.scratch) (move-there x.place from v q.0 hf hv) (pushed (Move to x.place v) x.scratch (move-there to x.place v ht q.0 hv) q.1)))
      (λ _. pushed (Move to from v) k (move-there to from v ht hf hv) h)

  do-ok : (b : ℕ) (to from : Place) (v : ℕ) (k : ScratchAllocator) → b < num_banks t → There to → There from → v < num_values f → Ok k → All Ok (do_move t f b to from v k)
  unfolding do_move
  do-ok b to from v k hb ht hf hv h =
      all_then Ok Ok (move_edits t f b to from v (unevict_for_reg t f to (unevict_for_reg t f from k))) _
      (edits-ok b to from v (unevict_for_reg t f to (unevict_for_reg t f from k)) hb ht hf hv (for-ok to (unevict_for_reg t f from k) (for-ok from k h))) (λ k' q. record { edits = q.edits; evicted = q.evicted; low = q.low })

  -- ---- rebuilds
  abbrev pub RematThere : Remat → Type 0
  RematThere r = There r.dest × (r.value < num_values f)

  remats-ok : (l : List Remat) (k : ScratchAllocator) → Every RematThere l → Ok k → Ok (remats t f l k)
  unfolding remats
  remats-ok [] k w h = h
  remats-ok (r ∷ l) k w h =
      remats-ok l (do_remat t f r k) w.1 (record { edits = (remat-there r.dest r.value w.0.0 w.0.1, h.edits); evicted = h.evicted; low = h.low })

  abbrev pub ScratchThere : Remat → Type 0
  ScratchThere r = There r.dest × (r.value < num_values f) × (remat_class f r.value < num_classes t)

  remat-ok : (r : Remat) (k : ScratchAllocator) → ScratchThere r → Ok k → All Ok (remat_with_scratch t f r k)
  unfolding remat_with_scratch
  remat-ok r k w h =
      let hb : bank_for_class t (remat_class f r.value) < num_banks t = class-bank-fits t ta (remat_class f r.value) w.2 in
      all_then FoundOk Ok (get_scratch_reg t f (bank_for_class t (remat_class f r.value)) (remat_class f r.value) (nothing_barred t f) (unevict_for_reg t f r.dest k)) _
      (search-ok (remat_class f r.value) w.2 (bank_for_class t (remat_class f r.value)) (nothing_barred t f) (unevict_for_reg t f r.dest k) (for-ok r.dest k h))
      (λ x q. all_then Ok Ok (move_edits t f (bank_for_class t (remat_class f r.value)) r.dest x.place r.value x.scratch) _
      (edits-ok (bank_for_class t (remat_class f r.value)) r.dest x.place r.value x.scratch hb w.0 q.0 w.1 q.1)
      (λ k' g. let y : Ok (release_place t f (spillslot_size t (bank_for_class t (remat_class f r.value))) x.place (push (Rematerialize x.place r.value) k')) =
      put_back _ x.place (push (Rematerialize x.place r.value) k') q.0 (pushed _ k' (remat-there x.place r.value q.0 w.1) g) in
      record { edits = y.edits; evicted = y.evicted; low = y.low }))

  -- ---- the kept moves
  record Walk (k : ScratchAllocator) (firsts seconds : ℕ → Place) (carried : ℕ → List ℕ) : Type 0 where
    pub good : Ok k
    pub alloc : (v : ℕ) → There (firsts v)
    pub scratch : (v : ℕ) → There (seconds v)
    pub values : (i : ℕ) → Every (λ v. v < num_values f) (carried i)

  abbrev Walking : ParallelMoves → Type 0
  Walking w = Walk w.allocator w.alloc w.scratch w.diverted.values

  module _ (v : ℕ) (hv : v < num_values f) (state : ℕ → State) where
    abbrev Carries : Diverted → Type 0
    Carries d = (i : ℕ) → Every (λ v. v < num_values f) (d.values i)

    carry-one : (m : ℕ) (d : Diverted) → Carries d → Carries (carry_one v state m d)
    unfolding carry_one
    carry-one m d h =
        branch Carries (and (is_pending (state m)) (no (has v (d.values m)))) _ _
        (λ _ i. updated-at (Every (λ v. v < num_values f)) m (d.values m ++ (v ∷ [])) d.values i (λ _. every-end (λ v. v < num_values f) (d.values m) v (h m) hv) (λ _. h i)) (λ _. h)

    carry-all : (l : List ℕ) (d : Diverted) → Carries d → Carries (carry v state l d)
    unfolding carry
    carry-all [] d h = h
    carry-all (m ∷ l) d h = carry-all l (carry_one v state m d) (carry-one m d h)

  module _ (ms : List KeptMove) (there : (i : ℕ) → i < length ms → There (source t f ms i) × There (dest t f ms i) × (value t f ms i < num_values f)) where
    emit-ok : (i : ℕ) → i < length ms → (from : Place) → There from → (w : ParallelMoves) → Walking w → All Walking (emit t f ms i from w)
    emit-ok i il from hf w g =
        let x = there i il in
        all_then Ok Walking (do_move t f (value_bank f (value t f ms i)) (dest t f ms i) from (value t f ms i) w.allocator) _
        (do-ok (value_bank f (value t f ms i)) (dest t f ms i) from (value t f ms i) w.allocator (banks (value t f ms i) x.2) x.1 hf x.2 g.good)
        (λ k q. record { good = q; alloc = g.alloc; scratch = g.scratch; values = g.values })

    divert-ok : (i : ℕ) → i < length ms → (w : ParallelMoves) → Walking w → All Walking (divert t f ms i w)
    unfolding divert
    divert-ok i il w g =
        let x = there i il in
        let hb : value_bank f (value t f ms i) < num_banks t = banks (value t f ms i) x.2 in
        let c : ℕ = top_level_class t (value_bank f (value t f ms i)) in
        all_then FoundOk Walking (get_scratch_reg t f (value_bank f (value t f ms i)) c (cycle_move_sources t f ms) w.allocator) _
        (search-ok c (top-fits t ta (value_bank f (value t f ms i)) hb) (value_bank f (value t f ms i)) (cycle_move_sources t f ms) w.allocator g.good)
        (λ y q. emit-ok i il y.place q.0 (noted t f ms i y w) (record {
          good = record { edits = q.1.edits; evicted = q.1.evicted; low = q.1.low };
          alloc = λ v. updated-at There (value t f ms i) (source t f ms i) w.alloc v (λ _. x.0) (λ _. g.alloc v);
          scratch = λ v. updated-at There (value t f ms i) y.place w.scratch v (λ _. q.0) (λ _. g.scratch v);
          values = g.values;
        }))

    lead-ok : (i : ℕ) → i < length ms → (w : ParallelMoves) → Walking w → All Walking (lead t f ms i w)
    unfolding lead
    lead-ok i il w g =
        let x = there i il in
        let c : Walking (carried t f ms i w) = record { good = g.good; alloc = g.alloc; scratch = g.scratch; values = carry-all (value t f ms i) x.2 w.state (writers t f ms i) w.diverted g.values } in
        branch (All Walking) (any_in (λ m. is_pending (w.state m)) (writers t f ms i)) _ _
        (λ _. branch (All Walking) (eqb (w.diverted.ref_count (value t f ms i)) 0) _ _ (λ _. divert-ok i il (carried t f ms i w) c) (λ _. emit-ok i il (w.scratch (value t f ms i)) (g.scratch (value t f ms i)) (carried t f ms i w) c))
        (λ _. emit-ok i il (source t f ms i) x.0 w g)

    undivert-ok : (i v : ℕ) (rest : List ℕ) (w : ParallelMoves) → v < num_values f → Every (λ v. v < num_values f) rest → Walking w → All Walking (undivert t f ms i v rest w)
    unfolding undivert
    undivert-ok i v rest w hv hr g =
        let vs : (j : ℕ) → Every (λ v. v < num_values f) (updated i rest w.diverted.values j) = λ j. updated-at (Every (λ v. v < num_values f)) i rest w.diverted.values j (λ _. hr) (λ _. g.values j) in
        branch (All Walking) (eqb ((lost t f ms i v rest w.diverted).ref_count v) 0) _ _
        (λ _. all_then Ok Walking (do_move t f (value_bank f v) (w.scratch v) (w.alloc v) v w.allocator) _
        (do-ok (value_bank f v) (w.scratch v) (w.alloc v) v w.allocator (banks v hv) (g.scratch v) (g.alloc v) hv g.good)
        (λ k q. record { good = put_back (spillslot_size t (value_bank f v)) (w.scratch v) k (g.scratch v) q; alloc = g.alloc; scratch = g.scratch; values = vs }))
        (λ _. record { good = g.good; alloc = g.alloc; scratch = g.scratch; values = vs })

    undivert_all-ok : (i : ℕ) (l : List ℕ) (w : ParallelMoves) → Every (λ v. v < num_values f) l → Walking w → All Walking (undivert_all t f ms i l w)
    unfolding undivert_all
    undivert_all-ok i [] w h g = g
    undivert_all-ok i (v ∷ l) w h g = all_then Walking Walking (undivert t f ms i v l w) _ (undivert-ok i v l w h.0 h.1 g) (λ w' q. undivert_all-ok i l w' h.1 q)

    close-ok : (i : ℕ) → i < length ms → (w : ParallelMoves) → Walking w → All Walking (close t f ms i w)
    unfolding close
    close-ok i il w g = all_then Walking Walking (lead t f ms i (with_state i Done w)) _ (lead-ok i il (with_state i Done w) g) (λ w' q. undivert_all-ok i (w'.diverted.values i) w' (q.values i) q)

    visit-ok : (n i : ℕ) → i < length ms → (w : ParallelMoves) → Walking w → All Walking (visit t f ms n i w)
    unfolding visit
    visit-ok zero i il w g = branch (All Walking) (is_new (w.state i)) _ _ (λ _. tt) (λ _. g)
    visit-ok (suc n) i il w g =
        branch (All Walking) (is_new (w.state i)) _ _
        (λ _. all_then Walking Walking (each (visit t f ms n) (reverse (writers t f ms i)) (with_state i Pending w)) _
        (all-each Walking (λ j. j < length ms) (visit t f ms n) (λ j w' jl q. visit-ok n j jl w' q) (reverse (writers t f ms i)) (every-reverse (λ j. j < length ms) (writers t f ms i) (writers-low t f ms i)) (with_state i Pending w) g)
        (λ w' q. close-ok i il w' q))
        (λ _. g)

    first-ok : (i : ℕ) → i < length ms → (w : ParallelMoves) → Walking w → All Walking (visit_unless_memory t f ms i w)
    unfolding visit_unless_memory
    first-ok i il w g = branch (All Walking) (or (is_memory t (source t f ms i)) (is_memory t (dest t f ms i))) _ _ (λ _. g) (λ _. visit-ok (length ms) i il w g)

    start-ok : (k : ScratchAllocator) → Ok k → Walking (start t f ms k)
    unfolding start
    start-ok k h = record { good = h; alloc = λ v. lt-ltb 0 (num_regs t) (regs-fit t ta).0; scratch = λ v. lt-ltb 0 (num_regs t) (regs-fit t ta).0; values = λ i. tt }

    moves-ok : (k : ScratchAllocator) → Ok k → All Ok (moves t f ms k)
    unfolding moves
    moves-ok k h =
        let below = every-index (length ms) 0 (length ms) (omega arith) in
        all_then Walking Ok (and_then (each (visit_unless_memory t f ms) (indices 0 (length ms)) (start t f ms k)) (each (visit t f ms (length ms)) (indices 0 (length ms)))) _
        (all_then Walking Walking (each (visit_unless_memory t f ms) (indices 0 (length ms)) (start t f ms k)) _
        (all-each Walking (λ i. i < length ms) (visit_unless_memory t f ms) (λ i w il q. first-ok i il w q) (indices 0 (length ms)) below (start t f ms k) (start-ok k h))
        (λ w q. all-each Walking (λ i. i < length ms) (visit t f ms (length ms)) (λ i w il q. visit-ok (length ms) i il w q) (indices 0 (length ms)) below w q))
        (λ w q. all-ok w.allocator q.good)

  -- ---- the whole run
  pub run-named : (p : Patch) (a : Sorted) (c : Cache)
      → ((i : ℕ) → i < length a.moves → There (source t f a.moves i) × There (dest t f a.moves i) × (value t f a.moves i < num_values f))
      → Every RematThere a.remats → Every ScratchThere a.remats_with_scratch → Low c.stacks
      → All (λ k. Every (λ e. named t f most e ≡ true) k.edits × Low k.cache.stacks) (run t f p a c)
  unfolding run
  run-named p a c ms rs ss h =
      all_map Ok (λ k. Every (λ e. named t f most e ≡ true) k.edits × Low k.cache.stacks) (run t f p a c) (λ k q. (q.edits, q.low))
      (all_then Ok Ok (each (remat_with_scratch t f) a.remats_with_scratch (remats t f a.remats (record { edits = []; available = λ u. has u p.free; evicted = []; cache = c; met = 0 }))) (moves t f a.moves)
      (all-each Ok ScratchThere (remat_with_scratch t f) (λ r k w q. remat-ok r k w q) a.remats_with_scratch ss _
      (remats-ok a.remats (record { edits = []; available = λ u. has u p.free; evicted = []; cache = c; met = 0 }) rs (record { edits = tt; evicted = tt; low = h })))
      (λ k q. moves-ok a.moves ms k q))
