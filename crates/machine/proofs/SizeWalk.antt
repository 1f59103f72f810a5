-- 02 j: the kept moves in depth, and with them a whole run, keep each slot to its own size, and few of a size.
use Prim.Native.Nat.{ℕ, zero, suc, pred, ◌+◌, ◌<◌, ◌≤◌}
use mathlib.Core.Path.{◌≡◌, refl, sym, subst, ◌∙◌}
use mathlib.Core.Bool.{Bool, true, false, false≢true}
use mathlib.Core.List.{List, [], ◌∷◌, reverse}
use mathlib.Core.Option.{Option, none, some}
use mathlib.Core.Logic.{◌⊎◌, ⊎_elim}
use native.Mathlib.Omega.{arith}
use lib.Dec.{eqb}
use lib.ListN.{length, get_or}
use borrow.Author.Tests.{eqb-true, eqb-false}
use Rattle.entity.specs.Logic.{or, any_in, indices}
use Rattle.entity.specs.Place.{Place, slot}
use Rattle.reginfo.specs.RegInfo.{RegInfo, num_banks, is_memory, spillslot_size, top_level_class}
use Rattle.reginfo.specs.Refused as target
use Rattle.reginfo.proofs.Accepted.{top-bank, top-fits}
use Rattle.function.specs.Function.{Function, num_values, value_bank}
use Rattle.rules.specs.Edit.{and_then, each}
use Rattle.rules.specs.Scratch.{Cache, ScratchAllocator, get_scratch_reg, do_move}
use Rattle.rules.specs.Order.{KeptMove, no_move, New, Pending, Done, is_new, is_pending, Diverted, ParallelMoves, with_state, remats, remat_with_scratch, source, dest, value, bank, writers, cycle_move_sources, emit, noted, divert, carried, lead, lost, undivert, undivert_all, close, visit, visit_unless_memory, start, moves, no_remat}
use Rattle.rules.specs.Patch.{Patch, Sorted, names_place, run}
use Rattle.rules.specs.Sorted.{MoveOk, RematOk, SortedOk}
use Rattle.rules.specs.Counts.{sum, news}
use Rattle.rules.proofs.Steps.{All, all_then, all_map, branch, same?, Every, every-get_d, every-reverse, every-index, all-each, updated-at, updated-same}
use Rattle.rules.proofs.News.{news-all, news-open, news-close}
use Rattle.rules.proofs.Writers.{writers-low}
use Rattle.rules.proofs.Sum.{sum-le, sum-part, sum-zero}
use Rattle.machine.specs.Paid.{sign, live}
use Rattle.machine.specs.Slots.{Stacked}
use Rattle.machine.proofs.Bound.{Placed, live-grown, live-kept}
use Rattle.machine.proofs.Banked.{Banked}
use Rattle.machine.proofs.SlotCounts.{positive, holds, held, held-live, held-ended, waits, Count, stacked}
use Rattle.machine.proofs.SlotSteps as slots
use Rattle.machine.proofs.SlotWalk.{diverted, Walk, grown, joined-held, begun-held, lead-walk, Closing, Left, lives, there, fewer, undivert-walk, undivert_all-walk, Others, done-walk, open-walk, start-walk, rest-held}
use Rattle.machine.proofs.Slots.{begun, begin-good}
use Rattle.machine.proofs.Sums.{sum-swap}
use Rattle.machine.proofs.OwnSize.{holds-few, Nothing, Fair, fair-cong, Kept, kept-cong, place_kept, Ended, ended}
use Rattle.machine.proofs.SizeSteps.{holds-here, Zero, Slack, Search, search-kept, Known, value-size, move-kept, low-place, remats-kept, scratch-kept}

-- both hold of a result
pub all_both : {A : Type 0} (P Q : A → Type 0) (o : Option A) → All P o → All Q o → All (λ a. P a × Q a) o
all_both P Q none h k = tt
all_both P Q (some a) h k = (h, k)

held-few : (n : ℕ) (p : Place) (z y m : ℕ) → sum (λ s. held n p z s y) m ≤ sign n
unfolding held sign
held-few zero p z y m = omega (arith, sum-zero (λ s. 0) m (λ s h. refl))
held-few (suc n) p z y m = holds-few p z y m

any_none : (p : ℕ → Bool) (l : List ℕ) → ((k : ℕ) → p k ≡ false) → any_in p l ≡ false
unfolding any_in
any_none p [] h = refl
any_none p (x ∷ l) h = rw (h x) (any_none p l h)

module _ (t : RegInfo) (f : Function) (c₀ : Cache) (at : target.Accepted t) (af : Banked t f) where
  af-placed : Placed t f
  af-placed = record { bank = af.bank; class = af.class }

  module _ (ms : List KeptMove) (ok : (i : ℕ) → i < length ms → MoveOk t f (get_or ms i no_move)) where
    abbrev n : ℕ
    n = length ms

    abbrev size : ℕ → ℕ
    size v = spillslot_size t (value_bank f v)

    -- what the live diversions hold, and how the moves stand
    abbrev held_by : ParallelMoves → Count
    held_by w = diverted t f c₀ at af ms ok w.diverted.ref_count w.scratch

    abbrev Stands : (ℕ → Type 0) → (ℕ → Type 0) → ParallelMoves → Type 0
    Stands = Walk t f c₀ at af ms ok

    live-slack : (w : ParallelMoves) → Slack (live t f w.diverted) (held_by w)
    unfolding live diverted
    live-slack w m y =
        omega (
          arith,
          sum-swap (λ s v. held (w.diverted.ref_count v) (w.scratch v) (size v) s y) m (num_values f),
          sum-le (λ v. sum (λ s. held (w.diverted.ref_count v) (w.scratch v) (size v) s y) m) (λ v. sign (w.diverted.ref_count v)) (num_values f)
              (λ v h. held-few (w.diverted.ref_count v) (w.scratch v) (size v) y m),
        )

    scratch-known : (w : ParallelMoves) (v : ℕ) → v < num_values f → 0 < w.diverted.ref_count v → Known t f (held_by w) v (w.scratch v)
    unfolding diverted
    scratch-known w v vl l s e low =
        omega (
          arith,
          sum-part (λ x. held (w.diverted.ref_count x) (w.scratch x) (size x) s (size v)) (num_values f) v vl,
          held-live (w.diverted.ref_count v) (w.scratch v) (size v) s (size v) l,
          holds-here (w.scratch v) (size v) s e,
        )

    -- diversions that live and moves not visited are at most a; a first source is no emergency slot
    record Sparing (a : ℕ) (w : ParallelMoves) : Type 0 where
      kept : Kept t f c₀ Nothing (held_by w) w.allocator
      room : live t f w.diverted + news n w.state ≤ a
      low : (v : ℕ) → 0 < w.diverted.ref_count v → names_place t f (w.alloc v) ≡ true

    module _ (a : ℕ) (al : a ≤ 127) (i : ℕ) (il : i < n) where
      abbrev v : ℕ
      v = value t f ms i

      vl : v < num_values f
      vl = (ok i il).value-named

      emit-sparing :
          (ex : ℕ → Type 0) (from : Place) (w : ParallelMoves) → Known t f (held_by w) v from → ((s : ℕ) → ex s → from ≡ slot s) → Kept t f c₀ ex (held_by w) w.allocator
          → live t f w.diverted + news n w.state ≤ a → ((x : ℕ) → 0 < w.diverted.ref_count x → names_place t f (w.alloc x) ≡ true) → All (Sparing a) (emit t f ms i from w)
      emit-sparing ex from w known h g room low =
          all_then (Kept t f c₀ Nothing (held_by w)) (Sparing a) (do_move t f (bank t f ms v) (dest t f ms i) from v w.allocator) _
          (move-kept t f c₀ at af v vl (bank t f ms v) refl (held_by w) (λ m z. omega (arith, live-slack w m z)) (dest t f ms i) from (low-place t f (held_by w) v (dest t f ms i) (ok i il).dest-named) known ex
          w.allocator h g)
          (λ k q. record { kept = q; room = room; low = low })

      from-source : (w : ParallelMoves) → Sparing a w → All (Sparing a) (emit t f ms i (source t f ms i) w)
      from-source w g =
          emit-sparing Nothing (source t f ms i) w (low-place t f (held_by w) v (source t f ms i) (ok i il).source-named) (λ s q. absurd q) g.kept g.room g.low

      module _ (loaded calm : ℕ → Type 0) (w : ParallelMoves) (old : Stands loaded calm w) (g : Sparing (pred a) w) (some_left : 0 < a) where
        abbrev w' : ParallelMoves
        w' = carried t f ms i w

        more_room : live t f w'.diverted + news n w.state ≤ a
        more_room =
            omega (arith, g.room, live-grown t f at af-placed ms ok v w.state w.diverted w'.diverted vl (grown t f c₀ at af ms ok loaded calm i il w old).0)

        divert-sparing : any_in (λ m. is_pending (w.state m)) (writers t f ms i) ≡ true → w.diverted.ref_count v ≡ 0 → All (Sparing a) (divert t f ms i w')
        unfolding divert
        divert-sparing e z =
            let b : ℕ = bank t f ms v in
            let bl : b < num_banks t = af.bank v vl in
            all_then (Search t f c₀ b (top_level_class t b) Nothing (held_by w)) (Sparing a) (get_scratch_reg t f b (top_level_class t b) (cycle_move_sources t f ms) w.allocator) _
            (search-kept t f c₀ at af b (top_level_class t b) (value-size t f v vl) (top-fits t at b bl) (top-bank t at b bl) Nothing (held_by w) (λ m y. omega (arith, live-slack w m y, g.room)) (cycle_move_sources t f ms)
            w.allocator (λ _ m y. omega (arith, live-slack w m y, g.room)) g.kept)
            (λ x q. let w'' : ParallelMoves = noted t f ms i x w' in
            let k = kept-cong t f c₀ (λ s. ⊥ ⊎ (x.place ≡ slot s)) _ (held_by w'') x.scratch (begun-held t f c₀ at af ms ok loaded calm i il w old x.place e z) q.kept in
            emit-sparing (λ s. ⊥ ⊎ (x.place ≡ slot s)) x.place w''
            (λ s r l. scratch-known w'' v vl ((grown t f c₀ at af ms ok loaded calm i il w old).1 e) s (updated-same v x.place w.scratch ∙ r) l) (λ s. ⊎_elim (λ r. absurd r) (λ r. r))
            (record { fair = k.fair; named = k.named; held = k.held; own = k.own }) more_room
            (λ y l. updated-at (λ (p : Place). names_place t f p ≡ true) v (source t f ms i) w.alloc y (λ _. (ok i il).source-named)
            (λ d. g.low y (omega (arith, l, (grown t f c₀ at af ms ok loaded calm i il w old).0.others y d)))))

        joined-sparing : 0 < w.diverted.ref_count v → All (Sparing a) (emit t f ms i (w.scratch v) w')
        joined-sparing l =
            let r = (grown t f c₀ at af ms ok loaded calm i il w old).0 in
            let k = kept-cong t f c₀ Nothing _ (held_by w') w.allocator (joined-held t f c₀ at af ms ok loaded calm i il w old l) g.kept in
            emit-sparing Nothing (w.scratch v) w' (scratch-known w' v vl (omega (arith, r.more))) (λ s q. absurd q) k more_room
            (λ y h. ⊎_elim (λ (e : y ≡ v). g.low y (subst (λ (j : ℕ). 0 < w.diverted.ref_count j) (sym e) l)) (λ d. g.low y (omega (arith, h, r.others y d))) (same? y v))

        lead-sparing : All (Sparing a) (lead t f ms i w)
        unfolding lead
        lead-sparing =
            branch (All (Sparing a)) (any_in (λ m. is_pending (w.state m)) (writers t f ms i)) _ _
            (λ e. branch (All (Sparing a)) (eqb (w.diverted.ref_count v) 0) _ _ (λ z. divert-sparing e (eqb-true (w.diverted.ref_count v) 0 z))
            (λ z. joined-sparing (positive (w.diverted.ref_count v) (eqb-false (w.diverted.ref_count v) 0 z))))
            (λ _. from-source w (record { kept = g.kept; room = omega (arith, g.room); low = g.low }))

      module _ (calm : ℕ → Type 0) (u : ℕ) (l : List ℕ) (w : ParallelMoves) (e : w.diverted.values i ≡ u ∷ l) (old : Closing t f c₀ at af ms ok i il calm w) (g : Sparing a w) where
        abbrev d'' : Diverted
        d'' = lost t f ms i u l w.diverted

        u-lives : 0 < w.diverted.ref_count u
        u-lives = lives t f c₀ at af ms ok i il calm u l w e old

        u-there : u < num_values f
        u-there = there t f c₀ at af ms ok i il calm u l w e old

        one_less : (s y : ℕ) → diverted t f c₀ at af ms ok d''.ref_count w.scratch s y + holds (w.scratch u) (size u) s y ≡ held_by w s y + held (d''.ref_count u) (w.scratch u) (size u) s y
        one_less = fewer t f c₀ at af ms ok i il calm u l w e old

        less-room : live t f d'' + news n w.state ≤ a
        less-room = omega (arith, g.room, live-kept t f at af-placed ms ok i il u l w.diverted e old.counted)

        still-low : (x : ℕ) → 0 < d''.ref_count x → names_place t f (w.alloc x) ≡ true
        still-low x h =
            g.low x
            (updated-at (λ (j : ℕ). 0 < j → 0 < w.diverted.ref_count x) u (pred (w.diverted.ref_count u)) w.diverted.ref_count x
            (λ (q : x ≡ u) _. subst (λ (j : ℕ). 0 < w.diverted.ref_count j) (sym q) u-lives) (λ _ k. k) h)

        undivert-sparing : All (Sparing a) (undivert t f ms i u l w)
        unfolding undivert
        undivert-sparing =
            branch (All (Sparing a)) (eqb (d''.ref_count u) 0) _ _
            (λ z. all_then (Kept t f c₀ Nothing (held_by w)) (Sparing a) (do_move t f (bank t f ms u) (w.scratch u) (w.alloc u) u w.allocator) _
            (move-kept t f c₀ at af u u-there (bank t f ms u) refl (held_by w) (λ m y. omega (arith, live-slack w m y, g.room)) (w.scratch u) (w.alloc u) (scratch-known w u u-there u-lives)
            (low-place t f (held_by w) u (w.alloc u) (g.low u u-lives)) Nothing w.allocator (λ s q. absurd q) g.kept)
            (λ k q. record {
              kept =
                  place_kept t f c₀ (size u) (w.scratch u) k Nothing (diverted t f c₀ at af ms ok d''.ref_count w.scratch)
                  (kept-cong t f c₀ Nothing (held_by w) _ k (λ s y. omega (arith, one_less s y, held-ended (d''.ref_count u) (w.scratch u) (size u) s y (eqb-true (d''.ref_count u) 0 z))) q);
              room = less-room;
              low = still-low;
            }))
            (λ z. record {
              kept =
                  kept-cong t f c₀ Nothing (held_by w) _ w.allocator
                  (λ s y. omega (arith, one_less s y, held-live (d''.ref_count u) (w.scratch u) (size u) s y (positive (d''.ref_count u) (eqb-false (d''.ref_count u) 0 z)))) g.kept;
              room = less-room;
              low = still-low;
            })

      module _ (calm : ℕ → Type 0) where
        -- the moves as they stand, and spared
        abbrev Shut : ParallelMoves → Type 0
        Shut w = Closing t f c₀ at af ms ok i il calm w × Sparing a w

        undivert_all-both : (l : List ℕ) (w : ParallelMoves) → w.diverted.values i ≡ l → Shut w → All (λ w. Stands Nothing calm w × Sparing a w) (undivert_all t f ms i l w)
        unfolding undivert_all
        undivert_all-both [] w e g = (undivert_all-walk t f c₀ at af ms ok i il calm [] w e g.0, g.1)
        undivert_all-both (u ∷ l) w e g =
            all_then (λ w'. Left t f c₀ at af ms ok i il calm u l w e g.0 w' × Sparing a w') (λ w. Stands Nothing calm w × Sparing a w) (undivert t f ms i u l w) _
            (all_both (Left t f c₀ at af ms ok i il calm u l w e g.0) (Sparing a) (undivert t f ms i u l w) (undivert-walk t f c₀ at af ms ok i il calm u l w e g.0) (undivert-sparing calm u l w e g.0 g.1))
            (λ w' q. undivert_all-both l w' q.0.1 (q.0.0, q.1))

        -- where the move is led
        close-both : (w : ParallelMoves) → Stands Nothing (Others t f c₀ at af ms ok i il calm) w → All (Sparing a) (lead t f ms i (with_state i Done w)) → All (λ w. Stands Nothing calm w × Sparing a w) (close t f ms i w)
        unfolding close
        close-both w old g =
            all_then Shut (λ w. Stands Nothing calm w × Sparing a w) (lead t f ms i (with_state i Done w)) _
            (all_both (Closing t f c₀ at af ms ok i il calm) (Sparing a) (lead t f ms i (with_state i Done w))
            (lead-walk t f c₀ at af ms ok (λ k. k ≡ i) calm i il (with_state i Done w) (done-walk t f c₀ at af ms ok i il calm w old)) g)
            (λ w' q. undivert_all-both (w'.diverted.values i) w' refl q)

    abbrev Both : (ℕ → Type 0) → ℕ → ParallelMoves → Type 0
    Both calm a w = Stands Nothing calm w × Sparing a w

    -- the moves not visited after i is opened
    abbrev left : ℕ → ParallelMoves → ℕ
    left i w = live t f w.diverted + news n (with_state i Pending w).state

    -- the writers of i, where each visit keeps to what is left
    writers-both :
        (fuel i : ℕ) (il : i < n) (w : ParallelMoves) (calm : ℕ → Type 0)
        → ((calm : ℕ → Type 0) (m : ℕ) (w' : ParallelMoves) → m < n → Both calm (left i w) w' → All (Both calm (left i w)) (visit t f ms fuel m w'))
        → (a : ℕ) → Both calm a w → All (Both (Others t f c₀ at af ms ok i il calm) (left i w)) (each (visit t f ms fuel) (reverse (writers t f ms i)) (with_state i Pending w))
    writers-both fuel i il w calm visits a g =
        let P = Both (Others t f c₀ at af ms ok i il calm) (left i w) in
        all-each P (λ m. m < n) (visit t f ms fuel) (λ m w' ml q. visits (Others t f c₀ at af ms ok i il calm) m w' ml q) (reverse (writers t f ms i))
        (every-reverse (λ m. m < n) (writers t f ms i) (writers-low t f ms i)) (with_state i Pending w)
        (open-walk t f c₀ at af ms ok i il calm w g.0, record { kept = g.1.kept; room = omega arith; low = g.1.low })

    -- under an open move
    visit-both : (fuel a : ℕ) → a ≤ 127 → (calm : ℕ → Type 0) (i : ℕ) (w : ParallelMoves) → i < n → Both calm a w → All (Both calm a) (visit t f ms fuel i w)
    unfolding visit
    visit-both zero a al calm i w il g = branch (All (Both calm a)) (is_new (w.state i)) _ _ (λ _. tt) (λ _. g)
    visit-both (suc fuel) a al calm i w il g =
        branch (All (Both calm a)) (is_new (w.state i)) _ _
        (λ e. let fewer : left i w < a = omega (arith, news-open n i w.state il e, g.1.room) in
        all_then (Both (Others t f c₀ at af ms ok i il calm) (left i w)) (Both calm a) (each (visit t f ms fuel) (reverse (writers t f ms i)) (with_state i Pending w)) _
        (writers-both fuel i il w calm (λ calm m w'. visit-both fuel (left i w) (omega arith) calm m w') a g)
        (λ w' q. close-both a al i il calm w' q.0
        (lead-sparing a al i il (λ k. k ≡ i) calm (with_state i Done w') (done-walk t f c₀ at af ms ok i il calm w' q.0)
        (record { kept = q.1.kept; room = omega (arith, q.1.room, news-close n i w'.state); low = q.1.low }) (omega arith))))
        (λ _. g)

    -- no move is open: a root's own value is not diverted
    abbrev Calm : ℕ → Type 0
    Calm k = Unit {0}

    root-lead : (a : ℕ) → a ≤ 127 → (i : ℕ) (il : i < n) (w : ParallelMoves) → Closing t f c₀ at af ms ok i il Calm w → Sparing a w → All (Sparing a) (lead t f ms i w)
    unfolding lead
    root-lead a al i il w old g =
        branch (All (Sparing a)) (any_in (λ m. is_pending (w.state m)) (writers t f ms i)) _ _
        (λ e. absurd (false≢true (sym (any_none (λ m. is_pending (w.state m)) (writers t f ms i) (λ k. old.still k tt)) ∙ e))) (λ _. from-source a al i il w g)

    root-both : (fuel i : ℕ) (w : ParallelMoves) → i < n → Both Calm 128 w → All (Both Calm 128) (visit t f ms fuel i w)
    unfolding visit
    root-both zero i w il g = branch (All (Both Calm 128)) (is_new (w.state i)) _ _ (λ _. tt) (λ _. g)
    root-both (suc fuel) i w il g =
        branch (All (Both Calm 128)) (is_new (w.state i)) _ _
        (λ e. let fewer : left i w < 128 = omega (arith, news-open n i w.state il e, g.1.room) in
        let a = left i w in
        let al : a ≤ 127 = omega arith in
        all_then (Both (Others t f c₀ at af ms ok i il Calm) a) (Both Calm 128) (each (visit t f ms fuel) (reverse (writers t f ms i)) (with_state i Pending w)) _
        (writers-both fuel i il w Calm (visit-both fuel a al) 128 g)
        (λ w' q. all_map (Both Calm a) (Both Calm 128) (close t f ms i w') (λ w'' r. (r.0, record { kept = r.1.kept; room = omega (arith, r.1.room); low = r.1.low }))
        (close-both a al i il Calm w' q.0
        (root-lead a al i il (with_state i Done w') (done-walk t f c₀ at af ms ok i il Calm w' q.0)
        (record { kept = q.1.kept; room = omega (arith, q.1.room, news-close n i w'.state); low = q.1.low })))))
        (λ _. g)

    first-both : (i : ℕ) (w : ParallelMoves) → i < n → Both Calm 128 w → All (Both Calm 128) (visit_unless_memory t f ms i w)
    unfolding visit_unless_memory
    first-both i w il g = branch (All (Both Calm 128)) (or (is_memory t (source t f ms i)) (is_memory t (dest t f ms i))) _ _ (λ _. g) (λ _. root-both n i w il g)

    start-both : n ≤ 128 → (k : ScratchAllocator) → slots.Kept t f c₀ Zero k → Kept t f c₀ Nothing Zero k → Both Calm 128 (start t f ms k)
    unfolding start live sign
    start-both few k old g =
        let s = start-walk t f c₀ at af ms ok k old in (
          s,
          record {
            kept = kept-cong t f c₀ Nothing Zero _ k (λ x y. sym (rest-held t f c₀ at af ms ok (start t f ms k) s x y)) g;
            room = omega (arith, sum-zero (λ v. 0) (num_values f) (λ v h. refl), news-all n (λ i. New));
            low = λ v h. absurd (omega arith);
          },
        )

    -- what holds at the end of a run
    moves-ended : n ≤ 128 → (k : ScratchAllocator) → slots.Kept t f c₀ Zero k → Kept t f c₀ Nothing Zero k → All (Ended t f c₀) (moves t f ms k)
    unfolding moves
    moves-ended few k old g =
        all_then (Both Calm 128) (Ended t f c₀) (and_then (each (visit_unless_memory t f ms) (indices 0 n) (start t f ms k)) (each (visit t f ms n) (indices 0 n))) _
        (all_then (Both Calm 128) (Both Calm 128) (each (visit_unless_memory t f ms) (indices 0 n) (start t f ms k)) _
        (all-each (Both Calm 128) (λ i. i < n) (visit_unless_memory t f ms) first-both (indices 0 n) below (start t f ms k) (start-both few k old g))
        (λ w p. all-each (Both Calm 128) (λ i. i < n) (visit t f ms n) (root-both n) (indices 0 n) below w p))
        (λ w p. ended t f c₀ w.allocator (kept-cong t f c₀ Nothing (held_by w) Zero w.allocator (rest-held t f c₀ at af ms ok w p.0) p.1.kept))
      where
        below : Every (λ i. i < n) (indices 0 n)
        below = every-index n 0 n (omega arith)

  pub run-ended : Stacked f c₀ → Fair t f (stacked c₀) [] → (p : Patch) (a : Sorted) → SortedOk t f a → length a.moves ≤ 128 → All (Ended t f c₀) (run t f p a c₀)
  unfolding run waits
  run-ended ins fair p a ok few =
      all_then P (Ended t f c₀) (each (remat_with_scratch t f) a.remats_with_scratch (remats t f a.remats k₀)) _
      (all-each P (RematOk t f false) (remat_with_scratch t f)
      (λ r k q g. all_both (slots.Kept t f c₀ Zero) (Kept t f c₀ Nothing Zero) (remat_with_scratch t f r k) (slots.scratch-good t f c₀ at af r q Zero k g.0) (scratch-kept t f c₀ at af r q k g.1)) a.remats_with_scratch
      (every-get_d (RematOk t f false) no_remat a.remats_with_scratch ok.remats_with_scratch) (remats t f a.remats k₀)
      (slots.remats-good t f c₀ a.remats k₀ Zero (begin-good t f c₀ at af ins p), remats-kept t f c₀ at af a.remats (every-get_d (RematOk t f true) no_remat a.remats ok.remats) k₀ begin))
      (λ k g. moves-ended a.moves ok.moves few k g.0 g.1)
    where
      P : ScratchAllocator → Type 0
      P k = slots.Kept t f c₀ Zero k × Kept t f c₀ Nothing Zero k

      k₀ : ScratchAllocator
      k₀ = begun t f c₀ at af p

      begin : Kept t f c₀ Nothing Zero k₀
      begin =
          record {
            fair = fair-cong t f (stacked c₀) _ [] (λ s z. omega arith) fair;
            named = λ s lo hi. absurd (omega arith);
            held = omega arith;
            own = tt;
          }
