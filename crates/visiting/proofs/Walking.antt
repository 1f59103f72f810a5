-- A walk over the writers of a move's source units, last unit first.
use Prim.Native.Nat.{ℕ, ◌+◌, ◌-◌, ◌<◌, ◌≤◌}
use mathlib.Core.Path.{◌≡◌, sym, ap, subst, ◌∙◌}
use mathlib.Core.Bool.{false}
use mathlib.Core.List.{List, reverse}
use mathlib.Core.Option.{Option, none, some}
use native.Mathlib.Omega.{arith}
use lib.ListN.{length, get_or, take}
use Rattle.entity.specs.Place.{Place}
use Rattle.reginfo.specs.RegInfo.{place_units}
use Rattle.rules.specs.Edit.{and_then, each}
use Rattle.rules.specs.Order.{ParallelMoves, is_new, no_move, writer_from, writers_of}
use Rattle.rules.specs.Counts.{news}
use Rattle.rules.proofs.Steps.{All, all_map}
use Rattle.rules.proofs.Writers.{writer-low}
use Rattle.scratch.specs.declared.ScratchAllocator.{ScratchAllocator}
use Rattle.scratch.specs.State.{T, F}
use Rattle.visits.specs.Marks.{moves_of, states_of}
use Rattle.visits.specs.Writers.{kept_writer}
use Rattle.visits.proofs.Walk.{walk_start, walk_step, walk_end}
use Rattle.closing.specs.State.{Work, Given}
use Rattle.closing.specs.Steps.{PaidFor, Gone}
use Rattle.visiting.specs.Steps.{VisitedStay, Visits, Visited}
use Rattle.visiting.proofs.Stay.{stay_none, stay_then, stay-news}
use Rattle.visiting.proofs.Visited.{visit_for, walk_for, visited-already, visit-paid-here}

module _ (t f cache e : List ℕ) where
  -- the writers of the first `left` units are left to visit
  abbrev pub walk_left : ℕ → List ℕ → ℕ → ParallelMoves → Option ParallelMoves
  walk_left depth us left p = each (visit_for t f cache e depth) (reverse (writers_of (T t) (F f) (moves_of e) (take left us))) p

  -- the walk from p, and where it stands
  pub record OnWay (depth : ℕ) (us : List ℕ) (left : ℕ) (p : ParallelMoves) (k : ScratchAllocator) (now : Work) : Type 0 where
    pub at : ParallelMoves
    pub is : walk_left depth us (length us) p ≡ walk_left depth us left at
    pub visits : Visits t f cache e at k now

  pub record Walking (us : List ℕ) (k₀ : ScratchAllocator) (w₀ : Work) (left : ℕ) (k : ScratchAllocator) (now : Work) : Type 0 where
    pub within : left ≤ length us
    pub stay : VisitedStay w₀.marks now.marks
    pub goes : (p : ParallelMoves) (depth : ℕ) → Visits t f cache e p k₀ w₀ → news (length (moves_of e)) p.state ≤ depth → OnWay depth us left p k now

  pub can-visit : (us : List ℕ) (k₀ : ScratchAllocator) (w₀ : Work) (left : ℕ) (k : ScratchAllocator) (now : Work) → Walking us k₀ w₀ left k now → (p : ParallelMoves) → Visits t f cache e p k₀ w₀ → (q : ParallelMoves) × Visits t f cache e q k now
  can-visit us k₀ w₀ left k now g p v = let o = g.goes p (news (length (moves_of e)) p.state) v (omega arith) in (o.at, o.visits)

module _ (t f e w : List ℕ) (ok : Given t f e w) where
  -- a writer that is found is a kept move
  pub writer-kept : (u m : ℕ) → some m ≡ kept_writer w u → m < length (moves_of e)
  writer-kept u m q = subst (All (λ x. x < length (moves_of e))) (sym (ok.ready.writer (F f) u) ∙ sym q) (all_map (λ x. x < 0 + length (moves_of e)) (λ x. x < length (moves_of e)) (writer_from (T t) (F f) (moves_of e) 0 (moves_of e) u) (λ x h. omega arith) (writer-low (T t) (F f) (moves_of e) 0 (moves_of e) u))

module _ (t f cache e w : List ℕ) (ok : Given t f e w) where
  module _ (us : List ℕ) (k₀ : ScratchAllocator) (w₀ : Work) where
    pub walking_start : (n : ℕ) → n ≡ length us → Walking t f cache e us k₀ w₀ n k₀ w₀
    walking_start n q =
        record { within = omega arith; stay = stay_none w₀.marks; goes = λ p depth v _. record { at = p; is = rw q; visits = v } }

    pub walking-end : (m : ℕ) {p : Place} (left : ℕ) (k : ScratchAllocator) (now : Work) → p ≡ (get_or (moves_of e) m no_move).source → us ≡ place_units (T t) p → left ≤ 0 → Walking t f cache e us k₀ w₀ left k now → Visited t f cache e (walk_for t f cache e m) k₀ w₀ k now
    walking-end m {p} left k now q r z g = record { stay = g.stay; goes = λ x depth v h. on x depth (g.goes x depth v h) }
      where
        on : (x : ParallelMoves) (depth : ℕ) → OnWay t f cache e depth us left x k now → Gone t f cache e (walk_for t f cache e m depth) x k now
        on x depth o =
            let l : left ≡ 0 = omega arith in
            record {
              next = o.at;
              is = walk_start (T t) (F f) e w ok.ready (visit_for t f cache e depth) m x q ∙ rw (← r) o.is ∙ ap (λ (n : ℕ). walk_left t f cache e depth us n o.at) l ∙ walk_end (T t) (F f) e w ok.ready (visit_for t f cache e depth) us o.at;
              stands = o.visits.stands;
            }

    module _ (left u : ℕ) (k : ScratchAllocator) (now : Work) (more : 0 < left) (at : u ≡ get_or us (left - 1) 0) (g : Walking t f cache e us k₀ w₀ left k now) where
      -- a unit without a writer
      pub walking_skip : none ≡ kept_writer w u → Walking t f cache e us k₀ w₀ (left - 1) k now
      unfolding and_then
      walking_skip q = record { within = omega (arith, g.within); stay = g.stay; goes = λ p depth v h. on p depth (g.goes p depth v h) }
        where
          on : (p : ParallelMoves) (depth : ℕ) → OnWay t f cache e depth us left p k now → OnWay t f cache e depth us (left - 1) p k now
          on p depth o =
              record {
                at = o.at;
                is = o.is ∙ walk_step (T t) (F f) e w ok.ready (visit_for t f cache e depth) us left u o.at more g.within at ∙ rw (← q);
                visits = o.visits;
              }

      -- a writer is visited
      pub walking-visit : (m : ℕ) (k' : ScratchAllocator) (now' : Work) → some m ≡ kept_writer w u → Visited t f cache e (λ depth. visit_for t f cache e depth m) k now k' now' → Walking t f cache e us k₀ w₀ (left - 1) k' now'
      unfolding and_then
      walking-visit m k' now' q d =
          record { within = omega (arith, g.within); stay = stay_then w₀.marks now.marks now'.marks g.stay d.stay; goes = λ p depth v h. on p depth v h (g.goes p depth v h) }
        where
          on : (p : ParallelMoves) (depth : ℕ) → Visits t f cache e p k₀ w₀ → news (length (moves_of e)) p.state ≤ depth → OnWay t f cache e depth us left p k now → OnWay t f cache e depth us (left - 1) p k' now'
          on p depth v h o =
              let n = length (moves_of e) in
              let less : news n o.at.state ≤ depth = rw o.visits.stands.state (omega (arith, stay-news n w₀.marks now.marks g.stay, ap (news n) v.stands.state)) in
              let x = d.goes o.at depth o.visits less in
              record {
                at = x.next;
                is = o.is ∙ walk_step (T t) (F f) e w ok.ready (visit_for t f cache e depth) us left u o.at more g.within at ∙ rw (← q, x.is);
                visits = record { stands = x.stands; paid = subst (All (PaidFor t f cache e 1024)) x.is (visit-paid-here t f cache e ok.moves 1024 depth m o.at (writer-kept t f e w ok u m q) o.visits.paid) };
              }

      -- a writer that is visited already
      pub walking-old : (m : ℕ) → some m ≡ kept_writer w u → is_new (states_of now.marks m) ≡ false → Walking t f cache e us k₀ w₀ (left - 1) k now
      walking-old m q old = walking-visit m k now q (visited-already t f cache e m k now old)
