-- A closed move lets go of what it carries, row by row.
use Prim.Native.Nat.{ℕ, suc, pred, ◌+◌, ◌-◌, ◌<◌, ◌≤◌}
use mathlib.Core.Path.{◌≡◌, refl, sym, ap, subst, ◌∙◌}
use mathlib.Core.Bool.{Bool, true, false, false≢true}
use mathlib.Core.List.{List, ◌∷◌}
use mathlib.Core.Option.{some}
use mathlib.Core.Logic.{⊎_elim}
use native.Mathlib.Omega.{arith}
use lib.Dec.{eqb}
use borrow.Author.Tests.{eq-eqb, ne_eqb}
use Rattle.entity.specs.Logic.{or, has}
use Rattle.entity.proofs.Laws.{has_get_d}
use Rattle.function.specs.Function.{num_values, value_bank}
use Rattle.function.specs.Known.{Checked}
use Rattle.function.specs.Table.{function_of}
use Rattle.rules.specs.Edit.{and_then}
use Rattle.rules.specs.Order.{ParallelMoves, with_allocator, with_diverted, lost, undivert, undivert_all}
use Rattle.rules.proofs.Steps.{All, same?, updated-at}
use Rattle.machine.proofs.Diversions.{was-live}
use Rattle.machine.specs.Paid as machine
use Rattle.machine.proofs.Bound.{live-some, undivert-paid, Left}
use Rattle.carried.specs.Carried.{count_of, move_at, value_at, rows_of, carried_by}
use Rattle.scratch.specs.declared.ScratchAllocator.{ScratchAllocator}
use Rattle.scratch.specs.State.{T, F, PlaceFits}
use Rattle.scratch.specs.Promises.{Tables, state_of, FitsIn}
use Rattle.scratch.specs.Diversions.{count_at, alloc_at, scratch_at, diversion_at, Undiverts}
use Rattle.scratch.proofs.Bounds.{fewer}
use Rattle.scratch.proofs.Agree.{diversion_in, undivert-is}
use Rattle.scratch.proofs.Unlimited.{same-bank, all_placed, owed-is}
use Rattle.visits.specs.Marks.{moves_of, is_done}
use Rattle.closing.specs.State.{Work, MovesOk, KeptValue, Live, Stands}
use Rattle.closing.specs.Steps.{PaidFor, Gone, LetsGo, RowGone}
use Rattle.closing.proofs.Known.{kept_there, cells_stay}
use Rattle.closing.proofs.Room.{refit}

has-later : (z v : ℕ) (l : List ℕ) → has z l ≡ true → has z (v ∷ l) ≡ true
unfolding has
has-later z v l e = go (eqb z v)
  where
    go : (b : Bool) → or b (has z l) ≡ true
    go true = refl
    go false = e

abbrev with : Work → Tables → List ℕ → Work
with w x d = record { tables = x; sources = w.sources; diverted = d; marks = w.marks; carried = w.carried }

-- the row of another move
pub row-skipped : (t f cache e : List ℕ) (m i n : ℕ) (p : ParallelMoves) (k : ScratchAllocator) (w : Work) → LetsGo t f cache e m i (suc n) p k w → (move_at w.carried i ≡ m → ⊥) → RowGone t f cache e m i n p w k w
unfolding rows_of
row-skipped t f cache e m i n p k w h d =
    record {
      next = p;
      is = rw (ne_eqb (move_at w.carried i) m d);
      lets = record { stands = h.stands; paid = h.paid; closed = h.closed; kept = h.kept; left = rw (ne_eqb (move_at w.carried i) m d) at h.left; within = omega (arith, h.within) };
    }

module _ (t f cache e : List ℕ) (ok : MovesOk t f e) (m i n : ℕ) (p : ParallelMoves) (k : ScratchAllocator) (w : Work) (h : LetsGo t f cache e m i (suc n) p k w) (here : move_at w.carried i ≡ m) where
  abbrev v : ℕ
  v = value_at w.carried i

  abbrev rest : List ℕ
  rest = rows_of w.carried (i + 1) n m

  rows_are : rows_of w.carried i (suc n) m ≡ v ∷ rest
  unfolding rows_of
  rows_are = rw (eq-eqb (move_at w.carried i) m here)

  carries : p.diverted.values m ≡ v ∷ rest
  carries = h.left ∙ rows_are

  kept : KeptValue e v
  kept = h.stands.values m v (rw carries (has_get_d (v ∷ rest) 0 (omega arith)))

  value-lives : 0 < p.diverted.ref_count v
  value-lives = was-live (T t) (F f) (moves_of e) m h.kept v rest p.diverted carries h.paid.counted

  value-counted : 0 < count_at w.diverted v
  value-counted = omega (arith, value-lives, h.stands.diversions.counts v kept)

  value-small : count_at w.diverted v < 65536
  value-small = omega (arith, h.stands.diversions.counts v kept, h.stands.counted v, h.stands.room)

  value-named : v < num_values (function_of f)
  value-named = kept_there t f e ok v kept

  lives : Live t f cache e p w.diverted v
  lives = h.stands.diversions.live v kept value-counted

  copy-room : FitsIn t f cache 0 2 4 k w.tables
  copy-room =
      refit t f cache 4 k w.tables h.stands.fits
      (omega (arith, h.paid.paid, live-some (T t) (F f) ok.checked.target (all_placed t f ok.checked) (moves_of e) ok.named p.diverted v value-named value-lives, ap machine.owed h.stands.allocator, owed-is t f cache k w.tables))

  -- what `undivert` asks
  pub undivertible :
      Checked t f × (v < num_values (function_of f)) × (0 < count_at w.diverted v) × (count_at w.diverted v < 65536) × PlaceFits t (scratch_at w.diverted v) × PlaceFits t (alloc_at w.diverted v)
      × FitsIn t f cache 0 1 4 k w.tables
  undivertible = (ok.checked, value-named, value-counted, value-small, lives.scratch-fits, lives.alloc-fits, fewer (omega arith) (omega arith) (omega arith) copy-room)

  module _ (b : ℕ) (d' : List ℕ) (k' : ScratchAllocator) (x : Tables) (eb : b ≡ value_bank (function_of f) v) (u : Undiverts t f cache b v w.diverted k w.tables d' k' x) where
    abbrev next : ParallelMoves
    next = with_diverted (lost (T t) (F f) (moves_of e) m v rest p.diverted) (with_allocator (state_of t f cache k' x) p)

    same-diversion : diversion_in p v ≡ diversion_at w.diverted v
    same-diversion = rw (h.stands.diversions.counts v kept, lives.alloc, lives.scratch)

    undiverts : undivert (T t) (F f) (moves_of e) m v rest p ≡ some next
    unfolding and_then
    undiverts = undivert-is (T t) (F f) (moves_of e) p m v rest ∙ rw (same-bank f v, ← eb, same-diversion, h.stands.allocator, u.is)

    after : PaidFor t f cache e 1024 next × (next.diverted.values m ≡ rest)
    after =
        subst (All (Left (T t) (F f) ok.checked.target (all_placed t f ok.checked) (moves_of e) ok.named m h.kept 1024 v rest p carries h.paid)) undiverts
        (undivert-paid (T t) (F f) ok.checked.target (all_placed t f ok.checked) (moves_of e) ok.named m h.kept 1024 v rest p carries h.paid)

    counts-next : (y : ℕ) → KeptValue e y → next.diverted.ref_count y ≡ count_at d' y
    counts-next y ky =
        updated-at (λ z. z ≡ count_at d' y) v (pred (p.diverted.ref_count v)) p.diverted.ref_count y
        (λ q. rw q (ap pred (h.stands.diversions.counts v kept) ∙ sym u.noted.count-is))
        (λ d. h.stands.diversions.counts y ky ∙ sym (cells_stay t f e ok w.diverted d' v kept u.noted.others y ky d).0)

    live-next : (y : ℕ) → KeptValue e y → 0 < count_at d' y → Live t f cache e next d' y
    live-next y ky pos = ⊎_elim (λ q. rw q same) (λ d. other d) (same? y v)
      where
        same : Live t f cache e next d' v
        same = record { alloc = rw u.noted.alloc-is lives.alloc; scratch = rw u.noted.scratch-is lives.scratch; alloc-fits = rw u.noted.alloc-is lives.alloc-fits; scratch-fits = rw u.noted.scratch-is lives.scratch-fits }

        other : (y ≡ v → ⊥) → Live t f cache e next d' y
        other d =
            let s = cells_stay t f e ok w.diverted d' v kept u.noted.others y ky d in
            let l = h.stands.diversions.live y ky (rw s.0 at pos) in
            record { alloc = rw s.1 l.alloc; scratch = rw s.2 l.scratch; alloc-fits = rw s.1 l.alloc-fits; scratch-fits = rw s.2 l.scratch-fits }

    values-next : (y z : ℕ) → has z (next.diverted.values y) ≡ true → KeptValue e z
    values-next y z =
        updated-at (λ l. has z l ≡ true → KeptValue e z) m rest p.diverted.values y
        (λ q g. h.stands.values m z (rw carries (has-later z v rest g)))
        (λ d g. h.stands.values y z g)

    stands-next : Stands t f cache e 0 next k' (with w x d')
    stands-next =
        record {
          allocator = refl;
          state = h.stands.state;
          sources = h.stands.sources;
          diversions = record { counts = counts-next; live = live-next };
          values = values-next;
          counted = λ y. updated-at (λ z. z ≤ count_of w.carried) v (pred (p.diverted.ref_count v)) p.diverted.ref_count y (λ q. omega (arith, h.stands.counted v)) (λ d. h.stands.counted y);
          carried = λ y g. updated-at (λ l. l ≡ carried_by w.carried y) m rest p.diverted.values y (λ q. absurd (false≢true (sym g ∙ ap (λ (z : ℕ). is_done (p.state z)) q ∙ h.closed))) (λ d. h.stands.carried y g);
          room = h.stands.room;
          fits = u.fits 0 1 0 copy-room;
        }

    pub row-undiverted : RowGone t f cache e m i n p w k' (with w x d')
    unfolding undivert_all and_then
    row-undiverted =
        record {
          next = next;
          is = rw (rows_are, undiverts);
          lets = record { stands = stands-next; paid = after.0; closed = h.closed; kept = h.kept; left = after.1; within = omega (arith, h.within) };
        }

-- rows before i are dealt with, `left` are left
pub record Going (t f cache e : List ℕ) (m i left : ℕ) (p : ParallelMoves) (w : Work) (k' : ScratchAllocator) (w' : Work) : Type 0 where
  pub next : ParallelMoves
  pub is : undivert_all (T t) (F f) (moves_of e) m (p.diverted.values m) p ≡ undivert_all (T t) (F f) (moves_of e) m (rows_of w.carried i left m) next
  pub lets : LetsGo t f cache e m i left next k' w'

module _ (t f cache e : List ℕ) (m : ℕ) (p : ParallelMoves) (k : ScratchAllocator) (w : Work) where
  pub going_start : LetsGo t f cache e m 0 (count_of w.carried) p k w → Going t f cache e m 0 (count_of w.carried) p w k w
  going_start h = record { next = p; is = ap (λ (l : List ℕ). undivert_all (T t) (F f) (moves_of e) m l p) h.left; lets = h }

  module _ (i left : ℕ) (k' : ScratchAllocator) (x : Tables) (d : List ℕ) where
    pub going-lets : 0 < left → Going t f cache e m i left p w k' (with w x d) → (q : ParallelMoves) × LetsGo t f cache e m i (suc (left - 1)) q k' (with w x d)
    going-lets pos g = let s : left ≡ suc (left - 1) = omega arith in (g.next, rw s at g.lets)

    pub going_step : (k'' : ScratchAllocator) (x' : Tables) (d' : List ℕ) → 0 < left → Going t f cache e m i left p w k' (with w x d)
        → ((q : ParallelMoves) → LetsGo t f cache e m i (suc (left - 1)) q k' (with w x d) → RowGone t f cache e m i (left - 1) q (with w x d) k'' (with w x' d'))
        → Going t f cache e m (i + 1) (left - 1) p w k'' (with w x' d')
    going_step k'' x' d' pos g row =
        let s : left ≡ suc (left - 1) = omega arith in
        let r = row g.next (rw s at g.lets) in
        record { next = r.next; is = g.is ∙ ap (λ (n : ℕ). undivert_all (T t) (F f) (moves_of e) m (rows_of w.carried i n m) g.next) s ∙ r.is; lets = r.lets }

    pub going_end : left ≤ 0 → Going t f cache e m i left p w k' (with w x d) → Gone t f cache e (undivert_all (T t) (F f) (moves_of e) m (p.diverted.values m)) p k' (with w x d)
    unfolding rows_of undivert_all
    going_end z g =
        let s : left ≡ 0 = omega arith in
        record { next = g.next; is = g.is ∙ ap (λ (n : ℕ). undivert_all (T t) (F f) (moves_of e) m (rows_of w.carried i n m) g.next) s; stands = g.lets.stands }
