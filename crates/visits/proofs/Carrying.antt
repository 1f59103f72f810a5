-- Laws of carrying: one writer, and the writers of a list of units.
use Prim.Native.Nat.{ℕ, suc, ◌+◌, ◌<◌, ◌≤◌}
use mathlib.Core.Path.{◌≡◌, refl, sym, ap, subst, ◌∙◌}
use mathlib.Core.Bool.{Bool, true, false, false≢true}
use mathlib.Core.List.{List, [], ◌∷◌, ◌++◌}
use mathlib.Core.Option.{Option, none, some}
use native.Mathlib.Omega.{arith}
use lib.Dec.{eqb}
use borrow.Author.Tests.{ne_eqb}
use lib.ListN.{get_or, length, drop, drop_of_length-le}
use Rattle.entity.specs.Logic.{pick, no, has}
use Rattle.entity.proofs.Laws.{drop-step}
use Rattle.entity.specs.Place.{Place}
use Rattle.reginfo.specs.RegInfo.{RegInfo, place_units}
use Rattle.function.specs.Function.{Function}
use Rattle.rules.specs.Edit.{updated}
use Rattle.rules.specs.Order.{KeptMove, no_move, State, New, Pending, Done, is_pending, Diverted, carry_one, carry, writer_from, writers_of, writers}
use Rattle.rules.proofs.Steps.{updated-same, updated-other}
use Rattle.carried.specs.Carried.{count_of, carried_by}
use Rattle.visits.specs.Marks.{moves_of, is_done}
use Rattle.visits.specs.Writers.{kept_writer, Ready}
use Rattle.visits.specs.Carry.{RowsAgree, carry_for, Counted, CarriedAs}

pub no_true : (a : Bool) → no a ≡ true → a ≡ false
no_true true e = sym e
no_true false e = refl

open-not-done : (s : State) → is_pending s ≡ true → is_done s ≡ false
open-not-done New e = refl
open-not-done Pending e = refl
open-not-done Done e = let z : ◌≡◌ {A = Bool} false true = e in let y : ◌≡◌ {A = ℕ} 0 1 = cc in absurd (omega arith)

add-zero : (n : ℕ) → n ≡ n + 0
add-zero n = omega arith

module _ (s : ℕ → State) (v : ℕ) (c : List ℕ) where
  -- nothing is added
  pub nothing-more : (step : Diverted → Diverted) (most : ℕ) → ((d : Diverted) → RowsAgree s d c → d ≡ step d) → CarriedAs s v c c 0 most step
  nothing-more step most h =
      record { count = add-zero (count_of c); few = omega arith; still = λ x n. refl; diverted = λ d a. subst (λ (d' : Diverted). Counted s v d d' c 0) (h d a) record { rows = a; more = add-zero (d.ref_count v); others = λ x n. refl } }

  module _ (m : ℕ) where
    pub closed : is_pending (s m) ≡ false → CarriedAs s v c c 0 1 (carry_for v s (some m))
    unfolding carry_one
    closed e = nothing-more (carry_one v s m) 1 (λ d a. rw e)

    pub carries-already : is_pending (s m) ≡ true → has v (carried_by c m) ≡ true → CarriedAs s v c c 0 1 (carry_for v s (some m))
    unfolding carry_one
    carries-already e h = nothing-more (carry_one v s m) 1 (λ d a. rw (e, a m (open-not-done (s m) e), h))

    pub one_more : (c' : List ℕ) → is_pending (s m) ≡ true → has v (carried_by c m) ≡ false → count_of c' ≡ count_of c + 1
        → ((x : ℕ) → carried_by c' x ≡ pick (eqb x m) (carried_by c m ++ (v ∷ [])) (carried_by c x)) → CarriedAs s v c c' 1 1 (carry_for v s (some m))
    unfolding carry_one updated
    one_more c' e h n r =
        record {
          count = n;
          few = omega arith;
          still = λ x q. rw (ne_eqb x m (λ x-is. false≢true (sym q ∙ ap (λ (y : ℕ). is_pending (s y)) x-is ∙ e))) at (r x);
          diverted = λ d a. let same : d.values m ≡ carried_by c m = a m (open-not-done (s m) e) in rw (e, same, h) record {
            rows = λ x o. rw (a x o) (sym (r x));
            more = updated-same v (suc (d.ref_count v)) d.ref_count ∙ omega arith;
            others = λ x q. updated-other v (suc (d.ref_count v)) d.ref_count x q;
          };
        }

-- the writer that was found
pub carried-by : {s : ℕ → State} {v : ℕ} {c c' : List ℕ} {n : ℕ} (o o' : Option ℕ) → o ≡ o' → CarriedAs s v c c' n 1 (carry_for v s o) → CarriedAs s v c c' n 1 (carry_for v s o')
carried-by {s = s} {v = v} {c = c} {c' = c'} {n = n} o o' e h = subst (λ (q : Option ℕ). CarriedAs s v c c' n 1 (carry_for v s q)) e h

-- the writers of the units carry the value, in the order of the units
unfoldable pub carry_units : ℕ → (ℕ → State) → List ℕ → List ℕ → Diverted → Diverted
carry_units v s w [] d = d
carry_units v s w (u ∷ us) d = carry_units v s w us (carry_for v s (kept_writer w u) d)

carry-units : (t : RegInfo) (f : Function) (ms : List KeptMove) (w : List ℕ) → ((u : ℕ) → kept_writer w u ≡ writer_from t f ms 0 ms u)
    → (v : ℕ) (s : ℕ → State) (us : List ℕ) (d : Diverted) → carry_units v s w us d ≡ carry v s (writers_of t f ms us) d
unfolding carry_units writers_of carry
carry-units t f ms w h v s [] d = refl
carry-units t f ms w h v s (u ∷ us) d = go (writer_from t f ms 0 ms u) refl (carry-units t f ms w h v s us)
  where
    go : (o : Option ℕ) → writer_from t f ms 0 ms u ≡ o → ((d : Diverted) → carry_units v s w us d ≡ carry v s (writers_of t f ms us) d)
        → carry_units v s w us (carry_for v s (kept_writer w u) d) ≡ carry v s (writers_of t f ms (u ∷ us)) d
    go none e on = rw (h u, e) (on d)
    go (some m) e on = rw (h u, e) (on (carry_one v s m d))

pub carry-writers : (t : RegInfo) (e w : List ℕ) (m : ℕ) {p : Place} → Ready t e w → p ≡ (get_or (moves_of e) m no_move).source → (f : Function) (v : ℕ) (s : ℕ → State) (d : Diverted)
    → carry_units v s w (place_units t p) d ≡ carry v s (writers t f (moves_of e) m) d
unfolding writers
carry-writers t e w m {p} ok q f v s d = carry-units t f (moves_of e) w (ok.writer f) v s (place_units t p) d ∙ rw q

-- in a walk over the units, at j: what the first j writers did, and that the others are left to do
pub record Carrying (s : ℕ → State) (v : ℕ) (w us c c' : List ℕ) (added j : ℕ) : Type 0 where
  pub so_far : Diverted → Diverted
  pub did : CarriedAs s v c c' added j so_far
  pub rest : (d : Diverted) → carry_units v s w us d ≡ carry_units v s w (drop j us) (so_far d)
  pub within : j ≤ length us

module _ (s : ℕ → State) (v : ℕ) (w us c : List ℕ) where
  pub carrying-none : Carrying s v w us c c 0 0
  carrying-none = record { so_far = λ d. d; did = nothing-more s v c (λ d. d) 0 (λ d a. refl); rest = λ d. refl; within = omega arith }

  pub carrying-step : (c' c'' : List ℕ) (added n j u : ℕ) → Carrying s v w us c c' added j → j < length us → u ≡ get_or us j 0 → CarriedAs s v c' c'' n 1 (carry_for v s (kept_writer w u)) → Carrying s v w us c c'' (added + n) (j + 1)
  unfolding carry_units
  carrying-step c' c'' added n j u k h e one =
      record {
        so_far = λ d. carry_for v s (kept_writer w u) (k.so_far d);
        did = record {
          count = omega (arith, k.did.count, one.count);
          few = omega (arith, k.did.few, one.few);
          still = λ x q. one.still x q ∙ k.did.still x q;
          diverted = λ d a. let first = k.did.diverted d a in let second = one.diverted (k.so_far d) first.rows in record {
            rows = second.rows;
            more = omega (arith, first.more, second.more);
            others = λ x q. second.others x q ∙ first.others x q;
          };
        };
        rest = λ d. k.rest d ∙ ap (λ (l : List ℕ). carry_units v s w l (k.so_far d)) (drop-step us j 0 h) ∙ rw e;
        within = omega arith;
      }

  pub carrying-end : (c' : List ℕ) (added j : ℕ) (step : Diverted → Diverted) → Carrying s v w us c c' added j → length us ≤ j → length us ≤ 8 → ((d : Diverted) → carry_units v s w us d ≡ step d) → CarriedAs s v c c' added 8 step
  unfolding carry_units
  carrying-end c' added j step k h few q =
      record {
        count = k.did.count;
        few = omega (arith, k.did.few, k.within);
        still = k.did.still;
        diverted = λ d a. subst (λ (d' : Diverted). Counted s v d d' c' added) (sym (k.rest d ∙ ap (λ (l : List ℕ). carry_units v s w l (k.so_far d)) (drop_of_length-le us {i = j} h)) ∙ q d) (k.did.diverted d a);
      }
