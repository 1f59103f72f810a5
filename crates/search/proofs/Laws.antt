-- Laws of a walk over a register's units and over a class's order: what is left to do, one element on.
use Prim.Native.Nat.{ℕ, suc, ◌+◌, ◌<◌, ◌≤◌}
use mathlib.Core.Path.{◌≡◌, refl, ap, ◌∙◌, fun_ext}
use mathlib.Core.Bool.{Bool, true, false, and_comm}
use mathlib.Core.List.{List, [], ◌∷◌}
use mathlib.Core.Option.{none, some}
use native.Mathlib.Omega.{arith}
use lib.ListN.{get_or, length, drop, drop_of_length-le}
use Rattle.entity.specs.Logic.{pick, and, no, all_in, has}
use Rattle.entity.specs.Place.{Place}
use Rattle.entity.proofs.Laws.{drop-step, has_get_d}
use Rattle.reginfo.specs.RegInfo.{RegInfo, reg_units}
use Rattle.reginfo.specs.Known.{KnownUnits}
use Rattle.small_set.specs.Set.{set_of, inserted, removed, inserted_all, removed_all}
use Rattle.small_set.proofs.Laws.{in-inserted_all, in-removed_all}
use Rattle.rules.specs.Edit.{find, first_at}
use Rattle.search.specs.Search.{barred_by, units_of, with_units, without_units}

-- a unit of a known register is below 512
pub unit-below : (t : RegInfo) (r j u : ℕ) → KnownUnits t r → j < length (reg_units t r) → u ≡ get_or (reg_units t r) j 0 → u < 512
unit-below t r j u known h e = rw e (known.low (get_or (reg_units t r) j 0) (has_get_d (reg_units t r) j h))

-- the units from j on are usable
abbrev pub usable_from : RegInfo → List Bool → List Bool → Bool → ℕ → ℕ → Bool
usable_from t available sources cycle r j = all_in (λ u. and (set_of available u) (no (barred_by cycle sources u))) (drop j (reg_units t r))

pub usable-step : (t : RegInfo) (available sources : List Bool) (cycle : Bool) (r j u : ℕ) (a b : Bool) → j < length (reg_units t r) → u ≡ get_or (reg_units t r) j 0 → a ≡ set_of available u → b ≡ barred_by cycle sources u → usable_from t available sources cycle r j ≡ and (and a (no b)) (usable_from t available sources cycle r (j + 1))
unfolding all_in
usable-step t available sources cycle r j u a b h e p q =
    ap (all_in (λ v. and (set_of available v) (no (barred_by cycle sources v)))) (drop-step (reg_units t r) j 0 h) ∙ rw (p, q, e)

-- in a walk over an order, at i: what a search finds, and where, is what it finds from here on
pub record Searching (p : ℕ → Bool) (l : List ℕ) (i : ℕ) : Type 0 where
  pub same : find p l ≡ find p (drop i l)
  pub past : first_at p l ≡ i + first_at p (drop i l)
  pub within : i ≤ length l

pub searching : (p : ℕ → Bool) (l : List ℕ) → Searching p l 0
searching p l = record { same = refl; past = omega arith; within = omega arith }

module _ (p : ℕ → Bool) (l : List ℕ) (i : ℕ) (s : Searching p l i) where
  module _ (x : ℕ) (h : i < length l) (e : x ≡ get_or l i 0) where
    find-step : (b : Bool) → b ≡ p x → find p (drop i l) ≡ pick b (some x) (find p (drop (i + 1) l))
    unfolding find
    find-step b q = ap (find p) (drop-step l i 0 h) ∙ rw (q, e)

    first_step : (b : Bool) → b ≡ p x → first_at p (drop i l) ≡ pick b 0 (suc (first_at p (drop (i + 1) l)))
    unfolding first_at
    first_step b q = ap (first_at p) (drop-step l i 0 h) ∙ rw (q, e)

    pub found_here : true ≡ p x → (find p l ≡ some x) × (first_at p l ≡ i)
    found_here q = (s.same ∙ find-step true q, omega (arith, s.past, first_step true q))

    pub searching-on : false ≡ p x → Searching p l (i + 1)
    searching-on q = record { same = s.same ∙ find-step false q; past = omega (arith, s.past, first_step false q); within = omega arith }

  pub found_nowhere : length l ≤ i → (find p l ≡ none) × (first_at p l ≡ length l)
  unfolding find first_at
  found_nowhere h =
      let e = drop_of_length-le l {i = i} h in
      (s.same ∙ ap (find p) e, omega (arith, s.past, ap (first_at p) e, s.within))

-- in a walk over a register's units, at j: `every`, which puts each unit of a list into a set or takes each out, gives from the set here with
-- the units left what it gives from the first set with all units
pub record Walk (every : (ℕ → Bool) → List ℕ → ℕ → Bool) (t : RegInfo) (r : ℕ) (first here : ℕ → Bool) (j : ℕ) : Type 0 where
  pub known : KnownUnits t r
  pub same : every first (reg_units t r) ≡ every here (drop j (reg_units t r))
  pub within : j ≤ length (reg_units t r)

module _ (one : (ℕ → Bool) → ℕ → ℕ → Bool) (every : (ℕ → Bool) → List ℕ → ℕ → Bool) (each : (s : ℕ → Bool) (u : ℕ) (us : List ℕ) → every s (u ∷ us) ≡ every (one s u) us) where
  walk_step : (t : RegInfo) (r j u : ℕ) (first here next : ℕ → Bool) → Walk every t r first here j → j < length (reg_units t r) → u ≡ get_or (reg_units t r) j 0 → next ≡ one here u → Walk every t r first next (j + 1)
  walk_step t r j u first here next w h e n =
      record { known = w.known; same = w.same ∙ ap (every here) (drop-step (reg_units t r) j 0 h) ∙ each here (get_or (reg_units t r) j 0) (drop (j + 1) (reg_units t r)) ∙ rw (n, e); within = omega arith }

pub insert-step : (t : RegInfo) (r j u : ℕ) (first here next : ℕ → Bool) → Walk inserted_all t r first here j → j < length (reg_units t r) → u ≡ get_or (reg_units t r) j 0 → next ≡ inserted here u → Walk inserted_all t r first next (j + 1)
unfolding inserted_all
insert-step = walk_step inserted inserted_all (λ s u us. refl)

pub remove-step : (t : RegInfo) (r j u : ℕ) (first here next : ℕ → Bool) → Walk removed_all t r first here j → j < length (reg_units t r) → u ≡ get_or (reg_units t r) j 0 → next ≡ removed here u → Walk removed_all t r first next (j + 1)
unfolding removed_all
remove-step = walk_step removed removed_all (λ s u us. refl)

pub walk_end : (every : (ℕ → Bool) → List ℕ → ℕ → Bool) (t : RegInfo) (r j : ℕ) (first here : ℕ → Bool) → Walk every t r first here j → length (reg_units t r) ≤ j → every first (reg_units t r) ≡ every here []
walk_end every t r j first here w h = w.same ∙ ap (every here) (drop_of_length-le (reg_units t r) {i = j} h)

-- all units of a place
pub with-units : (t : RegInfo) (p : Place) (s : ℕ → Bool) → inserted_all s (units_of t p) ≡ with_units t p s
with-units t p s = fun_ext (in-inserted_all s (units_of t p))

pub without-units : (t : RegInfo) (p : Place) (s : ℕ → Bool) → removed_all s (units_of t p) ≡ without_units t p s
without-units t p s = fun_ext (λ u. in-removed_all s (units_of t p) u ∙ and_comm (no (has u (units_of t p))) (s u))
