-- The writers of a list of units, from the last to the first.
use Prim.Native.Nat.{ℕ, suc, ◌-◌, ◌<◌, ◌≤◌}
use mathlib.Core.Path.{◌≡◌, refl, ap, ◌∙◌}
use mathlib.Core.List.{List, [], ◌∷◌, ◌++◌, reverse, reverse_aux, append-nil}
use mathlib.Core.Option.{Option, none, some}
use native.Mathlib.Omega.{arith}
use lib.ListN.{get_or, length, take}
use lib.Seq.{take_all, take-suc}
use Rattle.entity.specs.Place.{Place}
use Rattle.reginfo.specs.RegInfo.{RegInfo, place_units}
use Rattle.function.specs.Function.{Function}
use Rattle.rules.specs.Edit.{and_then, each}
use Rattle.rules.specs.Order.{KeptMove, no_move, writer_from, writers_of, writers}
use Rattle.visits.specs.Marks.{moves_of}
use Rattle.visits.specs.Writers.{kept_writer, Ready}

-- a step at a move, if any
abbrev pub step_for : {A : Type 0} → (ℕ → A → Option A) → Option ℕ → A → Option A
step_for step none a = some a
step_for step (some m) a = step m a

reversed-last : (l r : List ℕ) (x : ℕ) → reverse_aux (l ++ (x ∷ [])) r ≡ x ∷ reverse_aux l r
reversed-last [] r x = refl
reversed-last (y ∷ l) r x = reversed-last l (y ∷ r) x

module _ (t : RegInfo) (f : Function) (ms : List KeptMove) where
  abbrev listed : Option ℕ → List ℕ
  listed none = []
  listed (some m) = m ∷ []

  writers-append : (us : List ℕ) (u : ℕ) → writers_of t f ms (us ++ (u ∷ [])) ≡ writers_of t f ms us ++ listed (writer_from t f ms 0 ms u)
  unfolding writers_of
  writers-append [] u = go (writer_from t f ms 0 ms u) refl
    where
      go : (o : Option ℕ) → writer_from t f ms 0 ms u ≡ o → writers_of t f ms (u ∷ []) ≡ listed o
      go none e = rw e
      go (some m) e = rw e
  writers-append (x ∷ us) u = go (writer_from t f ms 0 ms x) refl (writers-append us u)
    where
      go : (o : Option ℕ) → writer_from t f ms 0 ms x ≡ o → writers_of t f ms (us ++ (u ∷ [])) ≡ writers_of t f ms us ++ listed (writer_from t f ms 0 ms u)
          → writers_of t f ms (x ∷ (us ++ (u ∷ []))) ≡ writers_of t f ms (x ∷ us) ++ listed (writer_from t f ms 0 ms u)
      go none e on = rw e on
      go (some m) e on = rw e (ap (m ∷◌) on)

  -- first the writer of the last unit, then those of the units before it
  pub writers-last : {A : Type 0} (step : ℕ → A → Option A) (us : List ℕ) (u : ℕ) (a : A)
      → each step (reverse (writers_of t f ms (us ++ (u ∷ [])))) a ≡ and_then (step_for step (writer_from t f ms 0 ms u) a) (each step (reverse (writers_of t f ms us)))
  unfolding each and_then
  writers-last step us u a = ap (λ (l : List ℕ). each step (reverse l) a) (writers-append us u) ∙ go (writer_from t f ms 0 ms u)
    where
      go : (o : Option ℕ) → each step (reverse (writers_of t f ms us ++ listed o)) a ≡ and_then (step_for step o a) (each step (reverse (writers_of t f ms us)))
      go none = ap (λ (l : List ℕ). each step (reverse l) a) (append-nil (writers_of t f ms us))
      go (some m) = ap (λ (l : List ℕ). each step l a) (reversed-last (writers_of t f ms us) [] m)

  last_taken : {A : Type 0} (step : ℕ → A → Option A) (us : List ℕ) (left : ℕ) (a : A) → 0 < left → left ≤ length us
      → each step (reverse (writers_of t f ms (take left us))) a ≡ and_then (step_for step (writer_from t f ms 0 ms (get_or us (left - 1) 0)) a) (each step (reverse (writers_of t f ms (take (left - 1) us))))
  last_taken step us left a p h =
      let e : left ≡ suc (left - 1) = omega arith in
      ap (λ (n : ℕ). each step (reverse (writers_of t f ms (take n us))) a) e
      ∙ ap (λ (l : List ℕ). each step (reverse (writers_of t f ms l)) a) (take-suc us (left - 1) 0 (omega arith))
      ∙ writers-last step (take (left - 1) us) (get_or us (left - 1) 0) a

-- a walk over the units of a move's source, with the first `left` of them left to do
module _ {A : Type 0} (t : RegInfo) (f : Function) (e w : List ℕ) (ok : Ready t e w) (step : ℕ → A → Option A) where
  abbrev pub walk_from : List ℕ → ℕ → A → Option A
  walk_from us left a = each step (reverse (writers_of t f (moves_of e) (take left us))) a

  pub walk_start : (m : ℕ) {p : Place} (a : A) → p ≡ (get_or (moves_of e) m no_move).source → each step (reverse (writers t f (moves_of e) m)) a ≡ walk_from (place_units t p) (length (place_units t p)) a
  unfolding writers
  walk_start m {p} a q = rw (take_all (length (place_units t p)) (place_units t p) (omega arith), q)

  pub walk_step : (us : List ℕ) (left u : ℕ) (a : A) → 0 < left → left ≤ length us → u ≡ get_or us (left - 1) 0 → walk_from us left a ≡ and_then (step_for step (kept_writer w u) a) (walk_from us (left - 1))
  walk_step us left u a p h q = last_taken t f (moves_of e) step us left a p h ∙ rw (q, ok.writer f (get_or us (left - 1) 0))

  pub walk_end : (us : List ℕ) (a : A) → walk_from us 0 a ≡ some a
  unfolding writers_of each
  walk_end us a = refl
