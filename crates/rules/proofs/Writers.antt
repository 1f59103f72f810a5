-- The writers of a move's source are kept moves.
use Prim.Native.Nat.{ℕ, suc, ◌+◌, ◌<◌}
use mathlib.Core.Path.{◌≡◌, refl}
use mathlib.Core.List.{List, [], ◌∷◌}
use mathlib.Core.Option.{Option, none, some}
use native.Mathlib.Omega.{arith}
use lib.ListN.{length}
use Rattle.entity.specs.Logic.{has}
use Rattle.reginfo.specs.RegInfo.{RegInfo, place_units}
use Rattle.function.specs.Function.{Function}
use Rattle.rules.specs.Order.{KeptMove, source, writer_from, writers_of, writers}
use Rattle.rules.proofs.Steps.{All, all_map, branch, Every}

module _ (t : RegInfo) (f : Function) (ms : List KeptMove) where
  abbrev n : ℕ
  n = length ms

  -- a writer is a kept move
  pub writer-low : (i : ℕ) (l : List KeptMove) (u : ℕ) → All (λ m. m < i + length l) (writer_from t f ms i l u)
  unfolding writer_from
  writer-low i [] u = tt
  writer-low i (m ∷ l) u =
      branch (All (λ m. m < i + suc (length l))) (has u (place_units t m.dest)) _ _ (λ _. omega arith)
      (λ _. all_map (λ m. m < i + 1 + length l) (λ m. m < i + suc (length l)) (writer_from t f ms (i + 1) l u) (λ m h. omega arith) (writer-low (i + 1) l u))

  writers_of-low : (us : List ℕ) → Every (λ m. m < n) (writers_of t f ms us)
  unfolding writers_of
  writers_of-low [] = tt
  writers_of-low (u ∷ us) = go (writer_from t f ms 0 ms u) refl (writer-low 0 ms u) (writers_of-low us)
    where
      go : (o : Option ℕ) → writer_from t f ms 0 ms u ≡ o → All (λ m. m < 0 + n) o → Every (λ m. m < n) (writers_of t f ms us) → Every (λ m. m < n) (writers_of t f ms (u ∷ us))
      go none e h r = rw e r
      go (some m) e h r = rw e (omega arith, r)

  pub writers-low : (i : ℕ) → Every (λ m. m < n) (writers t f ms i)
  unfolding writers
  writers-low i = writers_of-low (place_units t (source t f ms i))
