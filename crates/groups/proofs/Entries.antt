-- Entries given as numbers.
use Prim.Native.Nat.{ℕ, zero, suc, ◌+◌, ◌*◌, ◌<◌, ◌≤◌}
use mathlib.Core.Path.{◌≡◌, refl, sym, ap, ◌∙◌}
use mathlib.Core.Bool.{true}
use mathlib.Core.List.{List, [], ◌∷◌}
use mathlib.Core.Logic.{◌⊎◌, inl, inr}
use native.Mathlib.Omega.{arith}
use lib.ListN.{length, get_or, drop}
use Rattle.entity.specs.Logic.{has}
use Rattle.entity.specs.Place.{place_at}
use Rattle.entity.proofs.Laws.{drop-step}
use Rattle.reginfo.specs.RegInfo.{RegInfo, place_units}
use Rattle.rules.specs.Patch.{Entry, move, remat}
use Rattle.group_rules.specs.Groups.{entry_units, source_units}
use Rattle.group_rules.specs.Refusals.{no_entry}
use Rattle.group_rules.proofs.Lists.{has-append, or_case}
use Rattle.parallel_moves.specs.Given.{entry_of, entries_of}
use Rattle.groups.specs.Given.{count_of, entry_at, KnownEntry, KnownEntries}

-- a list of whole entries: as many as there are, each at its place
pub length-entries : (n : ℕ) (l : List ℕ) → length l ≡ n * 4 → length (entries_of l) ≡ n
unfolding entries_of
length-entries zero [] h = refl
length-entries zero (a ∷ l) h = absurd (omega arith)
length-entries (suc n) [] h = absurd (omega arith)
length-entries (suc n) (a ∷ []) h = absurd (omega arith)
length-entries (suc n) (a ∷ b ∷ []) h = absurd (omega arith)
length-entries (suc n) (a ∷ b ∷ c ∷ []) h = absurd (omega arith)
length-entries (suc n) (a ∷ b ∷ c ∷ d ∷ l) h = ap suc (length-entries n l (omega arith))

pub at-entries : (k : ℕ) (l : List ℕ) → k * 4 + 4 ≤ length l → get_or (entries_of l) k no_entry ≡ entry_at l k
unfolding entries_of entry_at
at-entries k [] h = absurd (omega arith)
at-entries k (a ∷ []) h = absurd (omega arith)
at-entries k (a ∷ b ∷ []) h = absurd (omega arith)
at-entries k (a ∷ b ∷ c ∷ []) h = absurd (omega arith)
at-entries zero (a ∷ b ∷ c ∷ d ∷ l) h = refl
at-entries (suc k) (a ∷ b ∷ c ∷ d ∷ l) h =
    let q3 : suc k * 4 + 3 ≡ suc (suc (suc (suc (k * 4 + 3)))) = omega arith in
    let q2 : suc k * 4 + 2 ≡ suc (suc (suc (suc (k * 4 + 2)))) = omega arith in
    let q1 : suc k * 4 + 1 ≡ suc (suc (suc (suc (k * 4 + 1)))) = omega arith in
    let q0 : suc k * 4 ≡ suc (suc (suc (suc (k * 4)))) = omega arith in
    rw (q3, q2, q1, q0) (at-entries k l (omega arith))

-- what it has by its first number
pub entry-move : (numbers : List ℕ) (k : ℕ) → get_or numbers (k * 4) 0 ≡ 0 → entry_at numbers k ≡ move (place_at (get_or numbers (k * 4 + 1) 0)) (place_at (get_or numbers (k * 4 + 2) 0)) (get_or numbers (k * 4 + 3) 0)
unfolding entry_at entry_of
entry-move numbers k e = rw e

pub entry-remat : (numbers : List ℕ) (k : ℕ) → get_or numbers (k * 4) 0 ≡ 1 → entry_at numbers k ≡ remat (place_at (get_or numbers (k * 4 + 1) 0)) (get_or numbers (k * 4 + 2) 0)
unfolding entry_at entry_of
entry-remat numbers k e = rw e

module _ (t : RegInfo) (numbers : List ℕ) (ok : KnownEntries t numbers) where
  pub how-many : length (entries_of numbers) ≡ count_of numbers
  how-many = length-entries (count_of numbers) numbers ok.whole

  pub entries-step : (k : ℕ) → k < count_of numbers → drop k (entries_of numbers) ≡ entry_at numbers k ∷ drop (k + 1) (entries_of numbers)
  entries-step k h =
      drop-step (entries_of numbers) k no_entry (omega (arith, how-many))
      ∙ ap (λ (e : Entry). e ∷ drop (k + 1) (entries_of numbers)) (at-entries k numbers (omega (arith, ok.whole)))

  pub inside : (k : ℕ) → k < count_of numbers → k * 4 + 4 ≤ length numbers
  inside k h = omega (arith, ok.whole)

  pub at : (k : ℕ) → k < count_of numbers → get_or (entries_of numbers) k no_entry ≡ entry_at numbers k
  at k h = at-entries k numbers (inside k h)

-- the units of an entry can be looked up
module _ (t : RegInfo) (numbers : List ℕ) (k : ℕ) (ok : KnownEntry t numbers k) where
  kind? : (get_or numbers (k * 4) 0 ≡ 0) ⊎ (get_or numbers (k * 4) 0 ≡ 1)
  kind? = go (get_or numbers (k * 4) 0) ok.kind
    where
      go : (n : ℕ) → n ≤ 1 → (n ≡ 0) ⊎ (n ≡ 1)
      go zero h = inl refl
      go (suc zero) h = inr refl
      go (suc (suc n)) h = absurd (omega arith)

  pub is-remat : (get_or numbers (k * 4) 0 ≡ 0 → ⊥) → get_or numbers (k * 4) 0 ≡ 1
  is-remat h = let z = ok.kind in omega arith

  pub source-move : get_or numbers (k * 4) 0 ≡ 0 → source_units t (entry_at numbers k) ≡ place_units t (place_at (get_or numbers (k * 4 + 1) 0))
  source-move h = ap (source_units t) (entry-move numbers k h)

  pub source-remat : (get_or numbers (k * 4) 0 ≡ 0 → ⊥) → source_units t (entry_at numbers k) ≡ []
  source-remat h = ap (source_units t) (entry-remat numbers k (is-remat h))

  pub units-low : (u : ℕ) → has u (entry_units t (entry_at numbers k)) ≡ true → u < 4608
  units-low u e = go kind?
    where
      go : (get_or numbers (k * 4) 0 ≡ 0) ⊎ (get_or numbers (k * 4) 0 ≡ 1) → u < 4608
      go (inl z) =
          let h : has u (entry_units t (move (place_at (get_or numbers (k * 4 + 1) 0)) (place_at (get_or numbers (k * 4 + 2) 0)) (get_or numbers (k * 4 + 3) 0))) ≡ true = rw (entry-move numbers k z) at e in
          both (or_case _ _ (sym (has-append u (place_units t (place_at (get_or numbers (k * 4 + 1) 0))) (place_units t (place_at (get_or numbers (k * 4 + 2) 0)))) ∙ h))
        where
          both : (has u (place_units t (place_at (get_or numbers (k * 4 + 1) 0))) ≡ true) ⊎ (has u (place_units t (place_at (get_or numbers (k * 4 + 2) 0))) ≡ true) → u < 4608
          both (inl p) = ok.first.place.low u p
          both (inr p) = (ok.second z).place.low u p
      go (inr z) = ok.first.place.low u (rw (entry-remat numbers k z) at e)
