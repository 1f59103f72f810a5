-- An entry read part by part, and added.
use Prim.Native.Nat.{ℕ, ◌<◌, ◌≤◌}
use mathlib.Core.Path.{◌≡◌, refl}
use mathlib.Core.Bool.{true, false}
use mathlib.Core.List.{List}
use mathlib.Core.Option.{Option, none, some}
use native.Mathlib.Omega.{arith}
use lib.ListN.{length, drop}
use borrow.Author.Tests.{ne_eqb}
use Rattle.entity.specs.Place.{Place, place_at}
use Rattle.reginfo.specs.Table.{reg_info_of}
use Rattle.function.specs.Function.{num_values}
use Rattle.function.specs.Table.{function_of}
use Rattle.rules.specs.Patch.{Entry, move, remat, names_place}
use Rattle.entries.specs.Known.{EntriesOk}
use Rattle.entries.specs.Answers.{AddedAs}
use Rattle.number.specs.Read.{Read, got, refused, then}
use Rattle.number.specs.Answer.{NumberAt}
use Rattle.number.specs.declared.Number.TheVariants as N
use Rattle.reading.specs.Reading.{below}
use Rattle.reading.specs.Answer.{Past}
use Rattle.reading.specs.declared.Next.{Next}
use Rattle.reading.specs.declared.Next.TheVariants.{At, Refused}
use Rattle.job_patch.specs.Patches.{place, entry}
use Rattle.job_patch.specs.Steps.{PlaceAt, added_at, EntryAt}

-- a place that is named, one that is not, and no number
module _ (t f s : List ℕ) (at : ℕ) where
  pub place-named : (c next : ℕ) → NumberAt s at (N.Is c next) → true ≡ names_place (reg_info_of t) (function_of f) (place_at c) → PlaceAt t f s at (N.Is c next)
  unfolding place
  place-named c next h n = record { reads = rw (← h.reads, ← n); onward = h.onward }

  pub place-missing : (c next : ℕ) → NumberAt s at (N.Is c next) → false ≡ names_place (reg_info_of t) (function_of f) (place_at c) → PlaceAt t f s at (N.Refused 2)
  unfolding place
  place-missing c next h n = record { reads = rw (← h.reads, ← n); onward = tt }

  pub place-refused : (k : ℕ) → NumberAt s at (N.Refused k) → PlaceAt t f s at (N.Refused k)
  unfolding place
  place-refused k h = record { reads = rw (← h.reads); onward = tt }

past-from : (s : List ℕ) (at next : ℕ) (kept : Type 0) (r : Next) → at < next → next ≤ length s → Past s next kept r → Past s at kept r
past-from s at next kept (At n) a b h = (omega (arith, h.0), λ _. h.1 b, h.2)
past-from s at next kept (Refused k) a b h = tt

-- a part, and what is read after it
module _ (t f s e w : List ℕ) (at : ℕ) {A : Type 0} (first : List ℕ → Read A) (then-read : A → List ℕ → Read Entry) where
  pub part-refused : (k : ℕ) → refused k ≡ first (drop at s) → EntryAt t f s e w (λ l. then (first l) then-read) at e w (Refused k)
  part-refused k h = record { reads = rw (← h); past = tt; no = λ _ _. refl }

  pub part-read : (x : A) (next : ℕ) (e' w' : List ℕ) (r : Next) → got x (drop next s) ≡ first (drop at s) → (at < next) × (next ≤ length s) → EntryAt t f s e w (then-read x) next e' w' r → EntryAt t f s e w (λ l. then (first l) then-read) at e' w' r
  part-read x next e' w' r h on g = record { reads = rw (← h) g.reads; past = past-from s at next (EntriesOk t f e' w') r on.0 on.1 g.past; no = g.no }

-- the last part, and the entry added or refused
pub entry-added : (t f s e w e' w' : List ℕ) (at next v : ℕ) (first : List ℕ → Read ℕ) (make : ℕ → Entry) (a : Option ℕ) → got v (drop next s) ≡ first (drop at s) → (at < next) × (next ≤ length s) → AddedAs t f e w e' w' (make v) a
    → EntryAt t f s e w (λ l. then (first l) (λ x o. got (make x) o)) at e' w' (added_at a next)
entry-added t f s e w e' w' at next v first make none h on added =
    let y = added.yes refl in
    record { reads = rw (← h, ← added.is, y.0); past = (omega (arith, on.0), λ _. on.1, y.1); no = λ k q. absurd (let z : ◌≡◌ {A = ℕ} 0 1 = cc in omega arith) }
entry-added t f s e w e' w' at next v first make (some k) h on added = record { reads = rw (← h, ← added.is); past = tt; no = λ _ _. (added.no k refl).0 }

-- an entry by its first number
module _ (t f s e w : List ℕ) (at : ℕ) where
  abbrev values : List ℕ → Read ℕ
  values = below (num_values (function_of f))

  abbrev places : List ℕ → Read Place
  places = place (reg_info_of t) (function_of f)

  module _ (kind next : ℕ) (e' w' : List ℕ) (r : Next) (h : got kind (drop next s) ≡ below 2 (drop at s)) (on : (at < next) × (next ≤ length s)) where
    pub entry-move : kind ≡ 0 → EntryAt t f s e w (λ l. then (places l) (λ x q. then (places q) (λ d p. then (values p) (λ v o. got (move x d v) o)))) next e' w' r → EntryAt t f s e w (entry (reg_info_of t) (function_of f)) at e' w' r
    unfolding entry
    entry-move z g = record { reads = rw (← h, z) g.reads; past = past-from s at next (EntriesOk t f e' w') r on.0 on.1 g.past; no = g.no }

    pub entry-remat : (kind ≡ 0 → ⊥) → EntryAt t f s e w (λ l. then (places l) (λ d q. then (values q) (λ v p. got (remat d v) p))) next e' w' r → EntryAt t f s e w (entry (reg_info_of t) (function_of f)) at e' w' r
    unfolding entry
    entry-remat z g = record { reads = rw (← h, ne_eqb kind 0 z) g.reads; past = past-from s at next (EntriesOk t f e' w') r on.0 on.1 g.past; no = g.no }

  pub entry-refused : (k : ℕ) → refused k ≡ below 2 (drop at s) → EntryAt t f s e w (entry (reg_info_of t) (function_of f)) at e w (Refused k)
  unfolding entry
  entry-refused k h = record { reads = rw (← h); past = tt; no = λ _ _. refl }
