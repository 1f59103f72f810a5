-- 01, The job: "each: free count, free units rising, entry count, entries: 0 source destination value, or 1 destination value".
use Rattle.std.specs.Prelude.{ℕ, zero, suc, ◌+◌, List, [], ◌∷◌, eqb, ltb, leb}
use Rattle.std.proofs.Math.Option.{Option, none, some}
use Rattle.entity.specs.Logic.{pick}
use Rattle.entity.specs.Place.{Place, place_at}
use Rattle.reginfo.specs.RegInfo.{RegInfo}
use Rattle.reginfo.specs.Refused.{first_of}
use Rattle.function.specs.Function.{Function, num_values}
use Rattle.rules.specs.Patch.{Entry, move, remat, Patch, Sorted, nothing_sorted, names_place, entry_conditions, add, sorted, patch_conditions}
use Rattle.number.specs.Read.{Read, got, refused, then}
use Rattle.number.specs.Number.{number}
use Rattle.reading.specs.Reading.{below}

-- "free units rising": 3 for one that does not rise
unfoldable pub rising : ℕ → ℕ → ℕ → List ℕ → Read (List ℕ)
rising zero limit least l = got [] l
rising (suc n) limit least l = then (below limit l) (λ u r. pick (ltb u least) (refused 3) (then (rising n limit (u + 1) r) (λ us q. got (u ∷ us) q)))

-- an entry that is refused ends the reading
abbrev pub unless_given : {A : Type 0} → Option ℕ → Read A → Read A
unless_given none r = r
unless_given (some k) r = refused k

module _ (t : RegInfo) (f : Function) where
  -- 2: "a place [..] that names nothing, a slot from N on included"
  unfoldable pub place : List ℕ → Read Place
  place l = then (number l) (λ c r. pick (names_place t f (place_at c)) (got (place_at c) r) (refused 2))

  -- "0 source destination value, or 1 destination value"
  unfoldable pub entry : List ℕ → Read Entry
  entry l =
      then (below 2 l)
      (λ kind r. pick (eqb kind 0)
      (then (place r) (λ s q. then (place q) (λ d p. then (below (num_values f) p) (λ v o. got (move s d v) o))))
      (then (place r) (λ d q. then (below (num_values f) q) (λ v p. got (remat d v) p))))

  -- 15 "before its bytes are read"; an entry's numbers, then 9, 10, 11, 12
  unfoldable pub entries : ℕ → Sorted → List ℕ → Read (List Entry)
  entries zero a l = got [] l
  entries (suc n) a l =
      pick (leb 128 a.count) (refused 15)
      (then (entry l) (λ e r. unless_given (first_of (entry_conditions t f a e)) (then (entries n (add t f e a) r) (λ es q. got (e ∷ es) q))))

  unfoldable pub patch : List ℕ → Read Patch
  patch l = then (number l) (λ k r. then (rising k t.units 0 r) (λ free q. then (number q) (λ n p. then (entries n nothing_sorted p) (λ es o. got (record { free = free; entries = es }) o))))

  -- a patch read alone, with every test that it has before it is resolved; the lent list has room for every patch, so 16 is not given
  unfoldable pub accepted : List ℕ → Read Patch
  accepted l = then (patch l) (λ p r. unless_given (first_of (patch_conditions t f p 1024 (sorted t f p))) (got p r))
