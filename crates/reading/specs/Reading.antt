-- 01, The job: what the parts of a job are read with. Number by number: first read (1), then held against its limit or range (2), then
-- against the list it stands in (3).
use Rattle.std.specs.Prelude.{ℕ, zero, suc, Bool, List, [], ◌∷◌, ltb, leb}
use Rattle.entity.specs.Logic.{pick, and, has}
use Rattle.number.specs.Read.{Read, got, refused, then}
use Rattle.number.specs.Number.{number}

-- a number that passes a test, else 2
unfoldable pub tested : (ℕ → Bool) → List ℕ → Read ℕ
tested ok l = then (number l) (λ n r. pick (ok n) (got n r) (refused 2))

abbrev pub below : ℕ → List ℕ → Read ℕ
below n = tested (λ x. ltb x n)

abbrev pub between : ℕ → ℕ → List ℕ → Read ℕ
between low high = tested (λ x. and (leb low x) (leb x high))

-- n things one after the other
unfoldable pub times : {A : Type 0} → ℕ → (List ℕ → Read A) → List ℕ → Read (List A)
times zero one l = got [] l
times (suc n) one l = then (one l) (λ x r. then (times n one r) (λ xs q. got (x ∷ xs) q))

-- n numbers below a limit, none listed twice: 3 for one that is `before` already
unfoldable pub distinct : ℕ → ℕ → List ℕ → List ℕ → Read (List ℕ)
distinct zero limit before l = got [] l
distinct (suc n) limit before l = then (below limit l) (λ x r. pick (has x before) (refused 3) (then (distinct n limit (x ∷ before) r) (λ xs q. got (x ∷ xs) q)))

-- the next of them, where those before are known by a set
unfoldable pub fresh : ℕ → (ℕ → Bool) → List ℕ → Read ℕ
fresh limit seen l = then (below limit l) (λ x r. pick (seen x) (refused 3) (got x r))
