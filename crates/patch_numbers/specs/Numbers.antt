-- 02 k: a patch's bytes read once more, as numbers: nothing is tested but that they are numbers, and no more than 128 entries.
use Rattle.std.specs.Prelude.{ℕ, zero, suc, ◌≡◌, List, [], ◌∷◌, ◌++◌, eqb, ltb}
use Rattle.entity.specs.Logic.{pick}
use Rattle.reginfo.specs.RegInfo.{RegInfo}
use Rattle.function.specs.Function.{Function}
use Rattle.rules.specs.Patch.{Patch}
use Rattle.number.specs.Read.{Read, got, refused, then}
use Rattle.number.specs.Number.{number}
use Rattle.parallel_moves.specs.Given.{entries_of}
use Rattle.job_patch.specs.Patches.{patch}

-- n numbers passed over
unfoldable pub passed : ℕ → List ℕ → Read ℕ
passed zero l = got 0 l
passed (suc n) l = then (number l) (λ x r. passed n r)

-- "0 source destination value, or 1 destination value": a rebuild has a nought for the fourth
abbrev pub last : (kind x y : ℕ) → List ℕ → Read (List ℕ)
last kind x y l = pick (eqb kind 0) (then (number l) (λ z r. got (kind ∷ x ∷ y ∷ z ∷ []) r)) (got (kind ∷ x ∷ y ∷ 0 ∷ []) l)

unfoldable pub four : List ℕ → Read (List ℕ)
four l = then (number l) (λ kind r. then (number r) (λ x q. then (number q) (λ y p. last kind x y p)))

unfoldable pub fours : ℕ → List ℕ → Read (List ℕ)
fours zero l = got [] l
fours (suc n) l = then (four l) (λ xs r. then (fours n r) (λ ys q. got (xs ++ ys) q))

-- the entry count and the entries
unfoldable pub counted : List ℕ → Read (List ℕ)
counted l = then (number l) (λ n r. pick (ltb 128 n) (refused 15) (fours n r))

-- the free units are passed over
unfoldable pub numbers_in : List ℕ → Read (List ℕ)
numbers_in l = then (number l) (λ k r. then (passed k r) (λ _ q. counted q))

-- of bytes that begin with a patch they are the numbers of its entries, whatever the target and the function
abbrev pub OfPatch : Type 0
OfPatch =
    (t : RegInfo) (f : Function) (l : List ℕ) (p : Patch) (r : List ℕ) → patch t f l ≡ got p r
    → (ns : List ℕ) × (numbers_in l ≡ got ns r) × (entries_of ns ≡ p.entries)
