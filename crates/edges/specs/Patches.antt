-- The patches of an answer's words: each is a head and the words of so many edits as the head counts.
use Rattle.std.specs.Prelude.{ℕ, zero, suc, ◌+◌, ◌≤◌, ◌≡◌, Option as Answered, Some, None, List, [], ◌∷◌, leb, length, take, drop}
use Rattle.std.proofs.Math.Option.{Option, none, some}
use Rattle.entity.specs.Logic.{pick, and}
use Rattle.answer_text.specs.Heads.{is_head, count_in}

-- the words begin with a head that counts at most 1,024 edits and no more than there are words behind it
unfoldable pub headed : List ℕ → Option ℕ
headed [] = none
headed (w ∷ l) = pick (and (is_head w) (and (leb (count_in w) 1024) (leb (count_in w) (length l)))) (some (count_in w)) none

abbrev pub with_head : {A : Type 0} → Option ℕ → (ℕ → Option A) → Option A
with_head none next = none
with_head (some c) next = next c

-- the words of the edits of the patch that n patches stand before
unfoldable pub patch_behind : ℕ → List ℕ → Option (List ℕ)
patch_behind zero l = with_head (headed l) (λ c. some (take c (drop 1 l)))
patch_behind (suc n) l = with_head (headed l) (λ c. patch_behind n (drop (1 + c) l))

-- counted from 1
abbrev pub patch_numbered : ℕ → List ℕ → Option (List ℕ)
patch_numbered zero l = none
patch_numbered (suc n) l = patch_behind n l

abbrev pub counted : Option ℕ → Answered ℕ
counted none = None
counted (some c) = Some c

-- they stand behind an offset, and are at most 1,024
abbrev pub FoundIn : List ℕ → Option (List ℕ) → Answered (ℕ × ℕ) → Type 0
FoundIn words none r = r ≡ None
FoundIn words (some es) r =
    (from : ℕ) × (count : ℕ) × (r ≡ Some (from, count)) × (es ≡ take count (drop from words)) × (from + count ≤ length words) × (count ≤ 1024)

-- the words of the edits of all patches, one after the other; so many patches at most
abbrev pub then_patches : Option ℕ → (ℕ → List (List ℕ)) → List (List ℕ)
then_patches none next = []
then_patches (some c) next = next c

unfoldable pub patches_within : ℕ → List ℕ → List (List ℕ)
patches_within zero l = []
patches_within (suc n) l = then_patches (headed l) (λ c. take c (drop 1 l) ∷ patches_within n (drop (1 + c) l))

-- there are no more than words
abbrev pub patches_of : List ℕ → List (List ℕ)
patches_of l = patches_within (length l) l

-- one of a list, counted from 0
abbrev pub nth : {A : Type 0} → ℕ → List A → Option A
nth n [] = none
nth zero (x ∷ l) = some x
nth (suc n) (x ∷ l) = nth n l

-- the patch of a number is that one of these
abbrev pub NumberedIn : ℕ → List ℕ → List (List ℕ) → Type 0
NumberedIn n l ps = patch_numbered (suc n) l ≡ nth n ps

-- the patch of a number is that one of all patches
abbrev pub Numbered : Type 0
Numbered = (n : ℕ) (l : List ℕ) → NumberedIn n l (patches_of l)
