-- Where a patch's words stand in an answer, by computation, and what is no patch.
use Rattle.std.specs.Prelude.{ℕ, ◌≡◌, Some, None, List, [], ◌∷◌, replicate}
use Rattle.std.proofs.Math.Option.{none, some}
use Rattle.answer_text.specs.Heads.{head_word}
use Rattle.edges.specs.Patches.{headed, patch_numbered, FoundIn, patches_of, NumberedIn}

-- a patch of two edits, and one of a single edit: so many slots were made and such positions met
abbrev pub two : List ℕ
two = head_word 2 1 3 ∷ 9 ∷ 17 ∷ head_word 1 1 0 ∷ 33 ∷ []

pub record Trials : Type 0 where
  -- the edge of a number, counted from 1
  pub first : patch_numbered 1 two ≡ some (9 ∷ 17 ∷ [])
  pub second : patch_numbered 2 two ≡ some (33 ∷ [])
  pub no_third : patch_numbered 3 two ≡ none
  pub from-1 : patch_numbered 0 two ≡ none
  pub all : patches_of two ≡ (9 ∷ 17 ∷ []) ∷ (33 ∷ []) ∷ []
  -- a patch without edits is one too
  pub no-edits : patches_of (head_word 0 0 0 ∷ two) ≡ [] ∷ (9 ∷ 17 ∷ []) ∷ (33 ∷ []) ∷ []
  -- an edit's word is no head, and behind it there is no patch
  pub no-head : (patches_of (9 ∷ two) ≡ []) × (patch_numbered 1 (9 ∷ two) ≡ none)
  -- a head that counts more than the words behind it
  pub too_far : (headed (head_word 2 0 0 ∷ 9 ∷ 17 ∷ []) ≡ some 2) × (headed (head_word 3 0 0 ∷ 9 ∷ 17 ∷ []) ≡ none)
  -- or more than 1,024
  pub too_many : (headed (head_word 1024 0 0 ∷ replicate 1025 9) ≡ some 1024) × (headed (head_word 1025 0 0 ∷ replicate 1025 9) ≡ none)
  -- what `Numbered` shuts out: the patches but the last, and with one more in front
  pub not-the-last : NumberedIn 1 two ((9 ∷ 17 ∷ []) ∷ []) → ⊥
  pub one-in-front : NumberedIn 0 two ([] ∷ patches_of two) → ⊥
  -- what `FoundIn` shuts out: nothing found, the words of the first patch, the head beside the edits, and words behind the last
  pub is_found : FoundIn two (patch_numbered 2 two) None → ⊥
  pub another : FoundIn two (patch_numbered 2 two) (Some (1, 2)) → ⊥
  pub with-head : FoundIn two (patch_numbered 2 two) (Some (3, 2)) → ⊥
  pub beyond : FoundIn two (patch_numbered 2 two) (Some (4, 2)) → ⊥
  pub not_there : FoundIn two (patch_numbered 3 two) (Some (5, 0)) → ⊥
