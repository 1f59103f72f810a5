-- 02 n: what the program prints: labels 12 wide, numbers right-aligned in 12, a refusal's row only where a count is not 0.
use Rattle.std.specs.Prelude.{ℕ, zero, suc, ◌+◌, ◌-◌, ◌≡◌, Bool, List, [], ◌∷◌, ◌++◌, eqb, length, get_or, take, replicate}
use Rattle.entity.specs.Logic.{pick, and}
use Rattle.print.specs.Text.{decimal, newline, spaced, refused_word, refused_line}

-- up to twelve blanks
abbrev pub blanks : ℕ → List ℕ
blanks n = take n (replicate 12 32)

abbrev pub label_text : List ℕ → List ℕ
label_text label = label ++ blanks (12 - length label)

abbrev pub cell_text : ℕ → List ℕ
cell_text x = blanks (12 - length (decimal x)) ++ decimal x

abbrev pub row_text : List ℕ → ℕ → ℕ → List ℕ
row_text label a b = label_text label ++ (cell_text a ++ (cell_text b ++ newline))

-- the words seed, patches, kept, accepted, evictions and price
abbrev pub seed_word : List ℕ
seed_word = 115 ∷ 101 ∷ 101 ∷ 100 ∷ []

abbrev pub patches_word : List ℕ
patches_word = 112 ∷ 97 ∷ 116 ∷ 99 ∷ 104 ∷ 101 ∷ 115 ∷ []

abbrev pub kept_word : List ℕ
kept_word = 107 ∷ 101 ∷ 112 ∷ 116 ∷ []

abbrev pub accepted_word : List ℕ
accepted_word = 97 ∷ 99 ∷ 99 ∷ 101 ∷ 112 ∷ 116 ∷ 101 ∷ 100 ∷ []

abbrev pub evictions_word : List ℕ
evictions_word = 101 ∷ 118 ∷ 105 ∷ 99 ∷ 116 ∷ 105 ∷ 111 ∷ 110 ∷ 115 ∷ []

abbrev pub price_word : List ℕ
price_word = 112 ∷ 114 ∷ 105 ∷ 99 ∷ 101 ∷ []

abbrev pub head_text : ℕ → ℕ → List ℕ
head_text seed patches = seed_word ++ spaced (decimal seed) (spaced patches_word (spaced (decimal patches) newline))

abbrev pub refused_label : ℕ → List ℕ
refused_label j = refused_word ++ (32 ∷ decimal j)

abbrev pub refusal_text : ℕ → ℕ → ℕ → List ℕ
refusal_text j a b = pick (and (eqb a 0) (eqb b 0)) [] (row_text (refused_label j) a b)

module _ (one two : List ℕ) where
  abbrev pub cells_text : List ℕ → ℕ → List ℕ
  cells_text label i = row_text label (get_or one i 0) (get_or two i 0)

  -- the settings, accepted patches, M and R
  abbrev pub first_text : List ℕ
  first_text = row_text kept_word 1 2 ++ (cells_text accepted_word 0 ++ (cells_text (77 ∷ []) 1 ++ cells_text (82 ∷ []) 2))

  -- S, L, evictions, the price
  abbrev pub second_text : List ℕ
  second_text = cells_text (83 ∷ []) 3 ++ (cells_text (76 ∷ []) 4 ++ (cells_text evictions_word 5 ++ cells_text price_word 6))

  -- n numbers from j on
  unfoldable pub refusals_text : ℕ → ℕ → List ℕ
  refusals_text j zero = []
  refusals_text j (suc n) = refusal_text j (get_or one (7 + j) 0) (get_or two (7 + j) 0) ++ refusals_text (j + 1) n

  abbrev pub table_text : ℕ → ℕ → List ℕ
  table_text seed patches = head_text seed patches ++ (first_text ++ (second_text ++ refusals_text 0 256))
