-- 02 e: what the program `price_job` prints: a line `patch 1 edits 3 total 12 runs 100 product 1200` for each patch, the last four words only
-- where run counts are given.
use Rattle.std.specs.Prelude.{ℕ, ◌+◌, ◌*◌, ◌^◌, Bool, List, [], ◌∷◌, ◌++◌, leb, ltb, length, get_or}
use Rattle.entity.specs.Logic.{pick, and}
use Rattle.price.specs.declared.Prices.{Prices}
use Rattle.price.specs.Price.{total_of}
use Rattle.print.specs.Text.{decimal, newline, spaced, patch_word, edits_word, refused_line}
use Rattle.answer_text.specs.Lines.{refusal_text}

-- the words total, runs and product
abbrev pub total_word : List ℕ
total_word = 116 ∷ 111 ∷ 116 ∷ 97 ∷ 108 ∷ []

abbrev pub runs_word : List ℕ
runs_word = 114 ∷ 117 ∷ 110 ∷ 115 ∷ []

abbrev pub product_word : List ℕ
product_word = 112 ∷ 114 ∷ 111 ∷ 100 ∷ 117 ∷ 99 ∷ 116 ∷ []

abbrev pub total_text : ℕ → ℕ → ℕ → List ℕ
total_text k count total = patch_word ++ spaced (decimal k) (spaced edits_word (spaced (decimal count) (spaced total_word (32 ∷ decimal total))))

abbrev pub runs_text : ℕ → ℕ → List ℕ
runs_text runs product = 32 ∷ (runs_word ++ spaced (decimal runs) (spaced product_word (spaced (decimal product) newline)))

-- of the edge i, counted from 0, with its run count among those given, if any are
abbrev pub line_end : (runs : List ℕ) → ℕ → (total : ℕ) → List ℕ
line_end runs i total = pick (ltb i (length runs)) (runs_text (get_or runs i 0) (get_or runs i 0 * total)) newline

abbrev pub edge_text : Prices → (runs : List ℕ) → ℕ → List ℕ → List ℕ
edge_text p runs i l = total_text (i + 1) (length l) (total_of p l) ++ line_end runs i (total_of p l)

-- 19: "a run count outside its own"
abbrev pub stopped : List ℕ → ℕ → Bool
stopped runs i = and (ltb i (length runs)) (leb (2 ^ 26) (get_or runs i 0))

-- the edges from i on, with the words of their edits; after a number the last line is `refused` and the number, and 0 is none
unfoldable pub edges_text : Prices → (runs : List ℕ) → ℕ → List (List ℕ) → ℕ → List ℕ
edges_text p runs i [] refusal = refusal_text refusal
edges_text p runs i (l ∷ ls) refusal = pick (stopped runs i) (refused_line 19) (edge_text p runs i l ++ edges_text p runs (i + 1) ls refusal)
