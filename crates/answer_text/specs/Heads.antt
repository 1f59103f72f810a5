-- The words of a whole answer: for each patch a head, which is no edit's word, and the words of its edits.
use Rattle.std.specs.Prelude.{ℕ, ◌+◌, ◌*◌, ◌/◌, ◌%◌, ◌<◌, ◌≡◌, Bool, List, ◌∷◌, map, eqb, length}
use Rattle.rules.specs.Edit.{Edit}
use Rattle.edit.specs.Word.{kind_in, word_of}

-- how many edits a patch has, how many slots the function has then made and the greatest position that the patch met; kind 0
abbrev pub head_word : ℕ → ℕ → ℕ → ℕ
head_word count made position = ((position * 65536 + made) * 65536 + count) * 8

abbrev pub is_head : ℕ → Bool
is_head w = eqb (kind_in w) 0

abbrev pub count_in : ℕ → ℕ
count_in w = w / 8 % 65536

abbrev pub made_in : ℕ → ℕ
made_in w = w / 524288 % 65536

abbrev pub position_in : ℕ → ℕ
position_in w = w / 34359738368 % 65536

-- each is read back from the head
abbrev pub HeadRead : Type 0
HeadRead =
    (count made position : ℕ) → count < 65536 → made < 65536 → position < 65536
    → (count_in (head_word count made position) ≡ count) × (made_in (head_word count made position) ≡ made) × (position_in (head_word count made position) ≡ position)

abbrev pub patch_words : List Edit → (made position : ℕ) → List ℕ
patch_words es made position = head_word (length es) made position ∷ map word_of es
