-- The edits made so far: cell 0 counts them, and they stand from cell 1 on in the order made, which is backwards.
use Rattle.std.specs.Prelude.{ℕ, zero, suc, ◌+◌, ◌≡◌, List, [], ◌∷◌, map, get_or}
use Rattle.std.proofs.Math.Option.{Option, none, some}
use Rattle.entity.specs.Place.{slot}
use Rattle.rules.specs.Edit.{Edit, Rematerialize}
use Rattle.edit.specs.Word.{edit_of, word_of}

-- the last n of the first n words made, the newest first: the order handed out
unfoldable pub newest_first : List ℕ → ℕ → List ℕ
newest_first t zero = []
newest_first t (suc n) = get_or t (n + 1) 0 ∷ newest_first t n

abbrev pub count_of : List ℕ → ℕ
count_of t = get_or t 0 0

abbrev pub words_of : List ℕ → List ℕ
words_of t = newest_first t (count_of t)

-- a word that is an edit, as that edit (any edit for any other word)
abbrev pub or_edit : Option Edit → Edit
or_edit (some e) = e
or_edit none = Rematerialize (slot 0) 0

unfoldable pub edits_of : List ℕ → List Edit
edits_of t = map (λ w. or_edit (edit_of w)) (words_of t)

-- every word is that of its edit
abbrev pub Written : List ℕ → Type 0
Written t = words_of t ≡ map word_of (edits_of t)
