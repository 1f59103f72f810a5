-- An edit as one number: ((value · 2^14 + from) · 2^14 + to) · 8 + kind, places by their codes.
use Rattle.std.specs.Prelude.{ℕ, ◌+◌, ◌*◌, ◌/◌, ◌%◌, ◌<◌, Bool, List, [], ◌∷◌, eqb}
use Rattle.std.proofs.Math.Option.{Option, none, some}
use Rattle.entity.specs.Logic.{pick, and}
use Rattle.entity.specs.Place.{reg, slot, code_of, place_at}
use Rattle.rules.specs.Edit.{Edit, Move, Rematerialize, EmergencySpill, EmergencyReload}

abbrev pub packed : ℕ → ℕ → ℕ → ℕ → ℕ
packed kind to from v = ((v * 16384 + from) * 16384 + to) * 8 + kind

abbrev pub kind_in : ℕ → ℕ
kind_in w = w % 8

abbrev pub to_in : ℕ → ℕ
to_in w = w / 8 % 16384

abbrev pub from_in : ℕ → ℕ
from_in w = w / 131072 % 16384

abbrev pub value_in : ℕ → ℕ
value_in w = w / 2147483648 % 4096

-- kind 1 is 01's M, 2 its R, 3 its S, 4 its L
abbrev pub word_of : Edit → ℕ
word_of (Move to from v) = packed 1 (code_of to) (code_of from) v
word_of (Rematerialize to v) = packed 2 (code_of to) 0 v
word_of (EmergencySpill s r) = packed 3 (code_of (slot s)) (code_of (reg r)) 0
word_of (EmergencyReload r s) = packed 4 (code_of (reg r)) (code_of (slot s)) 0

abbrev pub is_reg : ℕ → Bool
is_reg code = eqb (code % 2) 1

abbrev pub is_slot : ℕ → Bool
is_slot code = eqb (code % 2) 0

-- what a word is, by its kind; any other kind, and a save or reload of other places, is no edit
unfoldable pub edit_of : ℕ → Option Edit
edit_of w =
    pick (eqb (kind_in w) 1) (some (Move (place_at (to_in w)) (place_at (from_in w)) (value_in w)))
    (pick (eqb (kind_in w) 2) (some (Rematerialize (place_at (to_in w)) (value_in w)))
    (pick (and (eqb (kind_in w) 3) (and (is_slot (to_in w)) (is_reg (from_in w)))) (some (EmergencySpill (to_in w / 2) (from_in w / 2)))
    (pick (and (eqb (kind_in w) 4) (and (is_reg (to_in w)) (is_slot (from_in w)))) (some (EmergencyReload (to_in w / 2) (from_in w / 2))) none)))

-- an edit that has a word
pub record Small (to from v : ℕ) : Type 0 where
  pub to-small : to < 16384
  pub from-small : from < 16384
  pub value-small : v < 4096

abbrev pub InRange : Edit → Type 0
InRange (Move to from v) = Small (code_of to) (code_of from) v
InRange (Rematerialize to v) = Small (code_of to) 0 v
InRange (EmergencySpill s r) = Small (code_of (slot s)) (code_of (reg r)) 0
InRange (EmergencyReload r s) = Small (code_of (reg r)) (code_of (slot s)) 0

abbrev pub AllInRange : List Edit → Type 0
AllInRange [] = Unit {0}
AllInRange (e ∷ es) = InRange e × AllInRange es
