-- 02 m: trials, each over a patch, with its edits as words.
use Rattle.std.specs.Prelude.{ℕ, ◌≡◌, List, [], ◌∷◌, map}
use Rattle.entity.specs.Place.{reg, slot, code_of}
use Rattle.reginfo.specs.RegInfo.{RegInfo}
use Rattle.function.specs.Function.{Function}
use Rattle.rules.specs.Edit.{Edit, Move, Rematerialize, EmergencySpill, EmergencyReload}
use Rattle.rules.specs.Patch.{move, remat, Patch}
use Rattle.rules.specs.Trials.{single, three, halves, fixed, over, plain, rematerializable, patch, swap}
use Rattle.edit.specs.Word.{word_of, packed}
use Rattle.examine_rules.specs.Examine.{Verdict, Yes, No, Refused}
use Rattle.examine_rules.specs.Words.{examine_patch}

-- what is said of a list of edits where L of the function may be made
abbrev pub says : RegInfo → Function → Patch → List Edit → Verdict
says t f p es = examine_patch t f p f.limit (map word_of es)

abbrev pub one : List ℕ → Patch
one free = patch free (move (reg 0) (reg 1) 0 ∷ [])

-- swap with r2 as scratch, saved into s0
abbrev pub through : List Edit
through = EmergencySpill 0 2 ∷ Move (reg 2) (reg 1) 1 ∷ Move (reg 1) (reg 0) 0 ∷ Move (reg 0) (reg 2) 1 ∷ []

abbrev pub slot_twice : Patch
slot_twice = patch [] (move (slot 0) (reg 0) 0 ∷ move (slot 0) (slot 1) 1 ∷ [])

-- three, and r3, an argument word
unfoldable pub with_word : RegInfo
with_word =
    record {
      units = 4;
      banks = record { size = 3; top = 0; stack = 1 } ∷ [];
      regs = single 0 ∷ single 1 ∷ single 2 ∷ record { memory = 1; bank = 0; units = 3 ∷ [] } ∷ [];
      classes =
          record { bank = 0; slots = 1; members = 0 ∷ 1 ∷ 2 ∷ []; order = 0 ∷ 1 ∷ 2 ∷ [] }
          ∷ record { bank = 0; slots = 0; members = 0 ∷ 1 ∷ 2 ∷ []; order = 0 ∷ 1 ∷ 2 ∷ [] }
          ∷ [];
    }

-- s0's list waits in r3 while s0 is used
abbrev pub parked : List Edit
parked =
    EmergencyReload 3 0
    ∷ EmergencySpill 0 2
    ∷ Move (reg 2) (reg 0) 0
    ∷ Move (reg 1) (reg 2) 0
    ∷ EmergencyReload 2 0
    ∷ EmergencySpill 0 3
    ∷ []

-- what is said of one word for `one`, which no word alone but M r1 r0 0 does
abbrev pub of_word : ℕ → Verdict
of_word w = examine_patch three (rematerializable 1 1) (one []) 1 (w ∷ [])

pub record ExamineTrials : Type 0 where
  pub ours : says three (plain 0 1) (patch [] swap) (Move (slot 0) (reg 1) 1 ∷ Move (reg 1) (reg 0) 0 ∷ Move (reg 0) (slot 0) 1 ∷ []) ≡ Yes
  pub merged : says three (plain 0 1) (patch [] swap) (EmergencySpill 0 1 ∷ Move (reg 1) (reg 0) 0 ∷ EmergencyReload 0 0 ∷ []) ≡ Yes
  -- "a register left waiting counted by its own words"
  pub own-words : says three (plain 0 1) (patch [] swap) through ≡ No
  pub reloaded : says three (plain 0 1) (patch [] swap) (EmergencySpill 0 2 ∷ Move (reg 2) (reg 1) 1 ∷ Move (reg 1) (reg 0) 0 ∷ Move (reg 0) (reg 2) 1 ∷ EmergencyReload 2 0 ∷ []) ≡ Yes
  -- values with one source have one content, also in a chain
  pub equal-sources : says three (plain 0 1) (patch [] (move (reg 0) (reg 1) 0 ∷ move (reg 0) (reg 2) 1 ∷ [])) (Move (reg 1) (reg 0) 0 ∷ Move (reg 2) (reg 1) 0 ∷ []) ≡ Yes
  pub tied-in-a-chain :
      says three (plain 3 1) (patch [] (move (reg 0) (slot 0) 0 ∷ move (reg 1) (slot 1) 1 ∷ move (reg 0) (slot 2) 1 ∷ []))
      (Move (slot 0) (reg 1) 0 ∷ Move (slot 1) (reg 0) 1 ∷ Move (slot 2) (reg 1) 1 ∷ [])
      ≡ Yes
  pub not-tied : says three (plain 2 1) (patch [] (move (reg 0) (slot 0) 0 ∷ move (reg 1) (slot 1) 1 ∷ [])) (Move (slot 0) (reg 1) 0 ∷ Move (slot 1) (reg 0) 1 ∷ []) ≡ No
  -- a slot that is no kept source may hold a list of any length
  pub any-length : says three (plain 1 1) (one (2 ∷ [])) (Move (reg 2) (slot 0) 0 ∷ Move (reg 1) (reg 0) 0 ∷ []) ≡ No
  pub ordinary : says three (plain 1 1) (one []) (Move (reg 1) (reg 0) 0 ∷ EmergencySpill 0 2 ∷ []) ≡ No
  pub emergency : says three (plain 1 1) (one []) (Move (reg 1) (reg 0) 0 ∷ EmergencySpill 1 2 ∷ []) ≡ Yes
  pub beyond : says three (plain 1 1) (one []) (Move (reg 1) (reg 0) 0 ∷ EmergencySpill 2 2 ∷ []) ≡ Refused 24
  -- "a slot from N + L on" in each other edit; the one before it is named
  pub last-slot : says three (plain 1 1) (one []) (Move (slot 1) (reg 0) 0 ∷ Move (reg 1) (slot 1) 0 ∷ []) ≡ Yes
  pub beyond-to : says three (plain 1 1) (one []) (Move (reg 1) (reg 0) 0 ∷ Move (slot 2) (reg 0) 0 ∷ []) ≡ Refused 24
  pub beyond-from : says three (plain 1 1) (one []) (Move (reg 1) (slot 2) 0 ∷ []) ≡ Refused 24
  pub beyond-rebuilt : says three (rematerializable 1 1) (one []) (Rematerialize (slot 2) 0 ∷ []) ≡ Refused 24
  pub beyond-reloaded : says three (plain 1 1) (one []) (Move (reg 1) (reg 0) 0 ∷ EmergencyReload 2 2 ∷ []) ≡ Refused 24
  -- "another place or a value outside the target or function" in each
  pub no-register-to : says three (plain 1 1) (one []) (Move (reg 3) (reg 0) 0 ∷ []) ≡ Refused 24
  pub no-register-rebuilt : says three (rematerializable 1 1) (one []) (Rematerialize (reg 3) 0 ∷ []) ≡ Refused 24
  pub no-value-rebuilt : says three (rematerializable 1 1) (one []) (Rematerialize (reg 1) 2 ∷ []) ≡ Refused 24
  pub no-register-saved : says three (plain 1 1) (one []) (EmergencySpill 1 3 ∷ []) ≡ Refused 24
  pub no-register-reloaded : says three (plain 1 1) (one []) (EmergencyReload 3 1 ∷ []) ≡ Refused 24
  -- in a shared frame N plus its limit counts
  pub in-a-frame : examine_patch three (plain 1 1) (one []) 2 (map word_of (Move (reg 1) (reg 0) 0 ∷ EmergencySpill 2 2 ∷ [])) ≡ Yes
  pub cannot-rebuild : says three (plain 0 1) (one []) (Rematerialize (reg 1) 0 ∷ []) ≡ No
  pub rebuilt : says three (rematerializable 0 1) (one []) (Rematerialize (reg 1) 0 ∷ []) ≡ Yes
  pub rebuilt-elsewhere : says three (rematerializable 1 1) (patch (2 ∷ []) (remat (reg 1) 0 ∷ [])) (Rematerialize (reg 2) 0 ∷ Move (reg 1) (reg 2) 0 ∷ []) ≡ Yes
  pub not_free : says three (rematerializable 1 1) (patch [] (remat (reg 1) 0 ∷ [])) (Rematerialize (reg 2) 0 ∷ Move (reg 1) (reg 2) 0 ∷ []) ≡ No
  pub nothing-rebuilt : says three (rematerializable 0 1) (patch [] (remat (reg 1) 0 ∷ [])) [] ≡ No
  pub same-again : says three (rematerializable 0 1) (one []) (Rematerialize (reg 0) 0 ∷ Move (reg 1) (reg 0) 0 ∷ []) ≡ Yes
  pub between-slots : says three (plain 2 1) (patch [] (move (slot 0) (slot 1) 0 ∷ [])) (Move (slot 1) (slot 0) 0 ∷ []) ≡ No
  -- "With no such start the answer is yes", but 24 comes before it, and the patch's number before that
  pub no_start : says halves (over (fixed 0 ∷ fixed 1 ∷ []) 2 1) slot_twice (Move (slot 0) (slot 1) 0 ∷ []) ≡ Yes
  pub no-start-24 : says halves (over (fixed 0 ∷ fixed 1 ∷ []) 2 1) slot_twice (Move (slot 0) (slot 1) 0 ∷ EmergencySpill 3 0 ∷ []) ≡ Refused 24
  pub not-done-24 : says three (plain 0 1) (one []) (Rematerialize (reg 1) 0 ∷ Move (reg 1) (reg 3) 0 ∷ []) ≡ Refused 24
  pub refused-first : says three (plain 0 1) (patch (1 ∷ []) swap) (EmergencySpill 1 0 ∷ []) ≡ Refused 13
  pub no_value : says three (plain 0 1) (one []) (Move (reg 1) (reg 0) 2 ∷ []) ≡ Refused 24
  -- 02 b: an unknown list travels, and comes back
  pub parked-list : says with_word (plain 1 0) (one (3 ∷ [])) parked ≡ Yes
  pub parked-not-free : says with_word (plain 1 0) (one []) parked ≡ No
  pub other-list : says with_word (plain 2 0) (one (3 ∷ [])) (Move (reg 1) (reg 0) 0 ∷ EmergencyReload 3 0 ∷ EmergencySpill 1 3 ∷ []) ≡ No
  -- words: 01's forms, and no bit more
  pub move-word : of_word (packed 1 (code_of (reg 1)) (code_of (reg 0)) 0) ≡ Yes
  pub kind_0 : of_word (packed 0 (code_of (reg 1)) (code_of (reg 0)) 0) ≡ Refused 24
  pub kind-5 : of_word (packed 5 (code_of (reg 1)) (code_of (reg 0)) 0) ≡ Refused 24
  pub value-over : of_word (packed 1 (code_of (reg 1)) (code_of (reg 0)) 4096) ≡ Refused 24
  pub saved-into-slot : of_word (packed 3 (code_of (slot 1)) (code_of (slot 0)) 0) ≡ Refused 24
  pub saved-with-value : of_word (packed 3 (code_of (slot 1)) (code_of (reg 0)) 1) ≡ Refused 24
  pub rebuilt-from : of_word (packed 2 (code_of (reg 1)) (code_of (reg 0)) 0) ≡ Refused 24
  pub rebuilt-word : of_word (packed 2 (code_of (reg 1)) 0 0) ≡ Yes
