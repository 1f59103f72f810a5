-- Demand 3 from its other side: lists of edits that it does not accept, each wrong for one reason alone.
use Rattle.std.specs.Prelude.{ℕ, zero, suc, ◌≤◌, ◌≡◌, List, [], ◌∷◌, length, get_or, replicate}
use Rattle.std.proofs.Math.Option.{some}
use Rattle.entity.specs.Place.{reg, slot}
use Rattle.reginfo.specs.RegInfo.{RegInfo}
use Rattle.reginfo.specs.Refused as target
use Rattle.function.specs.Function.{Function}
use Rattle.function.specs.Refused as function
use Rattle.rules.specs.Edit.{Edit, Move, Rematerialize, EmergencySpill, EmergencyReload, updated}
use Rattle.rules.specs.Scratch.{empty_cache}
use Rattle.rules.specs.Patch.{move, Patch, sorted, bound, resolve}
use Rattle.rules.specs.Trials.{single, fixed, over, patch, Gives}
use Rattle.machine.specs.Machine.{Memory, Machine, begin, read, steps, seen}
use Rattle.machine.specs.Claim.{Contents, Holding, RightFrom, Accepted}
use Rattle.machine.specs.Before.{HoldsAs, DoesAs, AllAs, SeenAs}

-- six registers of one unit in bank 0, of which the stack class has the first three, and one of two units in bank 1, beside r7, an argument word
unfoldable pub seven : RegInfo
seven =
    record {
      units = 9;
      banks = record { size = 3; top = 0; stack = 1 } ∷ record { size = 4; top = 2; stack = 3 } ∷ [];
      regs = single 0 ∷ single 1 ∷ single 2 ∷ single 3 ∷ single 4 ∷ single 5 ∷ record { memory = 0; bank = 1; units = 6 ∷ 7 ∷ [] } ∷ record { memory = 1; bank = 1; units = 8 ∷ [] } ∷ [];
      classes =
          record { bank = 0; slots = 1; members = 0 ∷ 1 ∷ 2 ∷ 3 ∷ 4 ∷ 5 ∷ []; order = 0 ∷ 1 ∷ 2 ∷ [] }
          ∷ record { bank = 0; slots = 0; members = 0 ∷ 1 ∷ 2 ∷ []; order = 0 ∷ 1 ∷ 2 ∷ [] }
          ∷ record { bank = 1; slots = 1; members = 6 ∷ 7 ∷ []; order = 6 ∷ [] }
          ∷ record { bank = 1; slots = 0; members = 6 ∷ []; order = 6 ∷ [] }
          ∷ [];
    }

-- value 0 of cost 2, rebuilt by the stack class of bank 0, and two that are not rebuilt; N = 2, L = 1
abbrev pub values : Function
values = over (record { bank = 0; cost = 2; class = 1 } ∷ fixed 0 ∷ fixed 0 ∷ []) 2 1

-- r0 to r1, with r5 and r6 free
abbrev pub one : Patch
one = patch (5 ∷ 6 ∷ 7 ∷ []) (move (reg 0) (reg 1) 0 ∷ [])

-- the same with r7 free too
abbrev pub spare : Patch
spare = patch (5 ∷ 6 ∷ 7 ∷ 8 ∷ []) (move (reg 0) (reg 1) 0 ∷ [])

-- the first beside r2 to r0 and r3 to r4
abbrev pub three : Patch
three = patch (5 ∷ 6 ∷ 7 ∷ []) (move (reg 0) (reg 1) 0 ∷ move (reg 2) (reg 0) 1 ∷ move (reg 3) (reg 4) 2 ∷ [])

-- slot 0 to slot 1
abbrev pub stored : Patch
stored = patch (5 ∷ 6 ∷ 7 ∷ []) (move (slot 0) (slot 1) 1 ∷ [])

-- one word for each value
abbrev pub words : ℕ → ℕ → ℕ → ℕ → List ℕ
words a b c zero = a ∷ []
words a b c (suc zero) = b ∷ []
words a b c (suc (suc v)) = c ∷ []

-- the words of the units, the list of r7, and slots 0 and 1; the other units hold 0 and the other slots nothing
abbrev pub holding : List ℕ → List ℕ → List ℕ → Memory
holding ws x y = record { word = λ u. get_or ws u 0; lists = updated 8 (80 ∷ 81 ∷ []) (updated 512 x (updated 513 y (λ u. []))) }

-- 70 in r0, and every other unit and slot holds something else
abbrev pub start : Memory
start = holding (70 ∷ 1 ∷ 71 ∷ 72 ∷ 4 ∷ 5 ∷ 6 ∷ 7 ∷ []) (71 ∷ []) (9 ∷ [])

-- from a start where every kept source holds its value's content a list within the bound goes wrong
pub record Wrong (p : Patch) (content : ℕ → List ℕ) (start : Memory) (es : List Edit) : Type 0 where
  pub whole : Contents seven values content
  pub holds : Holding seven values p content start
  pub within : length es ≤ bound (sorted seven values p)
  pub not_right : RightFrom seven values p content start es → ⊥

abbrev pub plainly : Patch → List Edit → Type 0
plainly p es = Wrong p (words 70 71 72) start es

abbrev pub among : List Edit → Type 0
among es = Wrong three (words 70 71 72) start es

abbrev pub right : Edit
right = Move (reg 1) (reg 0) 0

pub record NotAccepted : Type 0 where
  -- target, function and patches are accepted, and these are the rules' edits
  pub target-taken : target.Accepted seven
  pub function-taken : function.Accepted seven values
  pub one-taken : Gives (resolve seven values one 8 empty_cache) (right ∷ []) 0 []
  pub three-taken : Gives (resolve seven values three 24 empty_cache) (Move (reg 4) (reg 3) 2 ∷ right ∷ Move (reg 0) (reg 2) 1 ∷ []) 0 []
  pub stored-taken : Gives (resolve seven values stored 8 empty_cache) (EmergencySpill 2 2 ∷ Move (reg 2) (slot 0) 1 ∷ Move (slot 1) (reg 2) 1 ∷ EmergencyReload 2 2 ∷ []) 1 (2 ∷ [])
  -- also writes a foreign register
  pub foreign-register : plainly one (right ∷ Move (reg 2) (reg 0) 0 ∷ [])
  -- also writes a foreign argument word
  pub foreign-word : plainly one (right ∷ Move (reg 7) (reg 0) 0 ∷ [])
  -- also writes a foreign slot
  pub foreign-slot : plainly one (right ∷ Move (slot 1) (reg 0) 0 ∷ [])
  -- overwrites a kept source that is no destination, once its value stands elsewhere
  pub source-overwritten : plainly one (right ∷ Move (reg 0) (reg 2) 0 ∷ [])
  -- the same of a slot
  pub source-slot-overwritten :
      plainly stored (EmergencySpill 2 2 ∷ Move (reg 2) (slot 0) 1 ∷ Move (slot 1) (reg 2) 1 ∷ EmergencyReload 2 2 ∷ Move (slot 0) (reg 0) 0 ∷ [])
  -- leaves a register waiting
  pub left-waiting : plainly one (EmergencySpill 2 2 ∷ right ∷ [])
  -- what was saved is lost in the slot, so that the reload brings other words; mended before the end
  pub saved-lost : plainly one (EmergencySpill 2 2 ∷ Move (slot 2) (reg 0) 0 ∷ EmergencyReload 2 2 ∷ Move (reg 2) (slot 0) 1 ∷ right ∷ [])
  -- value 0 is for one stop nowhere but in r1, which waits and so counts as holding what was saved
  pub waiting-lost : among (EmergencySpill 2 1 ∷ right ∷ Move (reg 0) (reg 2) 1 ∷ Move (slot 3) (reg 1) 0 ∷ EmergencyReload 1 2 ∷ Move (reg 1) (slot 3) 0 ∷ Move (reg 4) (reg 3) 2 ∷ [])
  -- the same of a register that was saved before another, while both wait (02 i: "All saved words count when the machine is stopped.")
  pub earlier-lost : among (EmergencySpill 2 1 ∷ EmergencySpill 3 3 ∷ right ∷ Move (reg 0) (reg 2) 1 ∷ Move (slot 4) (reg 1) 0 ∷ EmergencyReload 3 3 ∷ EmergencyReload 1 2 ∷ Move (reg 1) (slot 4) 0 ∷ Move (reg 4) (reg 3) 2 ∷ [])
  -- the empty list
  pub empty : plainly one []
  -- loses value 0 at the first edit and rebuilds it at the second, while its words stand in slot 1 by chance
  pub lost-to-chance : Wrong three (words 70 71 72) (holding (70 ∷ 1 ∷ 71 ∷ 72 ∷ 4 ∷ 5 ∷ 6 ∷ 7 ∷ []) (71 ∷ []) (70 ∷ [])) (Move (reg 0) (reg 2) 1 ∷ Rematerialize (reg 1) 0 ∷ Move (reg 4) (reg 3) 2 ∷ [])
  -- the same while they stand in r3, a source of another value
  pub lost-to-another : Wrong three (words 70 71 70) (holding (70 ∷ 1 ∷ 71 ∷ 70 ∷ 4 ∷ 5 ∷ 6 ∷ 7 ∷ []) (71 ∷ []) (9 ∷ [])) (Move (reg 0) (reg 2) 1 ∷ Rematerialize (reg 1) 0 ∷ Move (reg 4) (reg 3) 2 ∷ [])
  -- the same while r5, which waits, counts as holding them: r5 was written, but with others, and slot 2, which was written with them, has others now
  pub written-otherwise :
      Wrong three (words 70 71 72) (holding (70 ∷ 1 ∷ 71 ∷ 72 ∷ 4 ∷ 70 ∷ 6 ∷ 7 ∷ []) (71 ∷ []) (9 ∷ []))
      (EmergencySpill 2 5 ∷ Move (slot 2) (reg 2) 1 ∷ Move (reg 5) (reg 2) 1 ∷ Move (reg 0) (reg 2) 1
      ∷ Rematerialize (reg 1) 0 ∷ Move (reg 4) (reg 3) 2 ∷ EmergencyReload 5 2 ∷ [])
  -- memory to memory: slot to slot, an argument word to a slot, a slot to an argument word
  pub memory-to-memory : plainly stored (Move (slot 1) (slot 0) 1 ∷ [])
  pub word-to-slot : plainly one (right ∷ Move (slot 2) (reg 7) 0 ∷ [])
  pub slot-to-word : plainly spare (right ∷ Move (reg 7) (slot 0) 1 ∷ [])
  -- a move into a register of another length
  pub another-length : plainly one (right ∷ Move (reg 6) (reg 0) 0 ∷ [])
  -- a reload of another length
  pub reload-of-another-length : plainly one (right ∷ Move (slot 2) (reg 0) 0 ∷ EmergencyReload 6 2 ∷ [])
  -- a rebuild outside its class
  pub outside-its-class : plainly one (right ∷ Rematerialize (reg 5) 0 ∷ [])
  -- a rebuild of a value that can't be rebuilt
  pub not-rebuildable : plainly one (right ∷ Rematerialize (reg 5) 1 ∷ [])
  -- "its units then count as holding what was saved", not what the slot holds
  pub counts-as-saved : (s : Machine) × (steps seven values (words 70 71 72) (EmergencySpill 2 2 ∷ Move (slot 2) (reg 0) 0 ∷ []) (begin start) ≡ some s) × (read seven values (seen seven values s) (reg 2) ≡ 71 ∷ [])
  -- writes the slot of a waiting register and mends it before the reload: no stop is wrong, but meanwhile the slot does not hold what was saved
  pub not-kept : Accepted seven values one (EmergencySpill 2 2 ∷ Move (slot 2) (reg 0) 0 ∷ Move (slot 2) (reg 2) 0 ∷ EmergencyReload 2 2 ∷ right ∷ []) → ⊥
  -- with an argument word the machine is not as before 02 b: what r7 holds, what moves into it, what is seen of it while it waits
  pub not-as-held : HoldsAs seven values (words 70 71 72) start (reg 7) → ⊥
  pub not-as-done : DoesAs seven values (words 70 71 72) (Move (slot 1) (reg 7) 0) (begin start) → ⊥
  pub not-all-as-done : AllAs seven values (words 70 71 72) (right ∷ Move (slot 1) (reg 7) 0 ∷ []) (begin start) → ⊥
  pub not-as-seen :
      SeenAs seven values (words 70 71 72) (record { memory = start; waiting = record { reg = 7; slot = 2; words = 9 ∷ 9 ∷ [] } ∷ []; written = [] }) → ⊥
  -- one edit over the bound
  pub over-the-bound : Accepted seven values one (replicate 9 right) → ⊥
