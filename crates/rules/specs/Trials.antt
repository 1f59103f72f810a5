-- 01, Trial patches: the target of swap-full with the patches that are marked there, and patches that tell the rules from others.
use Rattle.std.specs.Prelude.{ℕ, ◌≡◌, List, [], ◌∷◌, map}
use Rattle.entity.specs.Logic.{indices}
use Rattle.entity.specs.Place.{reg, slot}
use Rattle.reginfo.specs.RegInfo.{Reg, RegInfo}
use Rattle.reginfo.specs.Refused as target
use Rattle.function.specs.Function.{ValueData, Function}
use Rattle.rules.specs.Edit.{Edit, Move, Rematerialize, EmergencySpill, EmergencyReload, updated}
use Rattle.rules.specs.Scratch.{Cache, empty_cache}
use Rattle.rules.specs.Patch.{Entry, move, remat, Patch, Answer, refused, resolved, resolve, cache_after}

-- "3 1 3 0 1 3 0 0 1 0 0 0 1 1 0 0 1 2 2 0 1 3 0 1 2 3 0 1 2 0 0 3 0 1 2 3 0 1 2": three registers of one unit, one bank
abbrev pub single : ℕ → Reg
single u = record { memory = 0; bank = 0; units = u ∷ [] }

unfoldable pub three : RegInfo
three =
    record {
      units = 3;
      banks = record { size = 3; top = 0; stack = 1 } ∷ [];
      regs = single 0 ∷ single 1 ∷ single 2 ∷ [];
      classes =
          record { bank = 0; slots = 1; members = 0 ∷ 1 ∷ 2 ∷ []; order = 0 ∷ 1 ∷ 2 ∷ [] }
          ∷ record { bank = 0; slots = 0; members = 0 ∷ 1 ∷ 2 ∷ []; order = 0 ∷ 1 ∷ 2 ∷ [] }
          ∷ [];
    }

-- two values, neither rebuildable; N and L; one eviction is kept
abbrev pub plain : ℕ → ℕ → Function
plain n l = record { values = record { bank = 0; cost = 0; class = 0 } ∷ record { bank = 0; cost = 0; class = 0 } ∷ []; slots = n; limit = l; kept = 1 }

-- value 0 of cost 2, rebuilt by the stack class
abbrev pub rematerializable : ℕ → ℕ → Function
rematerializable n l = record { values = record { bank = 0; cost = 2; class = 1 } ∷ record { bank = 0; cost = 0; class = 0 } ∷ []; slots = n; limit = l; kept = 1 }

abbrev pub patch : List ℕ → List Entry → Patch
patch free es = record { free = free; entries = es }

abbrev pub swap : List Entry
swap = move (reg 0) (reg 1) 0 ∷ move (reg 1) (reg 0) 1 ∷ []

-- what an answer tells: the number, or the edits, the slots made and the 32 stacks
pub data Told : Type 0 where
  number : ℕ → Told
  leaves : List Edit → ℕ → List (List ℕ) → Told

abbrev pub told : Answer → Told
told (refused n) = number n
told (resolved es c n) = leaves es c.made (map c.stacks (indices 0 32))

-- what an answer must be, as one equation, so that it is computed once
abbrev pub Leaves : Answer → List Edit → ℕ → (ℕ → List ℕ) → Type 0
Leaves r es made stacks = told r ≡ leaves es made (map stacks (indices 0 32))

-- the same, where all stacks but that of size 3 are empty
abbrev pub Gives : Answer → List Edit → ℕ → List ℕ → Type 0
Gives r es made stack = Leaves r es made (updated 3 stack (λ z. []))

-- one slot is made, of size z
abbrev pub one_made : ℕ → Cache
one_made z = record { stacks = updated z (0 ∷ []) (λ z. []); made = 1 }

pub record Trials : Type 0 where
  pub swap-full : Gives (resolve three (plain 0 1) (patch [] swap) 16 empty_cache) (Move (slot 0) (reg 1) 1 ∷ Move (reg 1) (reg 0) 0 ∷ Move (reg 0) (slot 0) 1 ∷ []) 1 (0 ∷ [])
  pub unit-free : Gives (resolve three (plain 0 1) (patch (2 ∷ []) swap) 16 empty_cache) (Move (reg 2) (reg 1) 1 ∷ Move (reg 1) (reg 0) 0 ∷ Move (reg 0) (reg 2) 1 ∷ []) 0 []
  pub chain : Gives (resolve three (plain 0 1) (patch [] (move (reg 0) (reg 1) 0 ∷ move (reg 1) (reg 2) 1 ∷ [])) 16 empty_cache) (Move (reg 2) (reg 1) 1 ∷ Move (reg 1) (reg 0) 0 ∷ []) 0 []
  pub slot-to-slot : Gives (resolve three (plain 2 1) (patch [] (move (slot 0) (slot 1) 0 ∷ [])) 8 empty_cache) (EmergencySpill 2 2 ∷ Move (reg 2) (slot 0) 0 ∷ Move (slot 1) (reg 2) 0 ∷ EmergencyReload 2 2 ∷ []) 1 (2 ∷ [])
  pub slots-swapped :
      Gives (resolve three (plain 2 2) (patch [] (move (slot 0) (slot 1) 0 ∷ move (slot 1) (slot 0) 1 ∷ [])) 16 empty_cache)
      (EmergencySpill 3 2 ∷ Move (reg 2) (slot 1) 1 ∷ Move (slot 2) (reg 2) 1 ∷ Move (reg 2) (slot 0) 0 ∷ Move (slot 1) (reg 2) 0 ∷ Move (reg 2) (slot 2) 1 ∷ Move (slot 0) (reg 2) 1 ∷ EmergencyReload 2 3 ∷ []) 2 (3 ∷ 2 ∷ [])
  pub rebuild : Gives (resolve three (rematerializable 1 1) (patch [] (remat (slot 0) 0 ∷ [])) 5 empty_cache) (EmergencySpill 1 2 ∷ Rematerialize (reg 2) 0 ∷ Move (slot 0) (reg 2) 0 ∷ EmergencyReload 2 1 ∷ []) 1 (1 ∷ [])
  pub no-entries : Gives (resolve three (plain 0 1) (patch [] []) 0 empty_cache) [] 0 []
  pub twice : Gives (resolve three (plain 0 1) (patch [] (move (reg 0) (reg 1) 0 ∷ move (reg 0) (reg 1) 0 ∷ [])) 8 empty_cache) (Move (reg 1) (reg 0) 0 ∷ []) 0 []
  pub no-slot : resolve three (plain 0 0) (patch [] swap) 16 empty_cache ≡ refused 17
  -- L = 1 is reached, and the slot made is of another size
  pub no-slot-cache : (resolve three (plain 0 1) (patch [] swap) 16 (one_made 2) ≡ refused 17) × (cache_after (one_made 2) (resolve three (plain 0 1) (patch [] swap) 16 (one_made 2)) ≡ one_made 2)

-- a bank whose top-level class is slots alone, and whose stack class is register 0
abbrev pub paired : ℕ → List Reg → RegInfo
paired n rs =
    record {
      units = n;
      banks = record { size = 3; top = 0; stack = 1 } ∷ [];
      regs = rs;
      classes = record { bank = 0; slots = 1; members = []; order = [] } ∷ record { bank = 0; slots = 0; members = 0 ∷ []; order = 0 ∷ [] } ∷ [];
    }

abbrev pub pair : ℕ → ℕ → Reg
pair u x = record { memory = 0; bank = 0; units = u ∷ x ∷ [] }

-- r0 and r1 share unit 1
unfoldable pub chained : RegInfo
chained = paired 3 (pair 0 1 ∷ pair 1 2 ∷ [])

-- r3 lies half on r0, and r1 on the other half
unfoldable pub five : RegInfo
five = paired 7 (pair 0 1 ∷ pair 1 2 ∷ pair 2 3 ∷ pair 0 4 ∷ pair 5 6 ∷ [])

-- r0 and r1 share no unit; r5 and r3 lie half on r0, r4 and r2 half on r1
unfoldable pub six : RegInfo
six = paired 8 (pair 0 1 ∷ pair 2 3 ∷ pair 3 4 ∷ pair 1 5 ∷ pair 2 6 ∷ pair 0 7 ∷ [])

-- r0 of bank 0 lies on half of r1 of bank 1
unfoldable pub halves : RegInfo
halves =
    record {
      units = 2;
      banks = record { size = 2; top = 0; stack = 1 } ∷ record { size = 3; top = 2; stack = 3 } ∷ [];
      regs = record { memory = 0; bank = 0; units = 1 ∷ [] } ∷ record { memory = 0; bank = 1; units = 0 ∷ 1 ∷ [] } ∷ [];
      classes =
          record { bank = 0; slots = 1; members = []; order = [] }
          ∷ record { bank = 0; slots = 0; members = 0 ∷ []; order = 0 ∷ [] }
          ∷ record { bank = 1; slots = 1; members = []; order = [] }
          ∷ record { bank = 1; slots = 0; members = 1 ∷ []; order = 1 ∷ [] }
          ∷ [];
    }

-- r0 and r1 of bank 0 share unit 1, which is r2 of bank 1
unfoldable pub between : RegInfo
between =
    record {
      units = 3;
      banks = record { size = 3; top = 0; stack = 1 } ∷ record { size = 3; top = 2; stack = 3 } ∷ [];
      regs = pair 0 1 ∷ pair 1 2 ∷ record { memory = 0; bank = 1; units = 1 ∷ [] } ∷ [];
      classes =
          record { bank = 0; slots = 1; members = []; order = [] }
          ∷ record { bank = 0; slots = 0; members = 0 ∷ []; order = 0 ∷ [] }
          ∷ record { bank = 1; slots = 1; members = []; order = [] }
          ∷ record { bank = 1; slots = 0; members = 2 ∷ []; order = 2 ∷ [] }
          ∷ [];
    }

-- r0 and r1 of bank 0, with slots of size 3, r2 and r3 of bank 1, with slots of size 2
unfoldable pub sizes : RegInfo
sizes =
    record {
      units = 4;
      banks = record { size = 3; top = 0; stack = 1 } ∷ record { size = 2; top = 2; stack = 3 } ∷ [];
      regs = single 0 ∷ single 1 ∷ record { memory = 0; bank = 1; units = 2 ∷ [] } ∷ record { memory = 0; bank = 1; units = 3 ∷ [] } ∷ [];
      classes =
          record { bank = 0; slots = 1; members = []; order = [] }
          ∷ record { bank = 0; slots = 0; members = 0 ∷ []; order = 0 ∷ [] }
          ∷ record { bank = 1; slots = 1; members = []; order = [] }
          ∷ record { bank = 1; slots = 0; members = 2 ∷ []; order = 2 ∷ [] }
          ∷ [];
    }

-- three, with a class of slots alone
unfoldable pub slots_alone : RegInfo
slots_alone =
    record {
      units = 3;
      banks = record { size = 3; top = 0; stack = 1 } ∷ [];
      regs = single 0 ∷ single 1 ∷ single 2 ∷ [];
      classes =
          record { bank = 0; slots = 1; members = 0 ∷ 1 ∷ 2 ∷ []; order = 0 ∷ 1 ∷ 2 ∷ [] }
          ∷ record { bank = 0; slots = 0; members = 0 ∷ 1 ∷ 2 ∷ []; order = 0 ∷ 1 ∷ 2 ∷ [] }
          ∷ record { bank = 0; slots = 1; members = []; order = [] }
          ∷ [];
    }

-- r2 is memory
unfoldable pub memory : RegInfo
memory =
    record {
      units = 3;
      banks = record { size = 3; top = 0; stack = 1 } ∷ [];
      regs = single 0 ∷ single 1 ∷ record { memory = 1; bank = 0; units = 2 ∷ [] } ∷ [];
      classes =
          record { bank = 0; slots = 1; members = 0 ∷ 1 ∷ 2 ∷ []; order = 0 ∷ 1 ∷ [] }
          ∷ record { bank = 0; slots = 0; members = 0 ∷ 1 ∷ []; order = 0 ∷ 1 ∷ [] }
          ∷ [];
    }

-- the stack class has r0 and r1, but only r1 in its order; r0 is a class of its own
unfoldable pub short_order : RegInfo
short_order =
    record {
      units = 2;
      banks = record { size = 3; top = 0; stack = 1 } ∷ [];
      regs = single 0 ∷ single 1 ∷ [];
      classes =
          record { bank = 0; slots = 1; members = []; order = [] }
          ∷ record { bank = 0; slots = 0; members = 0 ∷ 1 ∷ []; order = 1 ∷ [] }
          ∷ record { bank = 0; slots = 0; members = 0 ∷ []; order = 0 ∷ [] }
          ∷ [];
    }

abbrev pub triple : ℕ → ℕ → ℕ → Reg
triple u x y = record { memory = 0; bank = 0; units = u ∷ x ∷ y ∷ [] }

-- r7, r5 and r3 lie on a third each of r0; r2, r4 and r6 on a third each of r1
unfoldable pub eight : RegInfo
eight =
    paired 18
    (triple 0 1 2 ∷ triple 3 4 5 ∷ triple 3 6 7 ∷ triple 2 8 9 ∷ triple 4 10 11 ∷ triple 1 12 13 ∷ triple 5 14 15 ∷ triple 0 16 17 ∷ [])

abbrev pub fixed : ℕ → ValueData
fixed b = record { bank = b; cost = 0; class = 0 }

-- of cost 2, rebuilt by the class
abbrev pub remat_value : ℕ → ValueData
remat_value c = record { bank = 0; cost = 2; class = c }

-- a function of these values; N and L
abbrev pub over : List ValueData → ℕ → ℕ → Function
over vs n l = record { values = vs; slots = n; limit = l; kept = 1 }

-- One patch for each of 01's temptations, and for other rules that are easily taken for these. The edits are those of the original.
pub record ToldApart : Type 0 where
  -- no target of a trial is refused
  pub targets : target.Accepted three × target.Accepted chained × target.Accepted five × target.Accepted six × target.Accepted halves × target.Accepted between × target.Accepted sizes × target.Accepted slots_alone × target.Accepted memory × target.Accepted eight × target.Accepted short_order
  -- "testing for a cycle before closing the move itself, so that a source overlapping its own destination is diverted"
  pub closed-first : Gives (resolve chained (over (fixed 0 ∷ []) 0 1) (patch [] (move (reg 0) (reg 1) 0 ∷ [])) 8 empty_cache) (Move (reg 1) (reg 0) 0 ∷ []) 0 []
  -- "a diversion into a register that some kept move reads": unit 2 is free, and r2 is moved
  pub sources-spared :
      Gives (resolve three (over (fixed 0 ∷ fixed 0 ∷ fixed 0 ∷ []) 1 1) (patch (2 ∷ []) (move (reg 0) (reg 1) 0 ∷ move (reg 1) (reg 0) 1 ∷ move (reg 2) (slot 0) 2 ∷ [])) 24 empty_cache)
      (Move (slot 0) (reg 2) 2 ∷ Move (slot 1) (reg 1) 1 ∷ Move (reg 1) (reg 0) 0 ∷ Move (reg 0) (slot 1) 1 ∷ []) 1 (1 ∷ [])
  -- "an available register counted as unsafe because it overlaps the evicted one": r0 is free, and lies on the evicted r1
  pub scratch-on-evicted :
      Gives (resolve halves (over (fixed 1 ∷ fixed 0 ∷ []) 4 2) (patch (1 ∷ []) (move (slot 0) (slot 1) 0 ∷ move (slot 2) (slot 3) 1 ∷ [])) 16 empty_cache)
      (EmergencySpill 4 1 ∷ Move (reg 0) (slot 2) 1 ∷ Move (slot 3) (reg 0) 1 ∷ Move (reg 1) (slot 0) 0 ∷ Move (slot 1) (reg 1) 0 ∷ EmergencyReload 1 4 ∷ []) 1 (4 ∷ [])
  -- "a diversion ended at its first writer when it has two"
  pub two-writers :
      Gives (resolve five (over (fixed 0 ∷ fixed 0 ∷ fixed 0 ∷ []) 0 1) (patch [] (move (reg 2) (reg 3) 0 ∷ move (reg 4) (reg 1) 1 ∷ move (reg 0) (reg 4) 2 ∷ [])) 24 empty_cache)
      (Move (slot 0) (reg 0) 2 ∷ Move (reg 3) (reg 2) 0 ∷ Move (reg 1) (reg 4) 1 ∷ Move (reg 4) (slot 0) 2 ∷ []) 1 (0 ∷ [])
  -- a joined diversion that doesn't count its own writers: r2 is diverted because of the move to r1, then r0 because of that to r5
  pub join-counts :
      Gives (resolve six (plain 0 1) (patch [] (move (reg 4) (reg 5) 1 ∷ move (reg 0) (reg 1) 0 ∷ move (reg 2) (reg 3) 0 ∷ [])) 24 empty_cache)
      (Move (slot 0) (reg 2) 0 ∷ Move (reg 5) (reg 4) 1 ∷ Move (reg 1) (slot 0) 0 ∷ Move (reg 3) (slot 0) 0 ∷ []) 1 (0 ∷ [])
  -- a joined diversion that takes the newer source: r2, then r4, are diverted because of the move to r1
  pub join-keeps-source :
      Gives (resolve six (plain 0 1) (patch [] (move (reg 0) (reg 1) 1 ∷ move (reg 2) (reg 3) 0 ∷ move (reg 4) (reg 5) 0 ∷ [])) 24 empty_cache)
      (Move (slot 0) (reg 2) 0 ∷ Move (reg 1) (reg 0) 1 ∷ Move (reg 5) (slot 0) 0 ∷ Move (reg 3) (slot 0) 0 ∷ []) 1 (0 ∷ [])
  -- a rebuild's scratch made available: r2 is evicted for the rebuild into slot 0, and r0 and r1 are not swapped through it
  pub scratch-unavailable :
      Gives (resolve three (over (fixed 0 ∷ remat_value 1 ∷ []) 2 2) (patch [] (move (reg 0) (reg 1) 0 ∷ move (reg 1) (reg 0) 1 ∷ move (slot 1) (slot 0) 1 ∷ [])) 21 empty_cache)
      (EmergencySpill 2 2 ∷ Move (slot 3) (reg 1) 1 ∷ Move (reg 1) (reg 0) 0 ∷ Move (reg 0) (slot 3) 1 ∷ Rematerialize (reg 2) 1 ∷ Move (slot 0) (reg 2) 1 ∷ EmergencyReload 2 2 ∷ []) 2 (2 ∷ 3 ∷ [])
  -- the destination made available after the source is made unavailable: r2, where r0 and r1 overlap, is not to be had
  pub source-last :
      Gives (resolve between (over (fixed 0 ∷ fixed 1 ∷ []) 2 1) (patch [] (move (reg 0) (reg 1) 0 ∷ move (slot 0) (slot 1) 1 ∷ [])) 16 empty_cache)
      (EmergencySpill 2 2 ∷ Move (reg 2) (slot 0) 1 ∷ Move (slot 1) (reg 2) 1 ∷ EmergencyReload 2 2 ∷ Move (reg 1) (reg 0) 0 ∷ []) 1 (2 ∷ [])
  -- no bringing back for the source: r2 is evicted, then read
  pub source-brought-back :
      Gives (resolve three (plain 3 1) (patch [] (move (slot 0) (slot 1) 0 ∷ move (reg 2) (slot 2) 1 ∷ [])) 16 empty_cache)
      (Move (slot 2) (reg 2) 1 ∷ EmergencySpill 3 2 ∷ Move (reg 2) (slot 0) 0 ∷ Move (slot 1) (reg 2) 0 ∷ EmergencyReload 2 3 ∷ []) 1 (3 ∷ [])
  -- 17 given while the stack is not empty: swap-full twice, L = 1
  pub stack-first :
      Gives (resolve three (plain 0 1) (patch [] swap) 16 (cache_after empty_cache (resolve three (plain 0 1) (patch [] swap) 16 empty_cache)))
      (Move (slot 0) (reg 1) 1 ∷ Move (reg 1) (reg 0) 0 ∷ Move (reg 0) (slot 0) 1 ∷ []) 1 (0 ∷ [])
  -- the last usable register of an order: units 1 and 2 are free
  pub first-usable : Gives (resolve three (plain 2 1) (patch (1 ∷ 2 ∷ []) (move (slot 0) (slot 1) 0 ∷ [])) 8 empty_cache) (Move (reg 1) (slot 0) 0 ∷ Move (slot 1) (reg 1) 0 ∷ []) 0 []
  -- rebuilds in the order of the entries: "Edits are made backwards"
  pub rebuilds-backwards :
      Gives (resolve three (over (remat_value 1 ∷ remat_value 1 ∷ []) 0 1) (patch [] (remat (reg 0) 0 ∷ remat (reg 1) 1 ∷ [])) 2 empty_cache) (Rematerialize (reg 1) 1 ∷ Rematerialize (reg 0) 0 ∷ []) 0 []
  -- values let go in another order than received: the move to r1 carries value 1, then value 2
  pub let-go-as-received :
      Gives (resolve six (over (fixed 0 ∷ fixed 0 ∷ fixed 0 ∷ []) 0 2) (patch [] (move (reg 0) (reg 1) 0 ∷ move (reg 2) (reg 3) 1 ∷ move (reg 4) (reg 5) 2 ∷ [])) 24 empty_cache)
      (Move (slot 1) (reg 4) 2 ∷ Move (slot 0) (reg 2) 1 ∷ Move (reg 1) (reg 0) 0 ∷ Move (reg 5) (slot 1) 2 ∷ Move (reg 3) (slot 0) 1 ∷ []) 2 (1 ∷ 0 ∷ [])
  -- the slot taken before the evicted register is brought back: r0, then r2 is evicted
  pub brought-back-first :
      Gives (resolve between (over (fixed 0 ∷ fixed 1 ∷ []) 4 2) (patch [] (move (slot 0) (slot 1) 0 ∷ move (slot 2) (slot 3) 1 ∷ [])) 16 empty_cache)
      (EmergencySpill 4 2 ∷ Move (reg 2) (slot 2) 1 ∷ Move (slot 3) (reg 2) 1 ∷ EmergencyReload 2 4 ∷ EmergencySpill 4 0 ∷ Move (reg 0) (slot 0) 0 ∷ Move (slot 1) (reg 0) 0 ∷ EmergencyReload 0 4 ∷ []) 1 (4 ∷ [])
  -- a slot of bank 0's size for a value of another bank, taken or put back: slot 0 is of size 3, and r2 and r3 are swapped
  pub slot-of-its-bank :
      Leaves (resolve sizes (over (fixed 0 ∷ fixed 0 ∷ fixed 1 ∷ fixed 1 ∷ []) 0 2) (patch [] (move (reg 2) (reg 3) 2 ∷ move (reg 3) (reg 2) 3 ∷ [])) 16 (one_made 3))
      (Move (slot 1) (reg 3) 3 ∷ Move (reg 3) (reg 2) 2 ∷ Move (reg 2) (slot 1) 3 ∷ []) 2 (updated 2 (1 ∷ []) (updated 3 (0 ∷ []) (λ z. [])))
  -- a rebuild that leaves its destination unavailable: r0 and r1 are swapped through r2
  pub rebuilt-available :
      Gives (resolve three (over (fixed 0 ∷ fixed 0 ∷ remat_value 1 ∷ []) 0 1) (patch [] (move (reg 0) (reg 1) 0 ∷ move (reg 1) (reg 0) 1 ∷ remat (reg 2) 2 ∷ [])) 17 empty_cache)
      (Move (reg 2) (reg 1) 1 ∷ Move (reg 1) (reg 0) 0 ∷ Move (reg 0) (reg 2) 1 ∷ Rematerialize (reg 2) 2 ∷ []) 0 []
  -- the same of a rebuild with scratch
  pub rebuilt-by-scratch-available :
      Gives (resolve slots_alone (over (fixed 0 ∷ fixed 0 ∷ remat_value 2 ∷ []) 0 2) (patch [] (move (reg 0) (reg 1) 0 ∷ move (reg 1) (reg 0) 1 ∷ remat (reg 2) 2 ∷ [])) 21 empty_cache)
      (Move (reg 2) (reg 1) 1 ∷ Move (reg 1) (reg 0) 0 ∷ Move (reg 0) (reg 2) 1 ∷ Rematerialize (slot 0) 2 ∷ Move (reg 2) (slot 0) 2 ∷ []) 1 (0 ∷ [])
  -- a memory register read like another, its value being rebuilt more cheaply than loaded
  pub memory-rebuilt : Gives (resolve memory (over (remat_value 1 ∷ []) 0 1) (patch [] (move (reg 2) (reg 0) 0 ∷ [])) 1 empty_cache) (Rematerialize (reg 0) 0 ∷ []) 0 []
  -- a value counted for each unit that its writer writes: r0 and r1 of two units are swapped
  pub writer-counted-once :
      Gives (resolve six (plain 0 1) (patch [] swap) 16 empty_cache) (Move (slot 0) (reg 1) 1 ∷ Move (reg 1) (reg 0) 0 ∷ Move (reg 0) (slot 0) 1 ∷ []) 1 (0 ∷ [])
  -- a value carried twice by one writer: the move to r1 carries value 1 and value 2, and is in the way of value 1 again
  pub received-once :
      Gives (resolve eight (over (fixed 0 ∷ fixed 0 ∷ fixed 0 ∷ []) 0 2) (patch [] (move (reg 0) (reg 1) 0 ∷ move (reg 2) (reg 3) 1 ∷ move (reg 4) (reg 5) 2 ∷ move (reg 6) (reg 7) 1 ∷ [])) 32 empty_cache)
      (Move (slot 1) (reg 4) 2 ∷ Move (slot 0) (reg 2) 1 ∷ Move (reg 1) (reg 0) 0 ∷ Move (reg 7) (slot 0) 1 ∷ Move (reg 5) (slot 1) 2 ∷ Move (reg 3) (slot 0) 1 ∷ []) 2 (1 ∷ 0 ∷ [])
  -- a move dropped that differs from a kept one in its destination
  pub fan-out : Gives (resolve three (plain 0 1) (patch [] (move (reg 0) (reg 1) 0 ∷ move (reg 0) (reg 2) 0 ∷ [])) 16 empty_cache) (Move (reg 2) (reg 0) 0 ∷ Move (reg 1) (reg 0) 0 ∷ []) 0 []
  -- a move held against the last kept one alone: the third equals the first
  pub fan-out-repeated :
      Gives (resolve three (plain 0 1) (patch [] (move (reg 0) (reg 1) 0 ∷ move (reg 0) (reg 2) 0 ∷ move (reg 0) (reg 1) 0 ∷ [])) 16 empty_cache) (Move (reg 2) (reg 0) 0 ∷ Move (reg 1) (reg 0) 0 ∷ []) 0 []
  -- a move dropped that differs from a kept one in its source
  pub sources-differ : resolve three (plain 0 1) (patch [] (move (reg 0) (reg 2) 0 ∷ move (reg 1) (reg 2) 0 ∷ [])) 16 empty_cache ≡ refused 12
  -- or in its value
  pub values-differ : resolve three (plain 0 1) (patch [] (move (reg 0) (reg 2) 0 ∷ move (reg 0) (reg 2) 1 ∷ [])) 16 empty_cache ≡ refused 12
  -- an evicted register taken again only where the order has it: "the evicted register if a member", here r0
  pub member-taken-again :
      Gives (resolve short_order (over (remat_value 2 ∷ remat_value 1 ∷ []) 2 1) (patch [] (remat (slot 0) 0 ∷ remat (slot 1) 1 ∷ [])) 10 empty_cache)
      (EmergencySpill 2 0 ∷ Rematerialize (reg 0) 1 ∷ Move (slot 1) (reg 0) 1 ∷ Rematerialize (reg 0) 0 ∷ Move (slot 0) (reg 0) 0 ∷ EmergencyReload 0 2 ∷ [])
      1 (2 ∷ [])
