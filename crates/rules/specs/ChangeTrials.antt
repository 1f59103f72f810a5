-- Trials of 02 c, h, b, d and i: patches with the edits that their rules give.
use Rattle.std.specs.Prelude.{ℕ, ◌≡◌, List, [], ◌∷◌}
use Rattle.std.proofs.Math.Option.{none, some}
use Rattle.entity.specs.Logic.{indices}
use Rattle.entity.specs.Place.{reg, slot}
use Rattle.reginfo.specs.RegInfo.{Reg, Class, RegInfo}
use Rattle.reginfo.specs.Refused as target
use Rattle.function.specs.Function.{ValueData, Function}
use Rattle.function.specs.Refused as function
use Rattle.rules.specs.Edit.{Edit, Move, Rematerialize, EmergencySpill, EmergencyReload, updated}
use Rattle.rules.specs.Scratch.{empty_cache}
use Rattle.rules.specs.Patch.{Entry, move, remat, Answer, refused, resolved, resolve}
use Rattle.rules.specs.Trials.{Gives, Leaves, fixed, over, pair, paired, patch, plain, remat_value, single, swap, three}

-- ---- 02 c, overlap by the other list: r1 of bank 1 lists unit 0, which is r0's, behind unit 1; bank 0's stack class is register c
abbrev pub crossed : ℕ → RegInfo
crossed c =
    record {
      units = 3;
      banks = record { size = 3; top = 0; stack = 1 } ∷ record { size = 3; top = 2; stack = 3 } ∷ [];
      regs = single 0 ∷ record { memory = 0; bank = 1; units = 1 ∷ 0 ∷ [] } ∷ single 2 ∷ [];
      classes =
          record { bank = 0; slots = 1; members = []; order = [] }
          ∷ record { bank = 0; slots = 0; members = c ∷ []; order = c ∷ [] }
          ∷ record { bank = 1; slots = 1; members = []; order = [] }
          ∷ record { bank = 1; slots = 0; members = 1 ∷ []; order = 1 ∷ [] }
          ∷ [];
    }

-- r0 and r1 share unit 1, the second of both; the stack class is r1
abbrev pub ends : RegInfo
ends =
    record {
      units = 3;
      banks = record { size = 3; top = 0; stack = 1 } ∷ [];
      regs = pair 0 1 ∷ pair 2 1 ∷ [];
      classes = record { bank = 0; slots = 1; members = []; order = [] } ∷ record { bank = 0; slots = 0; members = 1 ∷ []; order = 1 ∷ [] } ∷ [];
    }

-- the unit that is shared is not the first of the list walked
pub record Overlaps : Type 0 where
  pub targets : target.Accepted (crossed 2) × target.Accepted (crossed 0) × target.Accepted ends
  -- r1 is evicted and brought back for r0, which is read
  pub wider-evicted :
      Gives (resolve (crossed 2) (over (fixed 0 ∷ fixed 1 ∷ []) 3 2) (patch [] (move (slot 0) (slot 1) 1 ∷ move (reg 0) (slot 2) 0 ∷ [])) 16 empty_cache)
      (Move (slot 2) (reg 0) 0 ∷ EmergencySpill 3 1 ∷ Move (reg 1) (slot 0) 1 ∷ Move (slot 1) (reg 1) 1 ∷ EmergencyReload 1 3 ∷ []) 1 (3 ∷ [])
  -- r0 is evicted and brought back for r1
  pub narrower-evicted :
      Gives (resolve (crossed 0) (over (fixed 0 ∷ fixed 1 ∷ []) 3 2) (patch [] (move (slot 0) (slot 1) 0 ∷ move (reg 1) (slot 2) 1 ∷ [])) 16 empty_cache)
      (Move (slot 2) (reg 1) 1 ∷ EmergencySpill 3 0 ∷ Move (reg 0) (slot 0) 0 ∷ Move (slot 1) (reg 0) 0 ∷ EmergencyReload 0 3 ∷ []) 1 (3 ∷ [])
  -- the order's last overlaps the destination of a rebuild with scratch
  pub last-overlaps : resolve ends (over (remat_value 1 ∷ []) 0 1) (patch [] (remat (reg 0) 0 ∷ [])) 8 empty_cache ≡ refused 14

-- ---- 02 h, overlapping sources: r0 to r5 of bank 0 are units 0 to 5; r6, r7 and r8 of bank 1 are two of them each
abbrev pub of_bank_one : ℕ → ℕ → Reg
of_bank_one u x = record { memory = 0; bank = 1; units = u ∷ x ∷ [] }

unfoldable pub doubled : RegInfo
doubled =
    record {
      units = 6;
      banks = record { size = 2; top = 0; stack = 1 } ∷ record { size = 3; top = 2; stack = 3 } ∷ [];
      regs = single 0 ∷ single 1 ∷ single 2 ∷ single 3 ∷ single 4 ∷ single 5 ∷ of_bank_one 0 1 ∷ of_bank_one 2 3 ∷ of_bank_one 4 5 ∷ [];
      classes =
          record { bank = 0; slots = 1; members = indices 0 6; order = indices 0 6 }
          ∷ record { bank = 0; slots = 0; members = indices 0 6; order = indices 0 6 }
          ∷ record { bank = 1; slots = 1; members = indices 6 3; order = indices 6 3 }
          ∷ record { bank = 1; slots = 0; members = indices 6 3; order = indices 6 3 }
          ∷ [];
    }

-- values 0 and 1 of bank 0, 2 of bank 1, and 3 of bank 0, rebuilt more cheaply than moved; N = L = 2
abbrev pub of_doubled : List ℕ → List Entry → Answer
of_doubled free es = resolve doubled (over (fixed 0 ∷ fixed 0 ∷ fixed 1 ∷ record { bank = 0; cost = 1; class = 0 } ∷ []) 2 2) (patch free es) 24 empty_cache

-- a pair register, and half of it to a place of its own
abbrev pub whole : Entry
whole = move (reg 6) (reg 7) 2

abbrev pub half : Entry
half = move (reg 0) (reg 4) 0

abbrev pub NoSlots : List Edit → Answer → Type 0
NoSlots es r = Leaves r es 0 (λ z. [])

pub record Sources : Type 0 where
  pub target : target.Accepted doubled
  pub whole-then-half : of_doubled [] (whole ∷ half ∷ []) ≡ refused 21
  pub half-then-whole : of_doubled [] (half ∷ whole ∷ []) ≡ refused 21
  -- not the last kept alone
  pub with-any-kept : of_doubled [] (whole ∷ move (reg 4) (reg 5) 0 ∷ move (reg 1) (slot 0) 1 ∷ []) ≡ refused 21
  -- "Equal sources still pass, whatever their values."
  pub equal-sources : NoSlots (Move (reg 3) (reg 0) 1 ∷ Move (reg 2) (reg 0) 0 ∷ []) (of_doubled [] (move (reg 0) (reg 2) 0 ∷ move (reg 0) (reg 3) 1 ∷ []))
  -- "tested straight after 12": 12 of the same entry comes first, a later entry's 9 and the patch's 13 do not
  pub after-12 : of_doubled [] (whole ∷ move (reg 0) (reg 2) 0 ∷ []) ≡ refused 12
  pub before-9 : of_doubled [] (whole ∷ half ∷ move (reg 0) (reg 8) 2 ∷ []) ≡ refused 21
  pub before-13 : of_doubled (4 ∷ []) (whole ∷ half ∷ []) ≡ refused 21
  -- "a move entry that would be kept", "an earlier kept move": one that is rebuilt is neither
  pub rebuilt-then-whole : NoSlots (Move (reg 7) (reg 6) 2 ∷ Rematerialize (reg 4) 3 ∷ []) (of_doubled [] (move (reg 0) (reg 4) 3 ∷ whole ∷ []))
  pub whole-then-rebuilt : NoSlots (Move (reg 7) (reg 6) 2 ∷ Rematerialize (reg 4) 3 ∷ []) (of_doubled [] (whole ∷ move (reg 0) (reg 4) 3 ∷ []))
  -- destinations do not count: each half of r6 is written from a pair's half
  pub over-a-destination : NoSlots (Move (reg 7) (reg 6) 2 ∷ Move (reg 0) (reg 4) 0 ∷ []) (of_doubled [] (whole ∷ move (reg 4) (reg 0) 0 ∷ []))

-- ---- 02 b, argument words: r0 and r1 have two units each, the memory registers r2 and r3 one; the top-level class's order begins with r2
abbrev pub argument : ℕ → Reg
argument u = record { memory = 1; bank = 0; units = u ∷ [] }

abbrev pub arguments : RegInfo
arguments =
    record {
      units = 6;
      banks = record { size = 3; top = 0; stack = 1 } ∷ [];
      regs = pair 0 1 ∷ pair 2 3 ∷ argument 4 ∷ argument 5 ∷ [];
      classes =
          record { bank = 0; slots = 1; members = 0 ∷ 1 ∷ 2 ∷ 3 ∷ []; order = 2 ∷ 0 ∷ 1 ∷ [] }
          ∷ record { bank = 0; slots = 0; members = 0 ∷ 1 ∷ []; order = 0 ∷ 1 ∷ [] }
          ∷ [];
    }

pub record ArgumentWords : Type 0 where
  pub targets : target.Accepted arguments × target.Accepted (paired 3 (pair 0 1 ∷ argument 2 ∷ []))
  -- "a memory register has just one unit, else 4", as many as the others or not; "registers that are not memory must match in width"
  pub wide-memory : target.target_refusal (paired 4 (pair 0 1 ∷ record { memory = 1; bank = 0; units = 2 ∷ 3 ∷ [] } ∷ [])) ≡ some 4
  pub wider-memory : target.target_refusal (paired 3 (single 0 ∷ record { memory = 1; bank = 0; units = 1 ∷ 2 ∷ [] } ∷ [])) ≡ some 4
  pub unequal : target.target_refusal (paired 4 (pair 0 1 ∷ argument 2 ∷ single 3 ∷ [])) ≡ some 4
  -- unit 4 is free: r0 and r1 are swapped through r2
  pub through-a-word :
      Gives (resolve arguments (plain 2 2) (patch (4 ∷ []) swap) 16 empty_cache) (Move (reg 2) (reg 1) 1 ∷ Move (reg 1) (reg 0) 0 ∷ Move (reg 0) (reg 2) 1 ∷ []) 0 []
  -- r2 and r3 are swapped: memory to memory, through r1, which waits in slot 3
  pub words-swapped :
      Gives (resolve arguments (plain 2 2) (patch [] (move (reg 2) (reg 3) 0 ∷ move (reg 3) (reg 2) 1 ∷ [])) 16 empty_cache)
      (EmergencySpill 3 1 ∷ Move (reg 1) (reg 3) 1 ∷ Move (slot 2) (reg 1) 1 ∷ Move (reg 1) (reg 2) 0 ∷ Move (reg 3) (reg 1) 0 ∷ Move (reg 1) (slot 2) 1 ∷ Move (reg 2) (reg 1) 1 ∷ EmergencyReload 1 3 ∷ []) 2 (3 ∷ 2 ∷ [])
  -- half of r1 is free
  pub word-stored :
      Gives (resolve arguments (plain 2 2) (patch (2 ∷ []) (move (reg 2) (slot 0) 0 ∷ [])) 8 empty_cache)
      (EmergencySpill 2 1 ∷ Move (reg 1) (reg 2) 0 ∷ Move (slot 0) (reg 1) 0 ∷ EmergencyReload 1 2 ∷ []) 1 (2 ∷ [])

-- ---- 02 d, which candidate was taken: the greatest position that an answer's searches met
abbrev pub Met : Answer → ℕ → Type 0
Met (refused n) m = ⊥
Met (resolved es c n) m = n ≡ m

-- three, with a class without slots of r2 alone and one of all registers, and with a class of slots alone; r3 is memory
unfoldable pub ordered : RegInfo
ordered =
    record {
      units = 4;
      banks = record { size = 3; top = 0; stack = 1 } ∷ [];
      regs = single 0 ∷ single 1 ∷ single 2 ∷ record { memory = 1; bank = 0; units = 3 ∷ [] } ∷ [];
      classes =
          record { bank = 0; slots = 1; members = 0 ∷ 1 ∷ 2 ∷ []; order = 0 ∷ 1 ∷ 2 ∷ [] }
          ∷ record { bank = 0; slots = 0; members = 0 ∷ 1 ∷ 2 ∷ []; order = 0 ∷ 1 ∷ 2 ∷ [] }
          ∷ record { bank = 0; slots = 0; members = 2 ∷ []; order = 2 ∷ [] }
          ∷ record { bank = 0; slots = 1; members = []; order = [] }
          ∷ [];
    }

pub record Positions : Type 0 where
  pub target : target.Accepted ordered
  -- a slot, since nothing of three would do
  pub of-a-slot : Met (resolve three (plain 0 1) (patch [] swap) 16 empty_cache) 3
  -- r2, the third
  pub of-the-third : Met (resolve three (plain 0 1) (patch (2 ∷ []) swap) 16 empty_cache) 2
  -- r0, the first
  pub of-the-first : Met (resolve three (plain 2 1) (patch (0 ∷ []) (move (slot 0) (slot 1) 0 ∷ [])) 8 empty_cache) 0
  -- without searches
  pub without : Met (resolve three (plain 0 1) (patch [] (move (reg 0) (reg 1) 0 ∷ move (reg 1) (reg 2) 1 ∷ [])) 16 empty_cache) 0
  -- the greatest of 0, 1 and 0
  pub greatest :
      Met (resolve three (over (fixed 0 ∷ fixed 0 ∷ fixed 0 ∷ []) 4 1) (patch (0 ∷ 1 ∷ 2 ∷ []) (move (slot 0) (slot 1) 0 ∷ move (slot 1) (slot 0) 1 ∷ move (slot 2) (slot 3) 2 ∷ [])) 24 empty_cache) 1
  -- r2 evicted, at 1; then taken again by a class whose order has it at 2: that order's length
  pub taken-again : Met (resolve ordered (over (remat_value 2 ∷ remat_value 1 ∷ []) 2 1) (patch [] (remat (slot 0) 0 ∷ remat (slot 1) 1 ∷ [])) 10 empty_cache) 3
  -- r2 evicted: the order's length, and not where it stands in it
  pub newly-evicted : Met (resolve three (plain 2 1) (patch [] (move (slot 0) (slot 1) 0 ∷ [])) 8 empty_cache) 3
  -- the first scratch of a rebuild at 0, the length of an empty order, the second at 1
  pub of-the-second-scratch : Met (resolve ordered (over (remat_value 3 ∷ []) 0 1) (patch (1 ∷ []) (remat (reg 3) 0 ∷ [])) 5 empty_cache) 1

-- ---- 02 i, two registers evicted
abbrev pub keeping : ℕ → Function → Function
keeping n f = record { values = f.values; slots = f.slots; limit = f.limit; kept = n }

abbrev pub reg_of : ℕ → List ℕ → Reg
reg_of b us = record { memory = 0; bank = b; units = us }

-- each bank's top-level class is slots alone, and its stack class a register
abbrev pub slots_of : ℕ → Class
slots_of b = record { bank = b; slots = 1; members = []; order = [] }

abbrev pub sole_of : ℕ → ℕ → Class
sole_of b r = record { bank = b; slots = 0; members = r ∷ []; order = r ∷ [] }

-- r0 of bank 0 and r1 of bank 1
unfoldable pub two_banks : RegInfo
two_banks =
    record {
      units = 2;
      banks = record { size = 3; top = 0; stack = 1 } ∷ record { size = 3; top = 2; stack = 3 } ∷ [];
      regs = reg_of 0 (0 ∷ []) ∷ reg_of 1 (1 ∷ []) ∷ [];
      classes = slots_of 0 ∷ sole_of 0 0 ∷ slots_of 1 ∷ sole_of 1 1 ∷ [];
    }

-- the same and bank 2, whose stack class is r2
abbrev pub with_bank : ℕ → ℕ → List Reg → RegInfo
with_bank n z rs =
    record {
      units = n;
      banks = record { size = z; top = 0; stack = 1 } ∷ record { size = z; top = 2; stack = 3 } ∷ record { size = 3; top = 4; stack = 5 } ∷ [];
      regs = reg_of 0 (0 ∷ []) ∷ reg_of 1 (1 ∷ []) ∷ rs;
      classes = slots_of 0 ∷ sole_of 0 0 ∷ slots_of 1 ∷ sole_of 1 1 ∷ slots_of 2 ∷ sole_of 2 2 ∷ [];
    }

-- r2 is apart from r0 and r1
unfoldable pub three_banks : RegInfo
three_banks = with_bank 3 3 (reg_of 2 (2 ∷ []) ∷ [])

-- r2 lies half on r1; the slots of banks 0 and 1 have size 2
unfoldable pub on_newer : RegInfo
on_newer = with_bank 3 2 (reg_of 2 (1 ∷ 2 ∷ []) ∷ [])

-- r2 lies on r0 and r1
unfoldable pub on_both : RegInfo
on_both = with_bank 2 3 (reg_of 2 (0 ∷ 1 ∷ []) ∷ [])

-- r2 lies half on r0, and r3 half on r1
unfoldable pub on_each : RegInfo
on_each = with_bank 4 3 (reg_of 2 (0 ∷ 2 ∷ []) ∷ reg_of 2 (1 ∷ 3 ∷ []) ∷ [])

-- the stack class is r0 and r1, and each is a class of its own
unfoldable pub members : RegInfo
members =
    record {
      units = 2;
      banks = record { size = 3; top = 0; stack = 1 } ∷ [];
      regs = single 0 ∷ single 1 ∷ [];
      classes = slots_of 0 ∷ record { bank = 0; slots = 0; members = 0 ∷ 1 ∷ []; order = 0 ∷ 1 ∷ [] } ∷ sole_of 0 0 ∷ sole_of 0 1 ∷ [];
    }

-- value v is of bank v, of two or three; N, L and the setting
abbrev pub of_two : ℕ → ℕ → ℕ → Function
of_two n l k = keeping k (over (fixed 0 ∷ fixed 1 ∷ []) n l)

abbrev pub of_three : ℕ → ℕ → ℕ → Function
of_three n l k = keeping k (over (fixed 0 ∷ fixed 1 ∷ fixed 2 ∷ []) n l)

-- values 0 and 1 are rebuilt by r0 and by r1; N = L = 2, and two evictions are kept
abbrev pub remat_and : ValueData → Function
remat_and v = keeping 2 (over (remat_value 1 ∷ record { bank = 1; cost = 2; class = 3 } ∷ v ∷ []) 2 2)

-- value 2 of bank 2, rebuilt by slots
abbrev pub by_slots : ValueData
by_slots = record { bank = 2; cost = 2; class = 4 }

-- values rebuilt by r0, by r1 and by either
abbrev pub of_members : Function
of_members = keeping 2 (over (remat_value 2 ∷ remat_value 3 ∷ remat_value 1 ∷ []) 3 2)

-- slot 0 to slot 1 and slot 2 to slot 3
abbrev pub stored : List Entry → List Entry
stored es = move (slot 0) (slot 1) 0 ∷ move (slot 2) (slot 3) 1 ∷ es

-- values 0 and 1 are rebuilt into slots 0 and 1
abbrev pub remat_slots : List Entry → List Entry
remat_slots es = remat (slot 0) 0 ∷ remat (slot 1) 1 ∷ es

-- of r0, and of r1: the edits made first, which are handed out last
abbrev pub r0_edits : ℕ → List Edit
r0_edits s = Move (reg 0) (slot 0) 0 ∷ Move (slot 1) (reg 0) 0 ∷ EmergencyReload 0 s ∷ []

abbrev pub r1_edits : ℕ → List Edit → List Edit
r1_edits s es = Move (reg 1) (slot 2) 1 ∷ Move (slot 3) (reg 1) 1 ∷ EmergencyReload 1 s ∷ es

abbrev pub remat_edits : List Edit
remat_edits = Rematerialize (reg 1) 1 ∷ Move (slot 1) (reg 1) 1 ∷ EmergencyReload 1 3 ∷ Rematerialize (reg 0) 0 ∷ Move (slot 0) (reg 0) 0 ∷ EmergencyReload 0 2 ∷ []

-- and slot 4 to slot 5
abbrev pub alternating : List Entry → List Entry
alternating es = stored (move (slot 4) (slot 5) 0 ∷ es)

pub record TwoKept : Type 0 where
  pub target : target.Accepted two_banks
  pub functions : function.Accepted two_banks (of_two 8 2 2) × function.Accepted two_banks (of_two 6 2 1)
  -- "22, a setting other than 1 or 2, tested before the job": N is too great too
  pub settings :
      (function.function_refusal three (plain 0 1) ≡ none) × (function.function_refusal three (keeping 2 (plain 0 1)) ≡ none)
      × (function.function_refusal three (keeping 0 (plain 5000 1)) ≡ some 22) × (function.function_refusal three (keeping 3 (plain 5000 1)) ≡ some 22)
  -- "formulas that alternate banks"
  pub alternates :
      Gives (resolve two_banks (of_two 8 2 2) (patch [] (alternating (move (slot 6) (slot 7) 1 ∷ []))) 32 empty_cache)
      (EmergencySpill 9 1 ∷ EmergencySpill 8 0 ∷ Move (reg 1) (slot 6) 1 ∷ Move (slot 7) (reg 1) 1 ∷ Move (reg 0) (slot 4) 0 ∷ Move (slot 5) (reg 0) 0 ∷ r1_edits 9 (r0_edits 8)) 2 (9 ∷ 8 ∷ [])
  -- "one eviction at a time saves and reloads without end"
  pub one-alternates :
      Gives (resolve two_banks (of_two 6 2 1) (patch [] (alternating [])) 24 empty_cache)
      (EmergencySpill 6 0 ∷ Move (reg 0) (slot 4) 0 ∷ Move (slot 5) (reg 0) 0 ∷ EmergencyReload 0 6 ∷ EmergencySpill 6 1 ∷ r1_edits 6 (EmergencySpill 6 0 ∷ r0_edits 6)) 1 (6 ∷ [])
  -- both wait
  pub both-wait : Gives (resolve two_banks (of_two 4 2 2) (patch [] (stored [])) 16 empty_cache) (EmergencySpill 5 1 ∷ EmergencySpill 4 0 ∷ r1_edits 5 (r0_edits 4)) 2 (5 ∷ 4 ∷ [])
  -- the second that is kept needs a second slot
  pub second-slot : resolve two_banks (of_two 4 1 2) (patch [] (stored [])) 16 empty_cache ≡ refused 17
  pub one-slot : Gives (resolve two_banks (of_two 4 1 1) (patch [] (stored [])) 16 empty_cache) (EmergencySpill 4 1 ∷ r1_edits 4 (EmergencySpill 4 0 ∷ r0_edits 4)) 1 (4 ∷ [])
  -- either is brought back alone: the older, then the newer
  pub older-read :
      Gives (resolve two_banks (of_two 5 2 2) (patch [] (stored (move (reg 0) (slot 4) 0 ∷ []))) 24 empty_cache) (EmergencySpill 6 1 ∷ Move (slot 4) (reg 0) 0 ∷ EmergencySpill 5 0 ∷ r1_edits 6 (r0_edits 5)) 2 (6 ∷ 5 ∷ [])
  pub newer-read :
      Gives (resolve two_banks (of_two 5 2 2) (patch [] (stored (move (reg 1) (slot 4) 1 ∷ []))) 24 empty_cache) (EmergencySpill 5 0 ∷ Move (slot 4) (reg 1) 1 ∷ EmergencySpill 6 1 ∷ r1_edits 6 (r0_edits 5)) 2 (5 ∷ 6 ∷ [])

-- which one comes back, and when
pub record BroughtBack : Type 0 where
  pub targets : target.Accepted three_banks × target.Accepted on_newer × target.Accepted on_both × target.Accepted on_each × target.Accepted members
  pub functions :
      function.Accepted three_banks (of_three 8 3 2) × function.Accepted on_newer (of_three 8 3 2) × function.Accepted on_both (of_three 5 2 2)
      × function.Accepted on_both (remat_and by_slots) × function.Accepted on_each (remat_and (fixed 2)) × function.Accepted members of_members
  -- "Of several for one place [..] the older comes back first.": of a source, and of the destination of a rebuild with scratch, by a slot
  pub both_read :
      Gives (resolve on_both (of_three 5 2 2) (patch [] (stored (move (reg 2) (slot 4) 2 ∷ []))) 24 empty_cache) (Move (slot 4) (reg 2) 2 ∷ EmergencySpill 6 1 ∷ EmergencySpill 5 0 ∷ r1_edits 6 (r0_edits 5)) 2 (6 ∷ 5 ∷ [])
  pub both-rebuilt :
      Gives (resolve on_both (remat_and by_slots) (patch [] (remat_slots (remat (reg 2) 2 ∷ []))) 15 empty_cache) (Rematerialize (slot 3) 2 ∷ Move (reg 2) (slot 3) 2 ∷ EmergencySpill 3 1 ∷ EmergencySpill 2 0 ∷ remat_edits) 2 (3 ∷ 2 ∷ [])
  -- "its source, then its destination": r1, the newer, then r0
  pub source_first :
      Gives (resolve on_each (remat_and (fixed 2)) (patch [] (remat_slots (move (reg 3) (reg 2) 2 ∷ []))) 18 empty_cache)
      (Move (reg 2) (reg 3) 2 ∷ EmergencySpill 2 0 ∷ EmergencySpill 3 1 ∷ remat_edits) 2 (2 ∷ 3 ∷ [])
  -- "those that overlap the new register are brought back, and then the older if two are still held": r1 is, and r0 is then held alone
  pub older-stays :
      Leaves (resolve on_newer (of_three 8 3 2) (patch [] (stored (move (slot 4) (slot 5) 2 ∷ move (slot 6) (slot 7) 0 ∷ []))) 32 empty_cache)
      (EmergencySpill 10 2 ∷ EmergencySpill 8 0 ∷ Move (reg 0) (slot 6) 0 ∷ Move (slot 7) (reg 0) 0 ∷ Move (reg 2) (slot 4) 2 ∷ Move (slot 5) (reg 2) 2 ∷ EmergencyReload 2 10 ∷ EmergencySpill 9 1 ∷ r1_edits 9 (r0_edits 8))
      3 (updated 2 (8 ∷ 9 ∷ []) (updated 3 (10 ∷ []) (λ z. [])))
  -- "older" by eviction: r0 is brought back for r2, though it was used after r1
  pub by-eviction :
      Gives (resolve three_banks (of_three 8 3 2) (patch [] (stored (move (slot 6) (slot 7) 0 ∷ move (slot 4) (slot 5) 2 ∷ []))) 32 empty_cache)
      (EmergencySpill 8 2 ∷ EmergencySpill 9 1 ∷ Move (reg 2) (slot 4) 2 ∷ Move (slot 5) (reg 2) 2 ∷ EmergencyReload 2 8 ∷ EmergencySpill 8 0 ∷ Move (reg 0) (slot 6) 0 ∷ Move (slot 7) (reg 0) 0 ∷ r1_edits 9 (r0_edits 8)) 2 (8 ∷ 9 ∷ [])
  -- "A search reuses the newest held member of its class.": r1
  pub newest-member :
      Gives (resolve members of_members (patch [] (remat_slots (remat (slot 2) 2 ∷ []))) 15 empty_cache)
      (EmergencySpill 4 1 ∷ EmergencySpill 3 0 ∷ Rematerialize (reg 1) 2 ∷ Move (slot 2) (reg 1) 2 ∷ Rematerialize (reg 1) 1 ∷ Move (slot 1) (reg 1) 1 ∷ EmergencyReload 1 4 ∷ Rematerialize (reg 0) 0 ∷ Move (slot 0) (reg 0) 0 ∷ EmergencyReload 0 3 ∷ [])
      2 (4 ∷ 3 ∷ [])
