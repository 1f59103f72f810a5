-- Demand 3 spelled out, for all words and every start, stop by stop: at swap-full; at slot-to-slot, where a register is evicted; with argument
-- words (02 b), where one is a scratch, and where two are swapped; and with two registers evicted (02 i).
use Rattle.std.specs.Prelude.{ℕ, zero, suc, ◌≡◌, List, [], ◌∷◌, map, take}
use Rattle.std.proofs.Math.Option.{some}
use Rattle.entity.specs.Place.{reg, slot}
use Rattle.reginfo.specs.RegInfo.{RegInfo}
use Rattle.function.specs.Function.{Function}
use Rattle.rules.specs.Edit.{Edit, Move, EmergencySpill, EmergencyReload}
use Rattle.rules.specs.Patch.{Patch, move}
use Rattle.rules.specs.Trials.{three, plain, patch, swap}
use Rattle.rules.specs.ChangeTrials.{arguments, two_banks, of_two, stored, r0_edits, r1_edits}
use Rattle.machine.specs.Machine.{Memory, in_slot, Machine, Waiting, begin, steps}
use Rattle.machine.specs.Claim.{Stopped, Finished}

-- `M s0 r1 1, M r1 r0 0, M r0 s0 1`
abbrev pub swap_edits : List Edit
swap_edits = Move (slot 0) (reg 1) 1 ∷ Move (reg 1) (reg 0) 0 ∷ Move (reg 0) (slot 0) 1 ∷ []

abbrev pub slot_to_slot : Patch
slot_to_slot = patch [] (move (slot 0) (slot 1) 0 ∷ [])

-- "S s2 r2, M r2 s0, M s1 r2, L r2 s2"
abbrev pub slot_edits : List Edit
slot_edits = EmergencySpill 2 2 ∷ Move (reg 2) (slot 0) 0 ∷ Move (slot 1) (reg 2) 0 ∷ EmergencyReload 2 2 ∷ []

-- the content of value 0 is a, that of value 1 is b
abbrev pub words : ℕ → ℕ → ℕ → List ℕ
words a b zero = a ∷ []
words a b (suc v) = b ∷ []

module _ (t : RegInfo) (units cells : List ℕ) (f : Function) (p : Patch) (content : ℕ → List ℕ) (es : List Edit) (start : Memory) where
  -- the first k edits can be done, the stop is as demanded, and there these are the words of the units, the lists of the cells, and the
  -- registers that wait
  pub record Stop (k : ℕ) (words : List ℕ) (lists : List (List ℕ)) (waiting : List Waiting) : Type 0 where
    pub machine : Machine
    pub done : steps t f content (take k es) (begin start) ≡ some machine
    pub stopped : Stopped t f p content start machine
    pub words-hold : map machine.memory.word units ≡ words
    pub lists-hold : map machine.memory.lists cells ≡ lists
    pub waits : machine.waiting ≡ waiting

-- all edits can be done, and the end is as demanded
abbrev pub Ends : RegInfo → Function → Patch → (ℕ → List ℕ) → List Edit → Memory → Type 0
Ends t f p content es start = (s : Machine) × (steps t f content es (begin start) ≡ some s) × Finished t f p content s

-- at the words of r0, r1 and r2 and the lists of slots 0, 1 and 2
abbrev pub StopOfThree : Function → Patch → (ℕ → List ℕ) → List Edit → Memory → ℕ → List ℕ → List (List ℕ) → List Waiting → Type 0
StopOfThree = Stop three (0 ∷ 1 ∷ 2 ∷ []) (512 ∷ 513 ∷ 514 ∷ [])

-- a goes from r0 to r1 and b from r1 to r0, by slot 0
pub record Swapped (start : Memory) (a b : ℕ) : Type 0 where
  pub stop-0 : StopOfThree (plain 0 1) (patch [] swap) (words a b) swap_edits start 0 (a ∷ b ∷ start.word 2 ∷ []) (in_slot start 0 ∷ in_slot start 1 ∷ in_slot start 2 ∷ []) []
  pub stop-1 : StopOfThree (plain 0 1) (patch [] swap) (words a b) swap_edits start 1 (a ∷ b ∷ start.word 2 ∷ []) ((b ∷ []) ∷ in_slot start 1 ∷ in_slot start 2 ∷ []) []
  pub stop-2 : StopOfThree (plain 0 1) (patch [] swap) (words a b) swap_edits start 2 (a ∷ a ∷ start.word 2 ∷ []) ((b ∷ []) ∷ in_slot start 1 ∷ in_slot start 2 ∷ []) []
  pub stop-3 : StopOfThree (plain 0 1) (patch [] swap) (words a b) swap_edits start 3 (b ∷ a ∷ start.word 2 ∷ []) ((b ∷ []) ∷ in_slot start 1 ∷ in_slot start 2 ∷ []) []
  pub ends : Ends three (plain 0 1) (patch [] swap) (words a b) swap_edits start

-- whatever a and b are and whatever else the machine holds
abbrev pub SwapFull : Type 0
SwapFull = (start : Memory) (a b : ℕ) → start.word 0 ≡ a → start.word 1 ≡ b → Swapped start a b

-- r2 waits in slot 2, its own word saved
abbrev pub r2_waits : Memory → List Waiting
r2_waits start = record { reg = 2; slot = 2; words = start.word 2 ∷ [] } ∷ []

-- a goes from slot 0 to slot 1 through r2, which waits in slot 2 meanwhile and then holds its own word again
pub record Carried (start : Memory) (a : ℕ) : Type 0 where
  pub stop-0 : StopOfThree (plain 2 1) slot_to_slot (words a a) slot_edits start 0 (start.word 0 ∷ start.word 1 ∷ start.word 2 ∷ []) ((a ∷ []) ∷ in_slot start 1 ∷ in_slot start 2 ∷ []) []
  pub stop-1 : StopOfThree (plain 2 1) slot_to_slot (words a a) slot_edits start 1 (start.word 0 ∷ start.word 1 ∷ start.word 2 ∷ []) ((a ∷ []) ∷ in_slot start 1 ∷ (start.word 2 ∷ []) ∷ []) (r2_waits start)
  pub stop-2 : StopOfThree (plain 2 1) slot_to_slot (words a a) slot_edits start 2 (start.word 0 ∷ start.word 1 ∷ a ∷ []) ((a ∷ []) ∷ in_slot start 1 ∷ (start.word 2 ∷ []) ∷ []) (r2_waits start)
  pub stop-3 : StopOfThree (plain 2 1) slot_to_slot (words a a) slot_edits start 3 (start.word 0 ∷ start.word 1 ∷ a ∷ []) ((a ∷ []) ∷ (a ∷ []) ∷ (start.word 2 ∷ []) ∷ []) (r2_waits start)
  pub stop-4 : StopOfThree (plain 2 1) slot_to_slot (words a a) slot_edits start 4 (start.word 0 ∷ start.word 1 ∷ start.word 2 ∷ []) ((a ∷ []) ∷ (a ∷ []) ∷ (start.word 2 ∷ []) ∷ []) []
  pub ends : Ends three (plain 2 1) slot_to_slot (words a a) slot_edits start

-- whatever a is and whatever else the machine holds
abbrev pub SlotToSlot : Type 0
SlotToSlot = (start : Memory) (a : ℕ) → in_slot start 0 ≡ a ∷ [] → Carried start a

-- ---- argument words: at the words of r0 and r1, two each, and the lists of r2 and r3 and of slots 2 and 3
abbrev pub StopOfArguments : Patch → (ℕ → List ℕ) → List Edit → Memory → ℕ → List ℕ → List (List ℕ) → List Waiting → Type 0
StopOfArguments = Stop arguments (0 ∷ 1 ∷ 2 ∷ 3 ∷ []) (4 ∷ 5 ∷ 514 ∷ 515 ∷ []) (plain 2 2)

-- the content of value 0 is a and b, that of value 1 is c and d
abbrev pub pairs : ℕ → ℕ → ℕ → ℕ → ℕ → List ℕ
pairs a b c d zero = a ∷ b ∷ []
pairs a b c d (suc v) = c ∷ d ∷ []

-- "M r2 r1 1, M r1 r0 0, M r0 r2 1"
abbrev pub through_edits : List Edit
through_edits = Move (reg 2) (reg 1) 1 ∷ Move (reg 1) (reg 0) 0 ∷ Move (reg 0) (reg 2) 1 ∷ []

module _ (start : Memory) (a b c d : ℕ) where
  abbrev pub ThroughStop : ℕ → List ℕ → List (List ℕ) → List Waiting → Type 0
  ThroughStop = StopOfArguments (patch (4 ∷ []) swap) (pairs a b c d) through_edits start

  -- a and b go from r0 to r1 and c and d from r1 to r0, by r2, whose unit is free
  pub record Through : Type 0 where
    pub stop-0 : ThroughStop 0 (a ∷ b ∷ c ∷ d ∷ []) (start.lists 4 ∷ start.lists 5 ∷ in_slot start 2 ∷ in_slot start 3 ∷ []) []
    pub stop-1 : ThroughStop 1 (a ∷ b ∷ c ∷ d ∷ []) ((c ∷ d ∷ []) ∷ start.lists 5 ∷ in_slot start 2 ∷ in_slot start 3 ∷ []) []
    pub stop-2 : ThroughStop 2 (a ∷ b ∷ a ∷ b ∷ []) ((c ∷ d ∷ []) ∷ start.lists 5 ∷ in_slot start 2 ∷ in_slot start 3 ∷ []) []
    pub stop-3 : ThroughStop 3 (c ∷ d ∷ a ∷ b ∷ []) ((c ∷ d ∷ []) ∷ start.lists 5 ∷ in_slot start 2 ∷ in_slot start 3 ∷ []) []
    pub ends : Ends arguments (plain 2 2) (patch (4 ∷ []) swap) (pairs a b c d) through_edits start

abbrev pub ThroughAWord : Type 0
ThroughAWord = (start : Memory) (a b c d : ℕ) → start.word 0 ≡ a → start.word 1 ≡ b → start.word 2 ≡ c → start.word 3 ≡ d → Through start a b c d

abbrev pub word_swap : Patch
word_swap = patch [] (move (reg 2) (reg 3) 0 ∷ move (reg 3) (reg 2) 1 ∷ [])

-- `S s3 r1, M r1 r3 1, M s2 r1 1` and so on
abbrev pub word_edits : List Edit
word_edits =
    EmergencySpill 3 1 ∷ Move (reg 1) (reg 3) 1 ∷ Move (slot 2) (reg 1) 1 ∷ Move (reg 1) (reg 2) 0 ∷ Move (reg 3) (reg 1) 0 ∷ Move (reg 1) (slot 2) 1
    ∷ Move (reg 2) (reg 1) 1 ∷ EmergencyReload 1 3 ∷ []

module _ (start : Memory) (a b c d : ℕ) where
  -- r0 and r1 hold what r0 held and these words
  abbrev pub r1_holds : ℕ → ℕ → List ℕ
  r1_holds x y = start.word 0 ∷ start.word 1 ∷ x ∷ y ∷ []

  -- r1's own words
  abbrev pub saved : List ℕ
  saved = start.word 2 ∷ start.word 3 ∷ []

  -- r1 waits in slot 3
  abbrev pub r1_waits : List Waiting
  r1_waits = record { reg = 1; slot = 3; words = saved } ∷ []

  abbrev pub WordStop : ℕ → List ℕ → List (List ℕ) → List Waiting → Type 0
  WordStop = StopOfArguments word_swap (pairs a b c d) word_edits start

  -- a and b go from r2 to r3 and c and d from r3 to r2, through r1, which waits in slot 3 meanwhile, and by slot 2
  pub record WordsSwapped : Type 0 where
    pub stop-0 : WordStop 0 (r1_holds (start.word 2) (start.word 3)) ((a ∷ b ∷ []) ∷ (c ∷ d ∷ []) ∷ in_slot start 2 ∷ in_slot start 3 ∷ []) []
    pub stop-1 : WordStop 1 (r1_holds (start.word 2) (start.word 3)) ((a ∷ b ∷ []) ∷ (c ∷ d ∷ []) ∷ in_slot start 2 ∷ saved ∷ []) r1_waits
    pub stop-2 : WordStop 2 (r1_holds c d) ((a ∷ b ∷ []) ∷ (c ∷ d ∷ []) ∷ in_slot start 2 ∷ saved ∷ []) r1_waits
    pub stop-3 : WordStop 3 (r1_holds c d) ((a ∷ b ∷ []) ∷ (c ∷ d ∷ []) ∷ (c ∷ d ∷ []) ∷ saved ∷ []) r1_waits
    pub stop-4 : WordStop 4 (r1_holds a b) ((a ∷ b ∷ []) ∷ (c ∷ d ∷ []) ∷ (c ∷ d ∷ []) ∷ saved ∷ []) r1_waits
    pub stop-5 : WordStop 5 (r1_holds a b) ((a ∷ b ∷ []) ∷ (a ∷ b ∷ []) ∷ (c ∷ d ∷ []) ∷ saved ∷ []) r1_waits
    pub stop-6 : WordStop 6 (r1_holds c d) ((a ∷ b ∷ []) ∷ (a ∷ b ∷ []) ∷ (c ∷ d ∷ []) ∷ saved ∷ []) r1_waits
    pub stop-7 : WordStop 7 (r1_holds c d) ((c ∷ d ∷ []) ∷ (a ∷ b ∷ []) ∷ (c ∷ d ∷ []) ∷ saved ∷ []) r1_waits
    pub stop-8 : WordStop 8 (r1_holds (start.word 2) (start.word 3)) ((c ∷ d ∷ []) ∷ (a ∷ b ∷ []) ∷ (c ∷ d ∷ []) ∷ saved ∷ []) []
    pub ends : Ends arguments (plain 2 2) word_swap (pairs a b c d) word_edits start

abbrev pub SwapOfWords : Type 0
SwapOfWords = (start : Memory) (a b c d : ℕ) → start.lists 4 ≡ a ∷ b ∷ [] → start.lists 5 ≡ c ∷ d ∷ [] → WordsSwapped start a b c d

-- ---- two registers evicted
-- `S s5 r1, S s4 r0, M r1 s2 1, M s3 r1 1, L r1 s5, M r0 s0 0, M s1 r0 0, L r0 s4`
abbrev pub both_edits : List Edit
both_edits = EmergencySpill 5 1 ∷ EmergencySpill 4 0 ∷ r1_edits 5 (r0_edits 4)

module _ (start : Memory) (a b : ℕ) where
  -- at the words of r0 and r1, and the lists of slots 1, 3, 4 and 5: slots 0 and 2 hold a and b
  abbrev pub StopOfTwo : ℕ → List ℕ → List ℕ → List ℕ → List ℕ → List ℕ → List Waiting → Type 0
  StopOfTwo k ws w x y z =
      Stop two_banks (0 ∷ 1 ∷ []) (512 ∷ 513 ∷ 514 ∷ 515 ∷ 516 ∷ 517 ∷ []) (of_two 4 2 2) (patch [] (stored [])) (words a b) both_edits start k ws ((a ∷ []) ∷ w ∷ (b ∷ []) ∷ x ∷ y ∷ z ∷ [])

  -- what r0 and r1 held
  abbrev pub w0 : ℕ
  w0 = start.word 0

  abbrev pub w1 : ℕ
  w1 = start.word 1

  -- r1 waits in slot 5, r0 in slot 4
  abbrev pub r1_waits_in5 : List Waiting
  r1_waits_in5 = record { reg = 1; slot = 5; words = w1 ∷ [] } ∷ []

  abbrev pub r0_waits_in4 : List Waiting → List Waiting
  r0_waits_in4 l = record { reg = 0; slot = 4; words = w0 ∷ [] } ∷ l

  -- a goes from slot 0 to slot 1 through r0 and b from slot 2 to slot 3 through r1, which both wait meanwhile
  pub record BothWait : Type 0 where
    pub stop-0 : StopOfTwo 0 (w0 ∷ w1 ∷ []) (in_slot start 1) (in_slot start 3) (in_slot start 4) (in_slot start 5) []
    pub stop-1 : StopOfTwo 1 (w0 ∷ w1 ∷ []) (in_slot start 1) (in_slot start 3) (in_slot start 4) (w1 ∷ []) r1_waits_in5
    pub stop-2 : StopOfTwo 2 (w0 ∷ w1 ∷ []) (in_slot start 1) (in_slot start 3) (w0 ∷ []) (w1 ∷ []) (r0_waits_in4 r1_waits_in5)
    pub stop-3 : StopOfTwo 3 (w0 ∷ b ∷ []) (in_slot start 1) (in_slot start 3) (w0 ∷ []) (w1 ∷ []) (r0_waits_in4 r1_waits_in5)
    pub stop-4 : StopOfTwo 4 (w0 ∷ b ∷ []) (in_slot start 1) (b ∷ []) (w0 ∷ []) (w1 ∷ []) (r0_waits_in4 r1_waits_in5)
    pub stop-5 : StopOfTwo 5 (w0 ∷ w1 ∷ []) (in_slot start 1) (b ∷ []) (w0 ∷ []) (w1 ∷ []) (r0_waits_in4 [])
    pub stop-6 : StopOfTwo 6 (a ∷ w1 ∷ []) (in_slot start 1) (b ∷ []) (w0 ∷ []) (w1 ∷ []) (r0_waits_in4 [])
    pub stop-7 : StopOfTwo 7 (a ∷ w1 ∷ []) (a ∷ []) (b ∷ []) (w0 ∷ []) (w1 ∷ []) (r0_waits_in4 [])
    pub stop-8 : StopOfTwo 8 (w0 ∷ w1 ∷ []) (a ∷ []) (b ∷ []) (w0 ∷ []) (w1 ∷ []) []
    pub ends : Ends two_banks (of_two 4 2 2) (patch [] (stored [])) (words a b) both_edits start

abbrev pub TwoWait : Type 0
TwoWait = (start : Memory) (a b : ℕ) → in_slot start 0 ≡ a ∷ [] → in_slot start 2 ≡ b ∷ [] → BothWait start a b
