-- 02 b, "Nothing else in the machine moves": 01's machine as it was before argument words, in which a register unit holds a word, a slot a list
-- of words, and a slot alone is memory; and that on a target without memory registers the machine is that one.
use Rattle.std.specs.Prelude.{ℕ, ◌<◌, ◌≡◌, Bool, true, false, List, [], ◌∷◌, map, eqb, length}
use Rattle.std.proofs.Math.Option.{Option, none, some}
use Rattle.entity.specs.Logic.{pick, and, no}
use Rattle.entity.specs.Place.{Place, reg, slot}
use Rattle.reginfo.specs.RegInfo.{RegInfo, num_regs, reg_units, is_memory_reg, in_class}
use Rattle.function.specs.Function.{Function, can_rematerialize, remat_class}
use Rattle.rules.specs.Edit.{Edit, Move, Rematerialize, EmergencySpill, EmergencyReload, updated, and_then}
use Rattle.machine.specs.Machine as now
use Rattle.machine.specs.Machine.{put, Waiting, Written, without, in_slot}

-- "Each register unit holds a word, any whole number; each slot holds a list of words."
pub record Memory : Type 0 where
  pub word : ℕ → ℕ
  pub slots : ℕ → List ℕ

pub record Machine : Type 0 where
  pub memory : Memory
  pub waiting : List Waiting
  pub written : List Written

abbrev pub is_slot : Place → Bool
is_slot (reg r) = false
is_slot (slot s) = true

abbrev pub when : Bool → Machine → Option Machine
when b s = pick b (some s) none

module _ (t : RegInfo) (f : Function) where
  -- "A register holds its units' words in listed order."
  unfoldable pub read : Memory → Place → List ℕ
  read m (reg r) = map m.word (reg_units t r)
  read m (slot s) = m.slots s

  unfoldable pub write : Place → List ℕ → Memory → Memory
  write (reg r) ws m = record { word = put (reg_units t r) ws m.word; slots = m.slots }
  write (slot s) ws m = record { word = m.word; slots = updated s ws m.slots }

  -- "a slot takes any length"
  unfoldable pub fits : Place → ℕ → Bool
  fits (reg r) n = eqb n (length (reg_units t r))
  fits (slot s) n = true

  abbrev pub wrote : Place → List ℕ → List Waiting → Machine → Machine
  wrote p ws w s = record { memory = write p ws s.memory; waiting = w; written = record { place = p; words = ws } ∷ s.written }

  -- the four edits, as `step` of Machine cites them
  unfoldable pub step : (ℕ → List ℕ) → Edit → Machine → Option Machine
  step content (Move to from v) s =
      when (and (no (and (is_slot to) (is_slot from))) (fits to (length (read s.memory from)))) (wrote to (read s.memory from) s.waiting s)
  step content (Rematerialize to v) s = when (and (can_rematerialize f v) (in_class t (remat_class f v) to)) (wrote to (content v) s.waiting s)
  step content (EmergencySpill x r) s =
      some (wrote (slot x) (read s.memory (reg r)) (record { reg = r; slot = x; words = read s.memory (reg r) } ∷ without r s.waiting) s)
  step content (EmergencyReload r x) s = when (fits (reg r) (length (s.memory.slots x))) (wrote (reg r) (s.memory.slots x) (without r s.waiting) s)

  unfoldable pub steps : (ℕ → List ℕ) → List Edit → Machine → Option Machine
  steps content [] s = some s
  steps content (e ∷ es) s = and_then (step content e s) (steps content es)

  -- "its units then count as holding what was saved"
  unfoldable pub counted : List Waiting → Memory → Memory
  counted [] m = m
  counted (w ∷ l) m = write (reg w.reg) w.words (counted l m)

-- the machine without the lists of its register units
abbrev pub plain : now.Memory → Memory
plain m = record { word = m.word; slots = in_slot m }

abbrev pub before : now.Machine → Machine
before s = record { memory = plain s.memory; waiting = s.waiting; written = s.written }

abbrev pub before_all : Option now.Machine → Option Machine
before_all none = none
before_all (some s) = some (before s)

-- a place holds the same, an edit and a list of edits does the same, or can as little be done, and at a stop the same is seen
module _ (t : RegInfo) (f : Function) (content : ℕ → List ℕ) where
  abbrev pub HoldsAs : now.Memory → Place → Type 0
  HoldsAs m p = now.read t f m p ≡ read t f (plain m) p

  abbrev pub DoesAs : Edit → now.Machine → Type 0
  DoesAs e s = before_all (now.step t f content e s) ≡ step t f content e (before s)

  abbrev pub AllAs : List Edit → now.Machine → Type 0
  AllAs es s = before_all (now.steps t f content es s) ≡ steps t f content es (before s)

  abbrev pub SeenAs : now.Machine → Type 0
  SeenAs s = plain (now.seen t f s) ≡ counted t f s.waiting (plain s.memory)

  -- of every memory and machine, every place, edit and list of edits
  pub record AsBefore : Type 0 where
    pub holds : (m : now.Memory) (p : Place) → HoldsAs m p
    pub does : (e : Edit) (s : now.Machine) → DoesAs e s
    pub does-all : (es : List Edit) (s : now.Machine) → AllAs es s
    pub sees : (s : now.Machine) → SeenAs s

-- Stated against the machine before the request, word for word, so that it says of every edit what `step` no longer shows at a glance.
abbrev pub NothingElseMoves : Type 0
NothingElseMoves = (t : RegInfo) (f : Function) → ((r : ℕ) → r < num_regs t → is_memory_reg t r ≡ false) → (content : ℕ → List ℕ) → AsBefore t f content
