-- 01, The machine; its argument words: 02 b.
use Rattle.std.specs.Prelude.{ℕ, ◌+◌, Bool, List, [], ◌∷◌, map, eqb, length, get_or}
use Rattle.std.proofs.Math.Option.{Option, none, some}
use Rattle.entity.specs.Logic.{pick, and, or, no}
use Rattle.entity.specs.Place.{Place, reg, slot}
use Rattle.reginfo.specs.RegInfo.{RegInfo, place_units, is_memory, in_class}
use Rattle.function.specs.Function.{Function, can_rematerialize, remat_class}
use Rattle.rules.specs.Edit.{Edit, Move, Rematerialize, EmergencySpill, EmergencyReload, updated, and_then, filter}

-- "Each register unit holds a word, any whole number; each slot holds a list of words."; 02 b: a memory register's unit "holds a whole list"
-- too. "numbers below 512 are register units and 512 + s is slot s"
pub record Memory : Type 0 where
  pub word : ℕ → ℕ
  pub lists : ℕ → List ℕ

-- the list of slot s
abbrev pub in_slot : Memory → ℕ → List ℕ
in_slot m s = m.lists (512 + s)

-- the words ws at the units us
-- The first unit that is u decides. By 3 a register lists none twice; of a list that is too short or too long the rest stays.
unfoldable pub put : List ℕ → List ℕ → (ℕ → ℕ) → ℕ → ℕ
put [] ws f u = f u
put (x ∷ us) [] f u = f u
put (x ∷ us) (w ∷ ws) f u = pick (eqb u x) w (put us ws f u)

-- a register that waits, the slot that it was saved into, and the words that were saved
-- The words are noted beside the slot: what counts is what was saved, whatever becomes of the slot; that the slot keeps it is shown (`Saved` of
-- Claim).
pub record Waiting : Type 0 where
  pub reg : ℕ
  pub slot : ℕ
  pub words : List ℕ

-- what an edit wrote, and where
-- With the words, since a scratch place is one that was written with the content itself: a place that holds it by chance is none.
pub record Written : Type 0 where
  pub place : Place
  pub words : List ℕ

-- the machine within a patch: what it holds, which registers wait, and what the patch's edits wrote so far, the last first
pub record Machine : Type 0 where
  pub memory : Memory
  pub waiting : List Waiting
  pub written : List Written

-- where a patch begins
abbrev pub begin : Memory → Machine
begin m = record { memory = m; waiting = []; written = [] }

-- r waits no more
-- saved again, a register waits once, in the newer slot; so the machine is total
abbrev pub without : ℕ → List Waiting → List Waiting
without r l = filter (λ (w : Waiting). no (eqb w.reg r)) l

abbrev pub when : Bool → Machine → Option Machine
when b s = pick b (some s) none

module _ (t : RegInfo) (f : Function) where
  -- the unit of a place that is memory
  abbrev pub cell : Place → ℕ
  cell p = get_or (place_units t p) 0 0

  -- "A register holds its units' words in listed order.", unless it is memory
  -- By 6 no unit is both memory and not: so its word and its list are never mixed up.
  unfoldable pub read : Memory → Place → List ℕ
  read m p = pick (is_memory t p) (m.lists (cell p)) (map m.word (place_units t p))

  unfoldable pub write : Place → List ℕ → Memory → Memory
  write p ws m =
      pick (is_memory t p) (record { word = m.word; lists = updated (cell p) ws m.lists }) (record { word = put (place_units t p) ws m.word; lists = m.lists })

  -- "a slot takes any length"; a memory register does "as a slot does"; another register its own
  unfoldable pub fits : Place → ℕ → Bool
  fits p n = or (is_memory t p) (eqb n (length (place_units t p)))

  -- ws written at p
  abbrev pub wrote : Place → List ℕ → List Waiting → Machine → Machine
  wrote p ws w s = record { memory = write p ws s.memory; waiting = w; written = record { place = p; words = ws } ∷ s.written }

  -- one edit, where it can be done; `content` is what each value is.
  -- "Move copies the list read at `from` into `to`, read whole before writing [..]; it can be done unless both are memory or `to` is a
  -- register of another length."
  -- "Rematerialize writes the value's content; it can be done where the rebuild class has the destination (a slot: includes slots)."
  -- "EmergencySpill stores a register's words and can always be done"; the register waits from then on.
  -- "EmergencyReload puts a slot's list into a register and can be done where the lengths agree"; the register waits no more.
  -- The value of a Move is not looked at: what is copied is what stands there. So an edit that reads the wrong place copies the wrong words, and
  -- demand 3 sees it.
  unfoldable pub step : (ℕ → List ℕ) → Edit → Machine → Option Machine
  step content (Move to from v) s =
      when (and (no (and (is_memory t to) (is_memory t from))) (fits to (length (read s.memory from)))) (wrote to (read s.memory from) s.waiting s)
  step content (Rematerialize to v) s = when (and (can_rematerialize f v) (in_class t (remat_class f v) to)) (wrote to (content v) s.waiting s)
  step content (EmergencySpill x r) s = some (wrote (slot x) (read s.memory (reg r)) (record { reg = r; slot = x; words = read s.memory (reg r) } ∷ without r s.waiting) s)
  step content (EmergencyReload r x) s = when (fits (reg r) (length (in_slot s.memory x))) (wrote (reg r) (in_slot s.memory x) (without r s.waiting) s)

  unfoldable pub steps : (ℕ → List ℕ) → List Edit → Machine → Option Machine
  steps content [] s = some s
  steps content (e ∷ es) s = and_then (step content e s) (steps content es)

  -- "A register is waiting between the two; its units then count as holding what was saved."; 02 i: "All saved words count"
  -- What is saved can be had again, so at a stop it is not lost, though the register itself holds a scratch value meanwhile.
  unfoldable pub counted : List Waiting → Memory → Memory
  counted [] m = m
  counted (w ∷ l) m = write (reg w.reg) w.words (counted l m)

  abbrev pub seen : Machine → Memory
  seen s = counted s.waiting s.memory
