-- What holds at each stop of a run, for any set of places that may change.
use mathlib.Core.Path.{◌≡◌, refl}
use mathlib.Core.Bool.{Bool, true, false}
use mathlib.Core.List.Memᴰ
use mathlib.Core.List.{List, [], ◌∷◌, map, Memᴰ}
use mathlib.Core.Option.{some}
use mathlib.Core.Logic.{◌⊎◌}
use Prim.Native.Nat.{ℕ, zero, suc}
use lib.Dec.{T}
use lib.ListN.{take}
use Rattle.entity.specs.Place.{Place}
use Rattle.reginfo.specs.RegInfo.{RegInfo}
use Rattle.function.specs.Function.{Function}
use Rattle.rules.specs.Edit.{Edit, and_then}
use Rattle.rules.proofs.Steps.{Every}
use Rattle.rules.proofs.Parts.{Picked, here, later, every-put}
use Rattle.machine.specs.Claim.{Saved}
use Rattle.machine.specs.Machine.{Memory, in_slot, Waiting, Written, Machine, read, step, steps, counted, seen, when}

-- a register that waits and its slot: what was saved is what the slot holds
pub record Wait : Type 0 where
  pub reg : ℕ
  pub slot : ℕ

abbrev pub Waits : Type 0
Waits = List Wait

-- as the machine lists them
abbrev pub as-held : Memory → Wait → Waiting
as-held m x = record { reg = x.reg; slot = x.slot; words = in_slot m x.slot }

abbrev pub held : Memory → Waits → List Waiting
held m ws = map (as-held m) ws

pub held-saved : (m : Memory) (ws : Waits) (w : Waiting) → Memᴰ w (held m ws) → in_slot m w.slot ≡ w.words
held-saved m [] w h = absurd (Memᴰ.not-nil h)
held-saved m (x ∷ ws) w (Memᴰ.head e) = rw e refl
held-saved m (x ∷ ws) w (Memᴰ.tail h) = held-saved m ws w h

-- the first list is the second in some order: a save puts its register in front, and which of those that wait was saved last is known only
-- once all are saved
pub data Orders : Waits → Waits → Type 0 where
  nobody : Orders [] []
  more : {x : Wait} {w v ws : Waits} → Picked x w v → Orders v ws → Orders w (x ∷ ws)

pub as-listed : (ws : Waits) → Orders ws ws
as-listed [] = nobody
as-listed (x ∷ ws) = more here (as-listed ws)

pub orders-every : (P : Wait → Type 0) (w ws : Waits) → Orders w ws → Every P ws → Every P w
orders-every P _ _ nobody h = tt
orders-every P w _ (more {x = x} {v = v} {ws = ws} p o) h = every-put P x w v p h.0 (orders-every P v ws o h.1)

-- one more in front
pub orders-insert : (x : Wait) (w zs ws : Waits) → Picked x zs ws → Orders w ws → Orders (x ∷ w) zs
orders-insert x w _ ws here o = more here o
orders-insert x w _ _ (later {y = y} {l = l} {m = m} p) (more {v = v} q o) = more (later q) (orders-insert x v l m p o)

abbrev pub Log : Type 0
Log = List Written

abbrev pub wr : Place → List ℕ → Written
wr p ws = record { place = p; words = ws }

abbrev pub state : Waits → Memory → Log → Machine
state w m l = record { memory = m; waiting = held m w; written = l }

pub when-yes : (b : Bool) (s : Machine) → T b → when b s ≡ some s
when-yes true s h = refl
when-yes false s h = absurd h

pub record Job : Type 1 where
  pub content : ℕ → List ℕ
  -- units that may change; 512 + s is slot s
  pub may : ℕ → Type 0
  -- values of kept moves
  pub tracked : ℕ → Type 0
  -- a source or destination of a kept move of the value
  pub home : Place → ℕ → Type 0
  -- what each destination holds at the end
  pub final : Place → ℕ → Type 0

module _ (t : RegInfo) (f : Function) where
  abbrev pub view : Waits → Memory → Memory
  view w m = counted t f (held m w) m

  module _ (j : Job) where
    -- the view agrees outside what may change
    pub record Frame (a b : Memory) : Type 0 where
      pub words : (u : ℕ) → (j.may u → ⊥) → a.word u ≡ b.word u
      pub lists : (u : ℕ) → (j.may u → ⊥) → a.lists u ≡ b.lists u

    abbrev pub Anchored : Log → Place → ℕ → Type 0
    Anchored l p v = j.home p v ⊎ Memᴰ (wr p (j.content v)) l

    abbrev pub Holds : Machine → Place → ℕ → Type 0
    Holds st p v = Anchored st.written p v × (read t f (seen t f st) p ≡ j.content v)

    -- what holds at a stop; a is the view at the start
    pub record Stop (a : Memory) (st : Machine) : Type 0 where
      pub frame : Frame a (seen t f st)
      pub lives : (v : ℕ) → j.tracked v → (p : Place) × Holds st p v
      pub saved : Saved st

    pub record Final (st : Machine) : Type 0 where
      pub placed : (p : Place) (v : ℕ) → j.final p v → read t f st.memory p ≡ j.content v
      pub none-waits : st.waiting ≡ []

    abbrev pub Along : List Edit → Memory → Machine → Type 0
    Along [] a st = Stop a st × Final st
    Along (e ∷ es) a st = (st' : Machine) × Stop a st × (step t f j.content e st ≡ some st') × Along es a st'

    -- after every prefix, and at the end
    pub stops : (es : List Edit) (a : Memory) (st : Machine) → Along es a st → (k : ℕ) → (st' : Machine) × (steps t f j.content (take k es) st ≡ some st') × Stop a st'
    unfolding steps and_then
    stops [] a st h zero = (st, refl, h.0)
    stops [] a st h (suc k) = (st, refl, h.0)
    stops (e ∷ es) a st h zero = (st, refl, h.1)
    stops (e ∷ es) a st h (suc k) = go (stops es a h.0 h.3 k)
      where
        go : (st' : Machine) × (steps t f j.content (take k es) h.0 ≡ some st') × Stop a st'
            → (st' : Machine) × (and_then (step t f j.content e st) (steps t f j.content (take k es)) ≡ some st') × Stop a st'
        go r = (r.0, rw h.2 r.1, r.2)

    pub ends : (es : List Edit) (a : Memory) (st : Machine) → Along es a st → (st' : Machine) × (steps t f j.content es st ≡ some st') × Final st'
    unfolding steps and_then
    ends [] a st h = (st, refl, h.1)
    ends (e ∷ es) a st h = go (ends es a h.0 h.3)
      where
        go : (st' : Machine) × (steps t f j.content es h.0 ≡ some st') × Final st'
            → (st' : Machine) × (and_then (step t f j.content e st) (steps t f j.content es) ≡ some st') × Final st'
        go r = (r.0, rw h.2 r.1, r.2)
