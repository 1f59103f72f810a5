-- On a target without memory registers the machine is 01's, as it was before argument words.
use Prim.Native.Nat.{ℕ, zero, suc, ◌+◌, ◌<◌, ◌≤◌}
use mathlib.Core.Path.{◌≡◌, refl, ap, ◌∙◌, fun_ext}
use mathlib.Core.Bool.{Bool, true, false}
use mathlib.Core.List.{List, [], ◌∷◌}
use mathlib.Core.Option.{Option, none, some}
use native.Mathlib.Omega.{arith}
use lib.Dec.{eqb, ltb}
use lib.ListN.{length, get_or}
use borrow.Author.Tests.{eqb-true, eqb-false, eq-eqb, ne_eqb, ltb-true, ltb-false}
use Rattle.entity.specs.Logic.{pick, and, no}
use Rattle.entity.specs.Place.{Place, reg, slot}
use Rattle.reginfo.specs.RegInfo.{RegInfo, Reg, no_reg, num_regs, reg_memory, is_memory_reg, is_memory, in_class}
use Rattle.function.specs.Function.{Function, can_rematerialize, remat_class}
use Rattle.rules.specs.Edit.{Edit, Move, Rematerialize, EmergencySpill, EmergencyReload, updated, and_then}
use Rattle.machine.specs.Machine as now
use Rattle.machine.specs.Machine.{in_slot, Waiting, without}
use Rattle.machine.specs.Before.{Memory, Machine, is_slot, when, read, write, fits, wrote, step, steps, counted, plain, before, before_all, NothingElseMoves}

-- what is past the end is no memory register
past : (l : List Reg) (r : ℕ) → length l ≤ r → get_or l r no_reg ≡ no_reg
past [] r h = refl
past (x ∷ l) zero h = absurd (omega arith)
past (x ∷ l) (suc r) h = past l r (omega arith)

no-memory : (t : RegInfo) → ((r : ℕ) → r < num_regs t → is_memory_reg t r ≡ false) → (r : ℕ) → is_memory_reg t r ≡ false
unfolding reg_memory
no-memory t h r = go (ltb r (num_regs t)) refl
  where
    go : (b : Bool) → ltb r (num_regs t) ≡ b → is_memory_reg t r ≡ false
    go true e = h r (ltb-true _ _ e)
    go false e = ap (λ (x : Reg). eqb x.memory 1) (past t.regs r (ltb-false _ _ e))

-- a slot's list changed
shifted : (s : ℕ) (ws : List ℕ) (l : ℕ → List ℕ) (x : ℕ) → updated (512 + s) ws l (512 + x) ≡ updated s ws (λ (y : ℕ). l (512 + y)) x
unfolding updated
shifted s ws l x = go (eqb x s) refl
  where
    go : (b : Bool) → eqb x s ≡ b → pick (eqb (512 + x) (512 + s)) ws (l (512 + x)) ≡ pick b ws (l (512 + x))
    go true e = let q : x ≡ s = eqb-true x s e in rw (eq-eqb (512 + x) (512 + s) (omega arith)) refl
    go false e = rw (ne_eqb (512 + x) (512 + s) (λ q. eqb-false x s e (omega arith))) refl

memory-of : (ℕ → ℕ) → (ℕ → List ℕ) → Memory
memory-of w l = record { word = w; slots = l }

module _ (t : RegInfo) (f : Function) (none-memory : (r : ℕ) → is_memory_reg t r ≡ false) where
  memory-is : (p : Place) → is_memory t p ≡ is_slot p
  memory-is (reg r) = none-memory r
  memory-is (slot s) = refl

  read_is : (m : now.Memory) (p : Place) → now.read t f m p ≡ read t f (plain m) p
  unfolding now.read read
  read_is m (reg r) = rw (none-memory r) refl
  read_is m (slot s) = refl

  write-is : (p : Place) (ws : List ℕ) (m : now.Memory) → plain (now.write t f p ws m) ≡ write t f p ws (plain m)
  unfolding now.write write memory-of
  write-is (reg r) ws m = rw (none-memory r) refl
  write-is (slot s) ws m = ap (memory-of m.word) (fun_ext (λ x. shifted s ws m.lists x))

  fits-is : (p : Place) (n : ℕ) → now.fits t f p n ≡ fits t f p n
  unfolding now.fits fits
  fits-is (reg r) n = rw (none-memory r) refl
  fits-is (slot s) n = refl

  machine-of : Place → List ℕ → List Waiting → now.Machine → Memory → Machine
  machine-of p ws w s m = record { memory = m; waiting = w; written = record { place = p; words = ws } ∷ s.written }

  wrote-is : (p : Place) (ws : List ℕ) (w : List Waiting) (s : now.Machine) → before (now.wrote t f p ws w s) ≡ wrote t f p ws w (before s)
  unfolding machine-of
  wrote-is p ws w s = ap (machine-of p ws w s) (write-is p ws s.memory)

  when-is : (b c : Bool) (s : now.Machine) (s' : Machine) → b ≡ c → before s ≡ s' → before_all (now.when b s) ≡ when c s'
  when-is true c s s' e h = rw (← e, ← h) refl
  when-is false c s s' e h = rw (← e) refl

  module _ (content : ℕ → List ℕ) where
    -- an edit that writes, where it can be done
    written : (b c : Bool) (p : Place) (ws : List ℕ) (w : List Waiting) (s : now.Machine) → b ≡ c → before_all (now.when b (now.wrote t f p ws w s)) ≡ when c (wrote t f p ws w (before s))
    written b c p ws w s e = when-is b c (now.wrote t f p ws w s) (wrote t f p ws w (before s)) e (wrote-is p ws w s)

    step_is : (e : Edit) (s : now.Machine) → before_all (now.step t f content e s) ≡ step t f content e (before s)
    unfolding now.step step
    step_is (Move to from v) s =
        let ws = now.read t f s.memory from in
        rw (← read_is s.memory from)
        (written (and (no (and (is_memory t to) (is_memory t from))) (now.fits t f to (length ws))) (and (no (and (is_slot to) (is_slot from))) (fits t f to (length ws))) to ws s.waiting s
        (rw (memory-is to, memory-is from, fits-is to (length ws)) refl))
    step_is (Rematerialize to v) s = let b = and (can_rematerialize f v) (in_class t (remat_class f v) to) in written b b to (content v) s.waiting s refl
    step_is (EmergencySpill x r) s =
        let ws = now.read t f s.memory (reg r) in
        rw (← read_is s.memory (reg r)) (ap some (wrote-is (slot x) ws (record { reg = r; slot = x; words = ws } ∷ without r s.waiting) s))
    step_is (EmergencyReload r x) s =
        let ws = in_slot s.memory x in
        written (now.fits t f (reg r) (length ws)) (fits t f (reg r) (length ws)) (reg r) ws (without r s.waiting) s (fits-is (reg r) (length ws))

    steps-is : (es : List Edit) (s : now.Machine) → before_all (now.steps t f content es s) ≡ steps t f content es (before s)
    unfolding now.steps steps and_then
    steps-is [] s = refl
    steps-is (e ∷ es) s = go (now.step t f content e s) (λ s'. steps-is es s') ∙ ap (λ (o : Option Machine). and_then o (steps t f content es)) (step_is e s)
      where
        go : (o : Option now.Machine) → ((s' : now.Machine) → before_all (now.steps t f content es s') ≡ steps t f content es (before s'))
            → before_all (and_then o (now.steps t f content es)) ≡ and_then (before_all o) (steps t f content es)
        go none on = refl
        go (some s') on = on s'

  counted_is : (l : List Waiting) (m : now.Memory) → plain (now.counted t f l m) ≡ counted t f l (plain m)
  unfolding now.counted counted
  counted_is [] m = refl
  counted_is (w ∷ l) m = write-is (reg w.reg) w.words (now.counted t f l m) ∙ ap (write t f (reg w.reg) w.words) (counted_is l m)

pub nothing-else-moves : NothingElseMoves
nothing-else-moves t f h content =
    let n = no-memory t h in
    record {
      holds = read_is t f n;
      does = step_is t f n content;
      does-all = steps-is t f n content;
      sees = λ s. counted_is t f n s.waiting s.memory;
    }
