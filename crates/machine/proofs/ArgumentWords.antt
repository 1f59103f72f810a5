-- What memory takes, and that every accepted target has contents.
use Prim.Native.Nat.{ℕ}
use mathlib.Core.Path.{◌≡◌}
use mathlib.Core.Bool.{Bool, true}
use mathlib.Core.List.{List}
use lib.ListN.{length}
use Rattle.entity.specs.Logic.{and, no}
use Rattle.entity.specs.Place.{Place, reg}
use Rattle.reginfo.specs.RegInfo.{RegInfo, is_memory, in_class}
use Rattle.function.specs.Function.{Function, can_rematerialize, remat_class}
use Rattle.machine.specs.Machine.{Memory, in_slot, Waiting, Machine, when, cell, read, write, fits, wrote, step}
use Rattle.machine.specs.ArgumentWords.{Takes, MemoryTakesAny, ContentsExist}
use Rattle.rules.proofs.Steps.{updated-same}
use Rattle.machine.proofs.Demand.{width, so-wide}

-- what is written into memory is read there
taken : (t : RegInfo) (f : Function) (p : Place) (ws : List ℕ) (m : Memory) → is_memory t p ≡ true → read t f (write t f p ws m) p ≡ ws
unfolding read write
taken t f p ws m e = rw e (updated-same (cell t f p) ws m.lists)

-- an edit that can be done and writes ws there
takes : (t : RegInfo) (f : Function) (p : Place) (b : Bool) (ws : List ℕ) (w : List Waiting) (s : Machine) → b ≡ true → is_memory t p ≡ true → Takes t f p (when b (wrote t f p ws w s)) ws
takes t f p b ws w s h e = (wrote t f p ws w s, rw h, taken t f p ws s.memory e)

pub memory-takes-any : MemoryTakesAny
unfolding fits step
memory-takes-any t f content s =
    record {
      moved = λ p from v e n. takes t f p (and (no (and (is_memory t p) (is_memory t from))) (fits t f p (length (read t f s.memory from)))) _ _ s (rw (e, n)) e;
      rematted = λ p v e c i. takes t f p (and (can_rematerialize f v) (in_class t (remat_class f v) p)) _ _ s (rw (c, i)) e;
      reloaded = λ r x e. takes t f (reg r) (fits t f (reg r) (length (in_slot s.memory x))) _ _ s (rw e) e;
    }

pub contents-exist : ContentsExist
contents-exist t f ta fa = (width t f ta fa, so-wide t f ta fa)
