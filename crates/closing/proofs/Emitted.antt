-- A kept move emitted.
use Prim.Native.Nat.{ℕ}
use mathlib.Core.Path.{◌≡◌}
use mathlib.Core.List.{List}
use lib.ListN.{get_or}
use Rattle.entity.specs.Place.{place_at}
use Rattle.function.specs.Function.{value_bank}
use Rattle.function.specs.Table.{function_of}
use Rattle.function.proofs.Laws.{bank-there}
use Rattle.rules.specs.Scratch.{do_move}
use Rattle.rules.specs.Order.{no_move, value, dest}
use Rattle.scratch.specs.declared.ScratchAllocator.{ScratchAllocator}
use Rattle.scratch.specs.State.{T, F, Movable}
use Rattle.scratch.specs.Promises.{Tables, Moved}
use Rattle.scratch.proofs.Unlimited.{same-bank}
use Rattle.visits.specs.Marks.{moves_of}
use Rattle.closing.specs.State.{Emits}
use Rattle.closing.proofs.Known.{value_there, value_low, dest-fits}

module _ (t f e : List ℕ) (m b to from v : ℕ) (ok : Emits t f e m from) (ev : v ≡ (get_or (moves_of e) m no_move).value) (eb : b ≡ value_bank (function_of f) v) (et : place_at to ≡ (get_or (moves_of e) m no_move).dest) where
  pub movable : Movable t f b to from v
  movable =
      record {
        checked = ok.moves.checked;
        bank = rw (eb, ev) (bank-there (T t) (function_of f) ok.moves.checked.function _ (value_there t f e ok.moves m ok.low));
        to-fits = dest-fits t f e ok.moves m to ok.low et;
        from-fits = ok.from-fits;
        value = rw ev (value_low t f e ok.moves m ok.low);
      }

pub emitted : (t f cache e : List ℕ) (m b to from v : ℕ) (k : ScratchAllocator) (w : Tables) (k' : ScratchAllocator) (w' : Tables) → v ≡ (get_or (moves_of e) m no_move).value → b ≡ value_bank (function_of f) v → place_at to ≡ (get_or (moves_of e) m no_move).dest
    → Moved t f cache k w k' w' (do_move (T t) (F f) b (place_at to) (place_at from) v)
    → Moved t f cache k w k' w' (do_move (T t) (F f) (value_bank (F f) (value (T t) (F f) (moves_of e) m)) (dest (T t) (F f) (moves_of e) m) (place_at from) (value (T t) (F f) (moves_of e) m))
emitted t f cache e m b to from v k w k' w' ev eb et h = rw (← ev, ← et, same-bank f v, ← eb) h
