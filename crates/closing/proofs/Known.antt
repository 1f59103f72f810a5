-- What is known of kept moves that passed their tests, where the limit on slots is put off.
use Prim.Native.Nat.{ℕ, ◌+◌, ◌<◌, ◌≤◌}
use mathlib.Core.Path.{◌≡◌, sym, ap, ◌∙◌}
use mathlib.Core.Bool.{true}
use mathlib.Core.List.{List}
use native.Mathlib.Omega.{arith}
use lib.ListN.{length, get_or}
use borrow.Author.Tests.{ltb-true}
use Rattle.entity.specs.Place.{Place, reg, slot, code_of, place_at, names}
use Rattle.entity.proofs.Laws.{code-there}
use Rattle.reginfo.specs.RegInfo.{num_regs}
use Rattle.reginfo.specs.Known.{KnownPlace}
use Rattle.reginfo.proofs.Accepted.{regs-fit}
use Rattle.function.specs.Function.{num_values, value_bank}
use Rattle.function.specs.Known.{Checked}
use Rattle.function.specs.Table.{function_of}
use Rattle.function.proofs.Laws.{few-values, few-slots}
use Rattle.rules.specs.Order.{no_move}
use Rattle.rules.specs.Sorted.{MoveOk}
use Rattle.entries.specs.Known.{EntriesOk}
use Rattle.scratch.specs.State.{T, F, PlaceFits}
use Rattle.scratch.specs.Diversions.{count_at, alloc_at, scratch_at, OthersStay}
use Rattle.visits.specs.Marks.{moves_of}
use Rattle.visits.proofs.Writers.{ready}
use Rattle.closing.specs.State.{MovesOk, Given, KeptValue}

low-code : (regs slots : ℕ) (p : Place) → names regs slots p ≡ true → regs ≤ 512 → slots ≤ 4096 → code_of p < 16384
low-code regs slots (reg r) h a b = omega (arith, ltb-true r regs h)
low-code regs slots (slot s) h a b = omega (arith, ltb-true s slots h)

-- the code of a place that is named
pub place-fits : (t f : List ℕ) → Checked t f → (p : Place) (code : ℕ) → names (num_regs (T t)) (function_of f).slots p ≡ true → KnownPlace (T t) p → place_at code ≡ p → PlaceFits t code
place-fits t f known p code named ok e =
    let q : code_of p ≡ code = sym (ap code_of e) ∙ code-there code in
    record { known = rw e ok; small = omega (arith, q, low-code (num_regs (T t)) (function_of f).slots p named (regs-fit (T t) known.target).1 (few-slots (T t) (function_of f) known.function)) }

move-ok : (t f : List ℕ) (i : ℕ) (e : List ℕ) → MoveOk (T t) (function_of f) (get_or (moves_of e) i no_move) → MoveOk (T t) (F f) (get_or (moves_of e) i no_move)
unfolding value_bank
move-ok t f i e h =
    record { source-named = h.source-named; dest-named = h.dest-named; value-named = h.value-named; source-bank = h.source-bank; dest-bank = h.dest-bank; differ = h.differ }

-- a patch that was built of entries
pub given : (t f e w : List ℕ) → Checked t f → EntriesOk t f e w → Given t f e w
given t f e w known ok =
    let r = ready t f e w known ok in
    record { moves = record { checked = known; kept = r.kept; named = λ i h. move-ok t f i e (ok.sorted.moves i h) }; ready = r }

module _ (t f e : List ℕ) (ok : MovesOk t f e) where
  pub value_there : (m : ℕ) → m < length (moves_of e) → (get_or (moves_of e) m no_move).value < num_values (function_of f)
  value_there m h = (ok.named m h).value-named

  pub value_low : (m : ℕ) → m < length (moves_of e) → (get_or (moves_of e) m no_move).value < 4096
  value_low m h = omega (arith, value_there m h, few-values (T t) (function_of f) ok.checked.function)

  pub kept_there : (v : ℕ) → KeptValue e v → v < num_values (function_of f)
  kept_there v k = rw (← k.2) (value_there k.0 k.1)

  pub kept_low : (v : ℕ) → KeptValue e v → v < 4096
  kept_low v k = omega (arith, kept_there v k, few-values (T t) (function_of f) ok.checked.function)

  -- a value's diversion is noted: another value's cells are not touched
  pub cells_stay : (d d' : List ℕ) (v : ℕ) → KeptValue e v → OthersStay v d d' → (y : ℕ) → KeptValue e y → (y ≡ v → ⊥)
      → (count_at d' y ≡ count_at d y) × (alloc_at d' y ≡ alloc_at d y) × (scratch_at d' y ≡ scratch_at d y)
  cells_stay d d' v kv others y ky n =
      let a : y < 4096 = kept_low y ky in
      let b : v < 4096 = kept_low v kv in (
        others y n (λ q. omega arith) (λ q. omega arith),
        others (4096 + y) (λ q. omega arith) (λ q. n (omega arith)) (λ q. omega arith),
        others (8192 + y) (λ q. omega arith) (λ q. omega arith) (λ q. n (omega arith)),
      )

  pub source_fits : (m code : ℕ) → m < length (moves_of e) → place_at code ≡ (get_or (moves_of e) m no_move).source → PlaceFits t code
  source_fits m code h q = place-fits t f ok.checked _ code (ok.named m h).source-named (ok.kept.sources m h).known q

  pub dest-fits : (m code : ℕ) → m < length (moves_of e) → place_at code ≡ (get_or (moves_of e) m no_move).dest → PlaceFits t code
  dest-fits m code h q = place-fits t f ok.checked _ code (ok.named m h).dest-named (ok.kept.dests m h).known q
