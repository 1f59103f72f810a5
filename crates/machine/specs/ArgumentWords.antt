-- 02 b, argument words: what memory takes, and that every accepted target has contents.
use Rattle.std.specs.Prelude.{ℕ, ◌<◌, ◌≡◌, true, false, List, length}
use Rattle.std.proofs.Math.Option.{Option, some}
use Rattle.entity.specs.Place.{Place, reg}
use Rattle.reginfo.specs.RegInfo.{RegInfo, is_memory_reg, is_memory, in_class}
use Rattle.reginfo.specs.Refused as target
use Rattle.function.specs.Function.{Function, num_values, can_rematerialize, remat_class}
use Rattle.function.specs.Refused as function
use Rattle.rules.specs.Edit.{Move, Rematerialize, EmergencyReload}
use Rattle.machine.specs.Machine.{in_slot, Machine, read, step}
use Rattle.machine.specs.Claim.{Contents}

-- the edit is done, and then the place holds ws
abbrev pub Takes : RegInfo → Function → Place → Option Machine → List ℕ → Type 0
Takes t f p o ws = (s : Machine) × (o ≡ some s) × (read t f s.memory p ≡ ws)

-- a memory register "holds a whole list and takes any length from a move, a rebuild or a reload, as a slot does"
pub record TakesAny (t : RegInfo) (f : Function) (content : ℕ → List ℕ) (s : Machine) : Type 0 where
  pub moved : (p from : Place) (v : ℕ) → is_memory t p ≡ true → is_memory t from ≡ false → Takes t f p (step t f content (Move p from v) s) (read t f s.memory from)
  pub rematted : (p : Place) (v : ℕ) → is_memory t p ≡ true → can_rematerialize f v ≡ true → in_class t (remat_class f v) p ≡ true → Takes t f p (step t f content (Rematerialize p v) s) (content v)
  pub reloaded : (r x : ℕ) → is_memory_reg t r ≡ true → Takes t f (reg r) (step t f content (EmergencyReload r x) s) (in_slot s.memory x)

abbrev pub MemoryTakesAny : Type 0
MemoryTakesAny = (t : RegInfo) (f : Function) (content : ℕ → List ℕ) (s : Machine) → TakesAny t f content s

-- each value has a width, and all words of that width can be its content: so the premise of demand 3 can be met
abbrev pub ContentsExist : Type 0
ContentsExist = (t : RegInfo) (f : Function) → target.Accepted t → function.Accepted t f → (width : ℕ → ℕ) × ((content : ℕ → List ℕ) → ((v : ℕ) → v < num_values f → length (content v) ≡ width v) → Contents t f content)
