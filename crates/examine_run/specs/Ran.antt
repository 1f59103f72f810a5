-- 02 m: the machine's run as its memory alone, by words that are edits.
use Rattle.std.specs.Prelude.{ℕ, ◌≡◌, Bool, List, [], ◌∷◌, length, get_or}
use Rattle.std.proofs.Math.Option.{Option, none, some}
use Rattle.entity.specs.Logic.{pick}
use Rattle.reginfo.specs.RegInfo.{RegInfo}
use Rattle.function.specs.Function.{Function}
use Rattle.rules.specs.Edit.{Edit, and_then}
use Rattle.edit.specs.Word.{edit_of}
use Rattle.edit.specs.Buffer.{or_edit}
use Rattle.machine.specs.Machine.{Memory, Machine, begin, write, fits, step}
use Rattle.entity.specs.Place.{Place}
use Rattle.rules.specs.Order.{KeptMove, no_move}
use Rattle.examine_rules.specs.Examine.{generic_content}

abbrev pub memory_in : Option Machine → Option Memory
memory_in none = none
memory_in (some s) = some s.memory

-- m, if it could be done
abbrev pub if : Bool → Memory → Option Memory
if b m = pick b (some m) none

-- the edit that a word is
abbrev pub edit_at : ℕ → Edit
edit_at w = or_edit (edit_of w)

module _ (t : RegInfo) (f : Function) where
  -- words put into a place, if it takes so many
  abbrev pub PutIf : Place → List ℕ → Memory → Bool → Memory → Type 0
  PutIf p ws m r m' = pick (fits t f p (length ws)) (some (write t f p ws m)) none ≡ if r m'

  -- the source of kept move i written with its value
  abbrev pub LaidOne : List KeptMove → ℕ → Memory → Memory → Type 0
  LaidOne ms i m m' = m' ≡ write t f (get_or ms i no_move).source (generic_content t f ms (get_or ms i no_move).value) m

module _ (t : RegInfo) (f : Function) (content : ℕ → List ℕ) where
  -- the memory after an edit, which never looks at what waits or was written
  unfoldable pub stepped : Edit → Memory → Option Memory
  stepped e m = memory_in (step t f content e (begin m))

  unfoldable pub ran : List ℕ → Memory → Option Memory
  ran [] m = some m
  ran (w ∷ ws) m = and_then (stepped (edit_at w) m) (ran ws)
