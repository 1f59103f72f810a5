-- What the rows of carried values say of the rules' diverted values.
use Rattle.std.specs.Prelude.{ℕ, ◌+◌, ◌≤◌, ◌≡◌, false, List}
use Rattle.std.proofs.Math.Option.{Option, none, some}
use Rattle.rules.specs.Order.{State, is_pending, Diverted, carry_one}
use Rattle.carried.specs.Carried.{count_of, carried_by}
use Rattle.visits.specs.Marks.{is_done}

-- the rows hold what each move carries that is not closed
abbrev pub RowsAgree : (ℕ → State) → Diverted → List ℕ → Type 0
RowsAgree s d c = (x : ℕ) → is_done (s x) ≡ false → d.values x ≡ carried_by c x

-- a move, if any, carries the value
abbrev pub carry_for : ℕ → (ℕ → State) → Option ℕ → Diverted → Diverted
carry_for v s none d = d
carry_for v s (some m) d = carry_one v s m d

-- from d to d' the value is carried by `added` more moves, as the rows c say
pub record Counted (s : ℕ → State) (v : ℕ) (d d' : Diverted) (c : List ℕ) (added : ℕ) : Type 0 where
  pub rows : RowsAgree s d' c
  pub more : d'.ref_count v ≡ d.ref_count v + added
  pub others : (x : ℕ) → (x ≡ v → ⊥) → d'.ref_count x ≡ d.ref_count x

-- the rows went from c to c' as `step` has it, by `added` rows, at most `most`
pub record CarriedAs (s : ℕ → State) (v : ℕ) (c c' : List ℕ) (added most : ℕ) (step : Diverted → Diverted) : Type 0 where
  pub count : count_of c' ≡ count_of c + added
  pub few : added ≤ most
  pub still : (x : ℕ) → is_pending (s x) ≡ false → carried_by c' x ≡ carried_by c x
  pub diverted : (d : Diverted) → RowsAgree s d c → Counted s v d (step d) c' added
