-- 02 j, enough emergency slots: how many are enough, and that each lies in the stack of its size.
use Rattle.std.specs.Prelude.{ℕ, ◌+◌, ◌*◌, ◌<◌, ◌≤◌, ◌≡◌, Bool, true, eqb, length}
use mathlib.Core.List.{List, [], ◌∷◌, ◌++◌, Memᴰ}
use Rattle.std.proofs.Math.Option.{Option, none, some}
use Rattle.entity.specs.Logic.{or, any_in, has, indices}
use Rattle.entity.specs.Place.{slot, same_place}
use Rattle.reginfo.specs.RegInfo.{RegInfo, num_banks, bank_for_reg, spillslot_size}
use Rattle.reginfo.specs.Refused as target
use Rattle.function.specs.Function.{Function, num_values, value_bank}
use Rattle.function.specs.Refused as function
use Rattle.rules.specs.Edit.{Edit, Move, Rematerialize, EmergencySpill, EmergencyReload, filter}
use Rattle.rules.specs.Scratch.{Cache}
use Rattle.rules.specs.Patch.{Answer, refused, resolved, resolve, Call, cache_after}
use Rattle.rules.specs.Refusals.{with_limit}
use Rattle.rules.specs.Take.{Request, Served, fresh, Standing, standing, answered, after}
use Rattle.machine.specs.Slots.{InStacks}

-- how many of the 32 slot sizes pass a test
unfoldable pub sizes_that : (ℕ → Bool) → ℕ
sizes_that p = length (filter p (indices 0 32))

-- the bank of one of the function's values has slots of size z
abbrev pub is_size : RegInfo → Function → ℕ → Bool
is_size t f z = any_in (λ v. eqb (spillslot_size t (value_bank f v)) z) (indices 0 (num_values f))

-- "the number of different slot sizes among its banks": the function's banks are those of its values
abbrev pub num_sizes : RegInfo → Function → ℕ
num_sizes t f = sizes_that (is_size t f)

-- and among all banks of the target
abbrev pub is_bank_size : RegInfo → ℕ → Bool
is_bank_size t z = any_in (λ b. eqb (spillslot_size t b) z) (indices 0 (num_banks t))

abbrev pub num_bank_sizes : RegInfo → ℕ
num_bank_sizes t = sizes_that (is_bank_size t)

module _ (t : RegInfo) (f : Function) where
  -- "a function never meets 17", request by request (02 g), askings too, each with the cache that the last one returned or left
  abbrev pub RequestsNeverOut : List Request → Served → Type 0
  RequestsNeverOut [] s = Unit {0}
  RequestsNeverOut (x ∷ l) s = (answered t f x s ≡ some (refused 17) → ⊥) × RequestsNeverOut l (after t f x s)

  -- the same of `resolve` calls alone
  abbrev pub NeverOut : List Call → Cache → Type 0
  NeverOut [] c = Unit {0}
  NeverOut (x ∷ l) c = (resolve t f x.patch x.room c ≡ refused 17 → ⊥) × NeverOut l (cache_after c (resolve t f x.patch x.room c))

  -- the bank of an edit: of M and R the value's, of S and L the register's
  abbrev pub edit_bank : Edit → ℕ
  edit_bank (Move to from v) = value_bank f v
  edit_bank (Rematerialize to v) = value_bank f v
  edit_bank (EmergencySpill s r) = bank_for_reg t r
  edit_bank (EmergencyReload r s) = bank_for_reg t r

  abbrev pub edit_size : Edit → ℕ
  edit_size e = spillslot_size t (edit_bank e)

  abbrev pub names_slot : ℕ → Edit → Bool
  names_slot s (Move to from v) = or (same_place to (slot s)) (same_place from (slot s))
  names_slot s (Rematerialize to v) = same_place to (slot s)
  names_slot s (EmergencySpill x r) = eqb x s
  names_slot s (EmergencyReload r x) = eqb x s

  -- each emergency slot that an edit names lies in the stack of the size of that edit's bank
  abbrev pub InTheirStacks : List Edit → Cache → Type 0
  InTheirStacks es c = (e : Edit) → Memᴰ e es → (s : ℕ) → f.slots ≤ s → names_slot s e ≡ true → has s (c.stacks (edit_size e)) ≡ true

  -- of a resolved call, a take or an asking (of the cache that its take makes): so it is after it, and an edit of it names every slot that it made
  pub record OfItsSize (c : Cache) (es : List Edit) (c' : Cache) : Type 0 where
    pub lies : InTheirStacks es c'
    pub named : (s : ℕ) → f.slots + c.made ≤ s → s < f.slots + c'.made → any_in (names_slot s) es ≡ true

  abbrev pub Sized : Cache → Answer → Type 0
  Sized c (refused n) = Unit {0}
  Sized c (resolved es c' n) = OfItsSize c es c'

  abbrev pub SizedIn : Cache → Option Answer → Type 0
  SizedIn c none = Unit {0}
  SizedIn c (some r) = Sized c r

  abbrev pub edits_of : Answer → List Edit
  edits_of (refused n) = []
  edits_of (resolved es c n) = es

  abbrev pub edits_in : Option Standing → List Edit
  edits_in none = []
  edits_in (some x) = edits_of x.answer

  -- "between patches every slot made lies in the stack of its size once": `es` are the edits of all patches resolved or taken so far. A slot's size
  -- is that of the bank of the edits that name it.
  pub record Between (es : List Edit) (c : Cache) : Type 0 where
    -- in exactly one stack, once
    pub once : InStacks f c
    -- and in that of its size
    pub lies : InTheirStacks es c
    -- an edit names each
    pub named : (s : ℕ) → f.slots ≤ s → s < f.slots + c.made → any_in (names_slot s) es ≡ true

  abbrev pub RequestsSizes : List Request → List Edit → Served → Type 0
  RequestsSizes [] es s = Between es s.now.cache
  RequestsSizes (x ∷ l) es s =
      Between es s.now.cache × SizedIn s.now.cache (answered t f x s) × RequestsSizes l (es ++ edits_in (standing t f x s)) (after t f x s)

  -- the same of `resolve` calls alone
  abbrev pub SizesClaim : List Call → List Edit → Cache → Type 0
  SizesClaim [] es c = Between es c
  SizesClaim (x ∷ l) es c =
      Between es c × Sized c (resolve t f x.patch x.room c)
      × SizesClaim l (es ++ edits_of (resolve t f x.patch x.room c)) (cache_after c (resolve t f x.patch x.room c))

abbrev pub EachOfItsSize : Type 0
EachOfItsSize = (t : RegInfo) (f : Function) → target.Accepted t → function.Accepted t f → (requests : List Request) → RequestsSizes t f requests [] fresh

-- so many a size and so many more as evictions are kept
-- In use at once are at most one slot for each diversion, of which a move begins one, and one for each kept eviction; all others of a size lie in its
-- stack. A root is never diverted, so 127 would do for 128 moves (`FewerEnough`).
abbrev pub EnoughWith : ℕ → Type 0
EnoughWith n =
    (t : RegInfo) (f : Function) → target.Accepted t → function.Accepted t f → (n + f.kept) * num_sizes t f ≤ f.limit → (requests : List Request) → RequestsNeverOut t f requests fresh

-- "With one kept eviction, [..] a function never meets 17 if L is at least 129 times the number of different slot sizes among its banks, for
-- every list of demand 3 [..]. With two, 130 stands for 129."
abbrev pub Enough : Type 0
Enough = EnoughWith 128

-- one fewer of each size is enough too
abbrev pub FewerEnough : Type 0
FewerEnough = EnoughWith 127

-- the same with the sizes of all the target's banks
abbrev pub EnoughForTarget : Type 0
EnoughForTarget =
    (t : RegInfo) (f : Function) → target.Accepted t → function.Accepted t f → (128 + f.kept) * num_bank_sizes t ≤ f.limit → (requests : List Request) → RequestsNeverOut t f requests fresh

-- "an L to plan with": at most 1,040, one that the function may have, and with it no request gets 17
abbrev pub enough_slots : RegInfo → Function → ℕ
enough_slots t f = (128 + f.kept) * num_sizes t f

abbrev pub planned : RegInfo → Function → Function
planned t f = with_limit t f (enough_slots t f)

abbrev pub Plan : Type 0
Plan =
    (t : RegInfo) (f : Function) → target.Accepted t → function.Accepted t f
    → (enough_slots t f ≤ 1040) × function.Accepted t (planned t f) × ((requests : List Request) → RequestsNeverOut t (planned t f) requests fresh)
