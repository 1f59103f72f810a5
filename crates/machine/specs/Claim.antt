-- Demand 3, as one claim about a whole list of requests. One claim, since each call gets the cache that the last one left: of calls taken one by one
-- it would have to be asked that the cache is a good one, and a resolver that spoils it for the next could pass.
use Rattle.std.specs.Prelude.{ℕ, ◌<◌, ◌≤◌, ◌≡◌, false, ◌⊎◌, length, get_or, take}
use mathlib.Core.List.{List, [], ◌∷◌, Memᴰ}
use Rattle.std.proofs.Math.Option.{Option, none, some}
use Rattle.entity.specs.Logic.{any_in, has}
use Rattle.entity.specs.Place.{Place, slot, same_place}
use Rattle.reginfo.specs.RegInfo.{RegInfo, num_regs, bank_for_reg, reg_units, is_memory_reg}
use Rattle.reginfo.specs.Refused as target
use Rattle.function.specs.Function.{Function, num_values, value_bank}
use Rattle.function.specs.Refused as function
use Rattle.rules.specs.Edit.{Edit}
use Rattle.rules.specs.Scratch.{Cache, units_of_reg}
use Rattle.rules.specs.Order.{KeptMove, no_move}
use Rattle.rules.specs.Patch.{Entry, move, remat, Patch, sorted, bound, Answer, refused, resolved, resolve, Call, cache_after}
use Rattle.rules.specs.Take.{Request, Served, fresh, Standing, standing, after}
use Rattle.machine.specs.Machine.{Memory, in_slot, Waiting, Machine, begin, read, steps, seen}

-- where an entry puts its value, whatever becomes of it: kept, dropped or rebuilt
-- all destinations are excepted at a stop, and all must hold their values at the end
abbrev pub entry_dest : Entry → Place
entry_dest (move s d v) = d
entry_dest (remat d v) = d

abbrev pub entry_value : Entry → ℕ
entry_value (move s d v) = v
entry_value (remat d v) = v

-- the slot of each register that waits holds what was saved
-- Else the reload would bring back other words than those that count meanwhile.
abbrev pub Saved : Machine → Type 0
Saved s = (w : Waiting) → Memᴰ w s.waiting → in_slot s.memory w.slot ≡ w.words

module _ (t : RegInfo) (f : Function) where
  -- "Each value has a content, as many words as its bank's registers have units."; 02 b: "as wide as those registers of its bank that are
  -- not memory"
  abbrev pub Contents : (ℕ → List ℕ) → Type 0
  Contents content = (v r : ℕ) → v < num_values f → r < num_regs t → is_memory_reg t r ≡ false → bank_for_reg t r ≡ value_bank f v → length (content v) ≡ length (reg_units t r)

  module _ (p : Patch) (content : ℕ → List ℕ) where
    abbrev pub kept : ℕ → KeptMove
    kept i = get_or (sorted t f p).moves i no_move

    abbrev pub num_kept : ℕ
    num_kept = length (sorted t f p).moves

    -- "let each kept move's source hold its value's content when the patch begins"
    -- It is asked of kept moves alone: a rebuild reads no source, and the source of a move that became one need not hold anything.
    abbrev pub Holding : Memory → Type 0
    Holding start = (i : ℕ) → i < num_kept → read t f start (kept i).source ≡ content (kept i).value

    -- "a source or destination of a kept move of its value"
    -- Of its value, not its own: where two moves of a value share a diversion, the source of the second may be overwritten while the value stands in
    -- that of the first or in the scratch (trial `join-counts`).
    abbrev pub OfValue : Place → ℕ → Type 0
    OfValue q v = (i : ℕ) × (i < num_kept) × ((kept i).value ≡ v) × ((q ≡ (kept i).source) ⊎ (q ≡ (kept i).dest))

    -- "A scratch place is one that an earlier edit of the patch wrote with that content."
    abbrev pub IsScratch : Machine → Place → ℕ → Type 0
    IsScratch s q v = Memᴰ (record { place = q; words = content v }) s.written

    -- "every register unit and slot outside destinations, free units and emergency slots holds what it held when the patch began", its word
    -- and, as an argument word's, its list, "and every kept move's content stands whole in a source or destination of a kept move of its value
    -- or in a scratch place". "Destinations are those of all entries, emergency slots those from N on."
    -- Destinations and free units are excepted since the resolver uses them as scratch; emergency slots are its own. Everything else is somebody's.
    -- `seen`: a register that waits counts as holding what was saved.
    pub record Stopped (start : Memory) (s : Machine) : Type 0 where
      pub units :
          (u : ℕ) → u < 512 → any_in (λ e. has u (units_of_reg t f (entry_dest e))) p.entries ≡ false → has u p.free ≡ false
          → ((seen t f s).word u ≡ start.word u) × ((seen t f s).lists u ≡ start.lists u)
      pub slots : (x : ℕ) → x < f.slots → any_in (λ e. same_place (slot x) (entry_dest e)) p.entries ≡ false → in_slot (seen t f s) x ≡ in_slot start x
      pub survives :
          (i : ℕ) → i < num_kept → (q : Place) × (read t f (seen t f s) q ≡ content (kept i).value) × (OfValue q (kept i).value ⊎ IsScratch s q (kept i).value)

    -- "With all edits done each destination holds its value's content and no register waits saved."
    -- Here `memory`, not `seen`: nothing waits, so both are the same, and a destination must hold its value itself.
    pub record Finished (s : Machine) : Type 0 where
      pub entries : (e : Entry) → Memᴰ e p.entries → read t f s.memory (entry_dest e) ≡ content (entry_value e)
      pub none-waits : s.waiting ≡ []

    -- from one start: "Then the machine can do every edit. After whichever number of edits it stops, none and all included"
    pub record RightFrom (start : Memory) (es : List Edit) : Type 0 where
      pub stops : (k : ℕ) → (s : Machine) × (steps t f content (take k es) (begin start) ≡ some s) × Stopped start s
      pub ends : (s : Machine) × (steps t f content es (begin start) ≡ some s) × Finished s

    -- "whatever else the machine holds"
    -- For every start, so that no word is right by chance.
    abbrev pub Right : List Edit → Type 0
    Right es = (start : Memory) → Holding start → RightFrom start es

    -- more than the demand: wherever the edits stop, the slot of each register that waits holds what was saved, so that its reload brings that
    -- back
    abbrev pub Keeps : List Edit → Type 0
    Keeps es = (start : Memory) → Holding start → (k : ℕ) (s : Machine) → steps t f content (take k es) (begin start) ≡ some s → Saved s

  -- of an accepted patch: "whatever the contents are"; "Whatever the sources hold, the edits number at
  -- most 8 × kept moves + 5 × rebuilds with scratch + other rebuilds."
  -- The bound stands beside `right` and not in it: it holds whatever the sources hold.
  pub record Accepted (p : Patch) (es : List Edit) : Type 0 where
    pub right : (content : ℕ → List ℕ) → Contents content → Right p content es
    pub few : length es ≤ bound (sorted t f p)
    pub saved : (content : ℕ → List ℕ) → Contents content → Keeps p content es

  -- That not everything is refused, this cannot say: which number is given when is `Refusals` of rules.
  abbrev pub Answered : Patch → Answer → Type 0
  Answered p (refused n) = Unit {0}
  Answered p (resolved es c n) = Accepted p es

  -- 02 g: of what stands in the list, resolved or taken; nothing of a patch that is only asked for, nor where there is nothing to take
  abbrev pub Owed : Option Standing → Type 0
  Owed none = Unit {0}
  Owed (some x) = Answered x.patch x.answer

  -- request by request, each with the cache that the last one returned or left
  abbrev pub RequestsClaim : List Request → Served → Type 0
  RequestsClaim [] s = Unit {0}
  RequestsClaim (x ∷ l) s = Owed (standing t f x s) × RequestsClaim l (after t f x s)

  -- the same of `resolve` calls alone, as a job has them: what `RequestsClaim` says of them (`demand-3-of-calls`)
  abbrev pub Claim : List Call → Cache → Type 0
  Claim [] c = Unit {0}
  Claim (x ∷ l) c = Answered x.patch (resolve t f x.patch x.room c) × Claim l (cache_after c (resolve t f x.patch x.room c))

-- "For every list of one function's `resolve` calls from a fresh slot cache, refused ones included"; 02 g: among them askings, which "are not part
-- of the list", and takes: "a taken one stands in it as a resolved one, a take refused with 20 as a refused call"
abbrev pub Demand3 : Type 0
Demand3 = (t : RegInfo) (f : Function) → target.Accepted t → function.Accepted t f → (requests : List Request) → RequestsClaim t f requests fresh
