-- What the entries of an accepted patch give.
use Prim.Native.Nat.{ℕ, ◌<◌, ◌≤◌}
use mathlib.Core.Path.{◌≡◌, refl, ap}
use mathlib.Core.Bool.{Bool, true, false}
use mathlib.Core.List.{List}
use native.Mathlib.Omega.{arith}
use borrow.Author.Tests.{ltb-true}
use Rattle.entity.specs.Place.{Place, reg, slot, code_of, place_at}
use Rattle.entity.proofs.Laws.{code-there}
use Rattle.reginfo.specs.RegInfo.{num_regs, num_banks, num_classes, bank_for_class}
use Rattle.reginfo.specs.Known.{KnownClass}
use Rattle.reginfo.proofs.Accepted.{known-class, class-bank-fits}
use Rattle.function.specs.Function.{value_bank, remat_cost, remat_class, can_rematerialize}
use Rattle.function.specs.Known.{KnownValue, Checked}
use Rattle.function.specs.Table.{function_of}
use Rattle.function.proofs.Laws.{known-value, few-values, cost-there, class-there}
use Rattle.rules.specs.Order.{Remat}
use Rattle.rules.specs.Patch.{names_place}
use Rattle.rules.specs.Sorted.{RematOk}
use Rattle.scratch.specs.State.{T, F, PlaceFits}
use Rattle.entries.specs.Known.{EntriesOk}
use Rattle.entries.specs.Table.{remat_as}
use Rattle.entries.proofs.Fates.{few-regs, slots-fit, writable}
use Rattle.visits.specs.Marks.{remats_of, remats_with_scratch_of}
use Rattle.visits.proofs.Writers.{few-remats}
use Rattle.remats.specs.Remats.{RematFits, RematsFit, RematsOk}

-- a limit that is never met changes no test of a rebuild
pub same_ok : (t f : List ℕ) (direct : Bool) (r : Remat) → RematOk (T t) (function_of f) direct r → RematOk (T t) (F f) direct r
unfolding value_bank remat_cost remat_class
same_ok t f direct r ok = record { dest-named = ok.dest-named; value-named = ok.value-named; dest-bank = ok.dest-bank; can = ok.can; in-class = ok.in-class }

-- a rebuild read from the table
pub read_fits : (t : List ℕ) (r : Remat) (to : ℕ) → place_at to ≡ r.dest → RematFits t r → PlaceFits t to
read_fits t r to e h = record { known = rw e h.known; small = omega (arith, h.small, ap code_of e, code-there to) }

pub read_ok : (t f : List ℕ) (direct : Bool) (r : Remat) (to v : ℕ) → place_at to ≡ r.dest → v ≡ r.value → RematOk (T t) (function_of f) direct r → RematOk (T t) (function_of f) direct (remat_as to v)
read_ok t f direct r to v d u ok = rw (d, u) ok

module _ (t f : List ℕ) (known : Checked t f) where
  small-code : (p : Place) → names_place (T t) (function_of f) p ≡ true → code_of p < 16384
  small-code (reg r) h = omega (arith, ltb-true r (num_regs (T t)) h, few-regs t f known)
  small-code (slot s) h = omega (arith, ltb-true s (function_of f).slots h, slots-fit t f known)

  pub remat-fits : (direct : Bool) (r : Remat) → RematOk (T t) (function_of f) direct r → RematFits t r
  remat-fits direct r ok =
      record {
        known = (writable t f known r.dest ok.dest-named).known;
        small = small-code r.dest ok.dest-named;
        value = omega (arith, ok.value-named, few-values (T t) (function_of f) known.function);
      }

  pub remats-fit : (e w : List ℕ) → EntriesOk t f e w → RematsFit t (remats_of e)
  remats-fit e w ok = record { few = (few-remats t f e w ok).0; fits = λ i h. remat-fits true _ (ok.sorted.remats i h) }

  pub remats-ok : (e w : List ℕ) → EntriesOk t f e w → RematsOk t f (remats_with_scratch_of e)
  remats-ok e w ok = record { checked = known; few = (few-remats t f e w ok).1; ok = ok.sorted.remats_with_scratch }

  -- a rebuild with scratch: its destination, its value and its class
  module _ (to v : ℕ) (ok : RematOk (T t) (function_of f) false (remat_as to v)) where
    pub dest-fits : PlaceFits t to
    dest-fits = read_fits t (remat_as to v) to refl (remat-fits false (remat_as to v) ok)

    pub value-fits : v < 4096
    value-fits = (remat-fits false (remat_as to v) ok).value

    pub value-known : KnownValue (function_of f) v × (remat_cost (function_of f) v ≤ 2) × (can_rematerialize (function_of f) v ≡ true)
    value-known = (known-value (T t) (function_of f) known.function v ok.value-named, cost-there (T t) (function_of f) known.function v ok.value-named, ok.can)

    module _ (c : ℕ) (is : c ≡ remat_class (function_of f) v) where
      pub class-fits : c < num_classes (T t)
      class-fits = omega (arith, is, class-there (T t) (function_of f) known.function v ok.value-named ok.can)

      pub class-known : KnownClass (T t) c
      class-known = known-class (T t) known.target c class-fits

      pub bank-fits : (b : ℕ) → b ≡ bank_for_class (T t) c → b < num_banks (T t)
      bank-fits b e = omega (arith, e, class-bank-fits (T t) known.target c class-fits)
