-- What is asked of a function whatever its L: its values' banks and rebuild classes are there, and it keeps an eviction.
use Prim.Native.Nat.{ℕ, ◌<◌}
use mathlib.Core.Path.{◌≡◌}
use mathlib.Core.Bool.{true}
use Rattle.reginfo.specs.RegInfo.{RegInfo, num_banks, num_classes, bank_for_class}
use Rattle.function.specs.Function.{Function, num_values, value_bank, remat_cost, remat_class, can_rematerialize}
use Rattle.function.specs.Refused as function
use Rattle.function.proofs.Laws.{bank-there, class-there, class-of-bank, kept-some}
use Rattle.rules.specs.Refusals.{with_limit}

pub record Banked (t : RegInfo) (f : Function) : Type 0 where
  pub bank : (v : ℕ) → v < num_values f → value_bank f v < num_banks t
  pub class : (v : ℕ) → v < num_values f → can_rematerialize f v ≡ true → remat_class f v < num_classes t
  pub own : (v : ℕ) → v < num_values f → can_rematerialize f v ≡ true → bank_for_class t (remat_class f v) ≡ value_bank f v
  pub kept : 0 < f.kept

pub banked : (t : RegInfo) (f : Function) → function.Accepted t f → Banked t f
banked t f a = record { bank = bank-there t f a; class = class-there t f a; own = class-of-bank t f a; kept = kept-some t f a }

pub banked-within : (t : RegInfo) (f : Function) (l : ℕ) → Banked t f → Banked t (with_limit t f l)
unfolding value_bank remat_cost remat_class
banked-within t f l b = record { bank = b.bank; class = b.class; own = b.own; kept = b.kept }
