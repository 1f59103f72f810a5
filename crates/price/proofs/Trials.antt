-- What edits cost, computed.
use Prim.Native.Nat.{ℕ}
use mathlib.Core.Path.{◌≡◌, refl}
use native.Mathlib.Omega.{arith}
use Rattle.reginfo.specs.RegInfo.{bank_for_reg}
use Rattle.function.specs.Function.{value_bank}
use Rattle.price.specs.Price.{in_range, price_in, total_of}
use Rattle.price.specs.Totals.{added, in_bank, by_bank}
use Rattle.price.specs.Trials.{Trials}

pub trials : Trials
unfolding bank_for_reg value_bank in_range price_in total_of added in_bank by_bank
trials = record {
  swap-full = refl;
  swap-often = refl;
  slots-swapped = refl;
  rebuild = refl;
  no-edits = refl;
  other-kinds = refl;
  in-range = refl;
  moves-over = refl;
  rebuilds-over = refl;
  saves-over = refl;
  reloads-over = refl;
  dearest = refl;
  most = refl;
  bank-0 = refl;
  bank-1 = refl;
  other-bank-0 = refl;
  other-bank-1 = refl;
  by_kind = refl;
  by_word = refl;
  not-all-banks = λ h. let z : ◌≡◌ {A = ℕ} 1111 110 = h.1 in omega arith;
  in-no-bank = λ h. let z : ◌≡◌ {A = ℕ} 1111 0 = h.1 in omega arith;
  other-words = λ h. let z : ◌≡◌ {A = ℕ} 100 1000 = h in omega arith;
}
