-- Where a patch's words stand, computed.
use Prim.Native.Nat.{ℕ}
use mathlib.Core.Path.{◌≡◌, refl, ap}
use mathlib.Core.List.{List, [], ◌∷◌}
use mathlib.Core.Option.{Option, none, some}
use native.Mathlib.Omega.{arith}
use lib.ListN.{length, take, drop}
use Rattle.std.specs.Prelude.{Some}
use Rattle.edges.specs.Patches.{headed, patch_behind, FoundIn, patches_within}
use Rattle.edges.specs.Trials.{two, Trials}
use Rattle.edges.proofs.Laws.{nothing-found, found}

-- the words of the second patch are found at 4, one of them
only : (from count : ℕ) → FoundIn two (some (33 ∷ [])) (Some (from, count)) → ◌≡◌ {A = Option (List ℕ)} (some (33 ∷ [])) (some (take count (drop from two)))
only from count h = (found two (some (33 ∷ [])) from count h).0

some_is : {l m : List ℕ} → some l ≡ some m → l ≡ m
some_is e = cc

pub trials : Trials
unfolding headed patch_behind patches_within
trials = record {
  first = refl;
  second = refl;
  no_third = refl;
  from-1 = refl;
  all = refl;
  no-edits = refl;
  no-head = (refl, refl);
  too_far = (refl, refl);
  too_many = (refl, refl);
  not-the-last = λ h. let e : ◌≡◌ {A = Option (List ℕ)} (some (33 ∷ [])) none = h in let z : ◌≡◌ {A = ℕ} 0 1 = cc in omega arith;
  one-in-front = λ h. let z : ◌≡◌ {A = ℕ} 2 0 = ap length (some_is h) in omega arith;
  is_found = λ h. let e = nothing-found two (some (33 ∷ [])) h in let z : ◌≡◌ {A = ℕ} 0 1 = cc in omega arith;
  another = λ h. let z : ◌≡◌ {A = ℕ} 1 2 = ap length (some_is (only 1 2 h)) in omega arith;
  with-head = λ h. let z : ◌≡◌ {A = ℕ} 1 2 = ap length (some_is (only 3 2 h)) in omega arith;
  beyond = λ h. let z = (found two (some (33 ∷ [])) 4 2 h).1 in omega arith;
  not_there = λ h. let e = (found two none 5 0 h).0 in let z : ◌≡◌ {A = ℕ} 0 1 = cc in omega arith;
}
