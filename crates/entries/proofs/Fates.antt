-- What becomes of a move, by what is known of its value; and places that a code names.
use Prim.Native.Nat.{ℕ, ◌+◌, ◌<◌, ◌≤◌}
use mathlib.Core.Path.{◌≡◌, refl, sym, ap, ◌∙◌}
use mathlib.Core.Bool.{Bool, true, false}
use mathlib.Core.List.{List, [], ◌∷◌}
use mathlib.Core.Option.{Option, none, some}
use native.Mathlib.Omega.{arith}
use lib.Dec.{ltb}
use lib.ListN.{get_or}
use borrow.Author.Tests.{ltb-true}
use Rattle.entity.specs.Logic.{pick, and, or, no, has, twice}
use Rattle.entity.specs.Place.{Place, reg, slot, place_at, code_of}
use Rattle.entity.proofs.Laws.{and-true, has-where, code-there}
use Rattle.reginfo.specs.RegInfo.{RegInfo, num_regs, num_classes, is_memory, in_class}
use Rattle.reginfo.specs.Known.{KnownMembers}
use Rattle.reginfo.specs.Table.{reg_info_of}
use Rattle.reginfo.proofs.Accepted.{regs-fit, width_fits, unit-low, units-once, known-place, known-members}
use Rattle.function.specs.Function.{Function, num_values, remat_cost}
use Rattle.function.specs.Known.{KnownValue}
use Rattle.function.specs.Table.{function_of}
use Rattle.function.specs.Answers.{RematData, rematerialize}
use Rattle.function.proofs.Laws.{few-values, few-slots, known-value, cost-there, class-there, never-remat, remat-known}
use Rattle.rules.specs.Patch.{names_place, needs_scratch, becomes_remat}
use Rattle.function.specs.Known.{Checked}
use Rattle.entries.specs.Known.{Writable}
use Rattle.entries.proofs.Lists.{pick-none, pick_some, or_right}

module _ (t f : List ℕ) (ok : Checked t f) where
  abbrev T : RegInfo
  T = reg_info_of t

  abbrev F : Function
  F = function_of f

  pub few-regs : num_regs T ≤ 512
  few-regs = (regs-fit T ok.target).1

  pub slots-fit : F.slots ≤ 4096
  slots-fit = few-slots T F ok.function

  -- the units of a named place can be looked up
  pub writable : (p : Place) → names_place T F p ≡ true → Writable T p
  unfolding has twice
  writable (reg r) h =
      let l : r < num_regs T = ltb-true r (num_regs T) h in
      record {
        known = known-place T ok.target F.slots (reg r) (omega (arith, slots-fit)) h;
        some = omega (arith, (width_fits T ok.target r l).0);
        few = (width_fits T ok.target r l).1;
        low = λ u e. omega (arith, unit-low T ok.target r l u e);
        once = units-once T ok.target r l;
      }
  writable (slot s) h =
      let l : s < F.slots = ltb-true s F.slots h in
      record {
        known = known-place T ok.target F.slots (slot s) (omega (arith, slots-fit)) h;
        some = omega arith;
        few = omega arith;
        low = λ u e. (let k = has-where u ((512 + s) ∷ []) e in only k.0 k.1 u k.2 (omega (arith, slots-fit)));
        once = refl;
      }
    where
      only : (k : ℕ) → k < 1 → (u : ℕ) → get_or ((512 + s) ∷ []) k 0 ≡ u → s < 4096 → u < 4608
      only k h u e l = let z : k ≡ 0 = omega arith in let q : 512 + s ≡ u = ap (λ (i : ℕ). get_or ((512 + s) ∷ []) i 0) (sym z) ∙ e in omega arith

  pub both-named : (d : Place) (v : ℕ) → and (names_place T F d) (ltb v (num_values F)) ≡ true → (names_place T F d ≡ true) × (v < num_values F)
  both-named d v e = let p = and-true (names_place T F d) (ltb v (num_values F)) e in (p.0, ltb-true v (num_values F) p.1)

  -- its code is a small number
  pub code_fits : (c : ℕ) → names_place T F (place_at c) ≡ true → c < 65536
  code_fits c h = let e : code_of (place_at c) ≡ c = code-there c in low (place_at c) h e
    where
      low : (p : Place) → names_place T F p ≡ true → code_of p ≡ c → c < 65536
      low (reg r) h e = omega (arith, ltb-true r (num_regs T) h, few-regs)
      low (slot s) h e = omega (arith, ltb-true s F.slots h, slots-fit)

  module _ (v : ℕ) (h : v < num_values F) where
    pub value-fits : v < 65536
    value-fits = omega (arith, few-values T F ok.function)

    -- a value that is looked up, and the class that it is rebuilt in
    pub value-known : KnownValue F v × (remat_cost F v ≤ 2)
    value-known = (known-value T F ok.function v h, cost-there T F ok.function v h)

    pub class_low : (x : RematData) → some x ≡ rematerialize F v → x.class < num_classes T
    class_low x e = let q = remat-known F v x e in rw (← q.2) (class-there T F ok.function v h q.0)

    pub class-known : (x : RematData) → some x ≡ rematerialize F v → KnownMembers t x.class
    class-known x e = known-members t ok.target ok.indexed x.class (class_low x e)

    abbrev fate : Place → Place → Option Bool
    fate s d = pick (becomes_remat T F s d v) (some (needs_scratch T F d v)) none

    pub fate-never : none ≡ rematerialize F v → (s d : Place) → none ≡ fate s d
    fate-never e s d = rw (never-remat F v e)

    -- cheaper than a move
    pub fate-cheap : (c : ℕ) → some (record { cost = 1; class = c }) ≡ rematerialize F v → (s d : Place) (m b : Bool) → m ≡ is_memory T s → b ≡ in_class T c d → pick (or m b) (some (no b)) none ≡ fate s d
    fate-cheap c e s d m b p q = let x = remat-known F v (record { cost = 1; class = c }) e in rw (x.0, x.1, x.2, ← p, ← q) (go m b)
      where
        go : (m b : Bool) → pick (or m b) (some (no b)) none ≡ pick (or m (no (no b))) (some (no b)) none
        go true b = refl
        go false true = refl
        go false false = refl

    pub fate-direct : (c : ℕ) → some (record { cost = 1; class = c }) ≡ rematerialize F v → (s d : Place) → true ≡ in_class T c d → some false ≡ fate s d
    fate-direct c e s d q = rw (or_right (is_memory T s) true refl) at (fate-cheap c e s d (is_memory T s) true refl q)

    -- cheaper than a load
    pub fate-load : (c : ℕ) → some (record { cost = 2; class = c }) ≡ rematerialize F v → (s d : Place) (m b : Bool) → m ≡ is_memory T s → b ≡ in_class T c d → pick m (some (no b)) none ≡ fate s d
    fate-load c e s d m b p q = let x = remat-known F v (record { cost = 2; class = c }) e in rw (x.0, x.1, x.2, ← p, ← q) (go m)
      where
        go : (m : Bool) → pick m (some (no b)) none ≡ pick (or m false) (some (no b)) none
        go true = refl
        go false = refl

-- what the fate says
module _ (t f : List ℕ) (s d v : ℕ) where
  pub fate-kept : none ≡ pick (becomes_remat (reg_info_of t) (function_of f) (place_at s) (place_at d) v) (some (needs_scratch (reg_info_of t) (function_of f) (place_at d) v)) none → becomes_remat (reg_info_of t) (function_of f) (place_at s) (place_at d) v ≡ false
  fate-kept = pick-none (becomes_remat (reg_info_of t) (function_of f) (place_at s) (place_at d) v) (needs_scratch (reg_info_of t) (function_of f) (place_at d) v)

  pub fate-remat : (b : Bool) → some b ≡ pick (becomes_remat (reg_info_of t) (function_of f) (place_at s) (place_at d) v) (some (needs_scratch (reg_info_of t) (function_of f) (place_at d) v)) none
      → (becomes_remat (reg_info_of t) (function_of f) (place_at s) (place_at d) v ≡ true) × (needs_scratch (reg_info_of t) (function_of f) (place_at d) v ≡ b)
  fate-remat b = pick_some (becomes_remat (reg_info_of t) (function_of f) (place_at s) (place_at d) v) b (needs_scratch (reg_info_of t) (function_of f) (place_at d) v)
