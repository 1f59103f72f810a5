-- 13 by the keys of the map: the units that have a writer are those of the destinations.
use Prim.Native.Nat.{ℕ, ◌+◌, ◌-◌, ◌<◌}
use mathlib.Core.Path.{◌≡◌, refl, sym, ap, ◌∙◌}
use mathlib.Core.Bool.{Bool, true, false, false≢true}
use mathlib.Core.List.{List, [], ◌∷◌}
use mathlib.Core.Option.{Option}
use native.Mathlib.Omega.{arith}
use lib.Dec.{ltb}
use lib.ListN.{get_or, get_or-eq_default}
use borrow.Author.Tests.{ltb-true, ltb-false, lt-ltb}
use Rattle.entity.specs.Logic.{pick, and, or, any_in, has, meets}
use Rattle.entity.specs.Place.{Place, reg, slot, reg_unit, slot_unit, unit_at}
use Rattle.entity.proofs.Laws.{and-true, has-where, has_get_d}
use Rattle.reginfo.specs.RegInfo.{Reg, RegInfo, no_reg, num_regs, reg_units, place_units}
use Rattle.reginfo.specs.Refused.{Accepted}
use Rattle.reginfo.proofs.Accepted.{unit-low}
use Rattle.function.specs.Function.{Function}
use Rattle.rules.specs.Scratch.{units_of_reg}
use Rattle.rules.specs.Patch.{Patch, Sorted, destinations, free_destination}
use Rattle.small_set.specs.Set.{set_of}
use Rattle.sparse.specs.Map.{keys_of, known}
use Rattle.sparse.proofs.Laws.{known-keys}
use Rattle.entries.specs.Known.{is_free, Tracked}
use Rattle.entries.proofs.Lists.{both_ways, any-true, any_where, meets_any}
use Rattle.entries.proofs.Writers.{writer-known}

-- a unit's number by its kind
pub reg-number : (u x : ℕ) → reg_unit x ≡ unit_at u → (x ≡ u) × (u < 512)
unfolding unit_at
reg-number u x e = go (ltb u 512) refl e
  where
    go : (b : Bool) → ltb u 512 ≡ b → reg_unit x ≡ pick b (reg_unit u) (slot_unit (u - 512)) → (x ≡ u) × (u < 512)
    go true q e = (cc, ltb-true u 512 q)
    go false q e = let z : ◌≡◌ {A = ℕ} 0 1 = cc in absurd (omega arith)

pub slot-number : (u x : ℕ) → slot_unit x ≡ unit_at u → ltb u 512 ≡ false
unfolding unit_at
slot-number u x e = go (ltb u 512) e
  where
    go : (b : Bool) → slot_unit x ≡ pick b (reg_unit u) (slot_unit (u - 512)) → b ≡ false
    go true e = let z : ◌≡◌ {A = ℕ} 0 1 = cc in absurd (omega arith)
    go false e = refl

-- a number that is listed in both
meets-both : (l m : List ℕ) (u : ℕ) → has u l ≡ true → has u m ≡ true → meets l m ≡ true
meets-both l m u h k = let w = has-where u l h in meets_any l m ∙ any-true (λ u. has u m) l w.0 0 w.1 (rw w.2 k)

any-has-true : (p : ℕ → Bool) (l : List ℕ) (u : ℕ) → has u l ≡ true → p u ≡ true → any_in p l ≡ true
any-has-true p l u h k = let w = has-where u l h in any-true p l w.0 0 w.1 (rw w.2 k)

-- where no unit is free, none of a list is
pub none_free : (l : List ℕ) → any_in (is_free []) l ≡ false
unfolding any_in set_of
none_free [] = refl
none_free (u ∷ l) = rw (none_free l) (neither (ltb u 512))
  where
    neither : (b : Bool) → or (and b false) false ≡ false
    neither true = refl
    neither false = refl

-- the keys are the units of the destinations
pub key-written : (t : RegInfo) (f : Function) (a : Sorted) (e w : List ℕ) → Tracked t f a e w → (u : ℕ) → has u (keys_of w) ≡ any_in (λ d. has u (place_units t d)) (destinations a)
key-written t f a e w kept u = known-keys w u ∙ ap (λ (g : ℕ → Option ℕ). known (g u)) kept.map ∙ writer-known t f a u

module _ (t : RegInfo) (ok : Accepted t) (f : Function) where
  reg-low : (r u : ℕ) → has u (reg_units t r) ≡ true → u < 512
  unfolding has reg_units
  reg-low r u h = go (ltb r (num_regs t)) refl
    where
      go : (b : Bool) → ltb r (num_regs t) ≡ b → u < 512
      go true q = unit-low t ok r (ltb-true r (num_regs t) q) u h
      go false q = absurd (false≢true (sym (ap (λ (x : Reg). has u x.units) (get_or-eq_default t.regs no_reg (ltb-false r (num_regs t) q))) ∙ h))

  -- the register units of a place are its units below 512
  unit-of-reg : (d : Place) (u : ℕ) → has u (place_units t d) ≡ true → u < 512 → has u (units_of_reg t f d) ≡ true
  unit-of-reg (reg r) u h l = h
  unit-of-reg (slot s) u h l = let w = has-where u ((512 + s) ∷ []) h in absurd (only w.0 w.1 w.2)
    where
      only : (k : ℕ) → k < 1 → get_or ((512 + s) ∷ []) k 0 ≡ u → ⊥
      only k b e = let z : k ≡ 0 = omega arith in let q : 512 + s ≡ u = ap (λ (i : ℕ). get_or ((512 + s) ∷ []) i 0) (sym z) ∙ e in omega arith

  reg-of-unit : (d : Place) (u : ℕ) → has u (units_of_reg t f d) ≡ true → (has u (place_units t d) ≡ true) × (u < 512)
  unfolding has
  reg-of-unit (reg r) u h = (h, reg-low r u h)
  reg-of-unit (slot s) u h = absurd (false≢true h)

  module _ (a : Sorted) (es w : List ℕ) (kept : Tracked t f a es w) (free : List Bool) (p : Patch) (same : (u : ℕ) → has u p.free ≡ set_of free u) where
    to : any_in (is_free free) (keys_of w) ≡ true → free_destination t f p a ≡ true
    to e =
        let j = any_where (is_free free) (keys_of w) 0 e in
        let u = get_or (keys_of w) j.0 0 in
        let q = and-true (ltb u 512) (set_of free u) j.2 in
        let i = any_where (λ d. has u (place_units t d)) (destinations a) (slot 0) (sym (key-written t f a es w kept u) ∙ has_get_d (keys_of w) j.0 j.1) in
        let d = get_or (destinations a) i.0 (slot 0) in
        any-true (λ d. meets (units_of_reg t f d) p.free) (destinations a) i.0 (slot 0) i.1
        (meets-both (units_of_reg t f d) p.free u (unit-of-reg d u i.2 (ltb-true u 512 q.0)) (same u ∙ q.1))

    from : free_destination t f p a ≡ true → any_in (is_free free) (keys_of w) ≡ true
    from e =
        let i = any_where (λ d. meets (units_of_reg t f d) p.free) (destinations a) (slot 0) e in
        let d = get_or (destinations a) i.0 (slot 0) in
        let k = any_where (λ u. has u p.free) (units_of_reg t f d) 0 (sym (meets_any (units_of_reg t f d) p.free) ∙ i.2) in
        let u = get_or (units_of_reg t f d) k.0 0 in
        let m = reg-of-unit d u (has_get_d (units_of_reg t f d) k.0 k.1) in
        any-has-true (is_free free) (keys_of w) u (key-written t f a es w kept u ∙ any-true (λ d. has u (place_units t d)) (destinations a) i.0 (slot 0) i.1 m.0)
        (rw (lt-ltb u 512 m.1) (sym (same u) ∙ k.2))

    pub free-is : any_in (is_free free) (keys_of w) ≡ free_destination t f p a
    free-is = both_ways (any_in (is_free free) (keys_of w)) (free_destination t f p a) to from
