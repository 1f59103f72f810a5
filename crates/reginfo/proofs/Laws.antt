-- Laws of places: by their kind, overlap goes both ways, and a slot overlaps itself alone.
use Prim.Native.Nat.{ℕ, ◌+◌, ◌*◌, ◌<◌}
use mathlib.Core.Path.{◌≡◌, refl, sym, ap, subst, ◌∙◌}
use mathlib.Core.Bool.{Bool, true, false}
use mathlib.Core.List.{List, [], ◌∷◌}
use native.Mathlib.Omega.{arith}
use lib.ListN.{get_or, length}
use lib.Dec.{eqb, ltb}
use borrow.Author.Tests.{eq-eqb, ne_eqb, eqb-true, eqb-false}
use Rattle.entity.specs.Logic.{and, or, has, meets}
use Rattle.entity.specs.Place.{Place, reg, slot, same_place, place_of}
use Rattle.entity.specs.declared.AllocationKind.{AllocationKind}
use Rattle.entity.proofs.Laws.{never_true, has-only, meets-comm}
use Rattle.reginfo.specs.RegInfo.{RegInfo, reg_units, class_members, place_units, overlap}
use Rattle.reginfo.specs.Known.{KnownPlace, KnownMembers}
use Rattle.reginfo.specs.Table.{reg_info_of}
use Rattle.reginfo.proofs.Table.{member_is}

-- what holds of the place that a kind stands for
pub by_kind : {A : Type 0} (f : Place → A) {k v : AllocationKind} {p : Place} → place_of k ≡ p → k ≡ v → f (place_of v) ≡ f p
by_kind f h e = ap f (sym (ap place_of e) ∙ h)

pub known-kind : (t : RegInfo) {k v : AllocationKind} {p : Place} → KnownPlace t p → place_of k ≡ p → k ≡ v → KnownPlace t (place_of v)
known-kind t known h e = subst (KnownPlace t) (sym h ∙ ap place_of e) known

pub overlap-comm : (t : RegInfo) (p q : Place) → overlap t p q ≡ overlap t q p
overlap-comm t p q = meets-comm (place_units t p) (place_units t q)

-- an answer that holds either way round
pub either : {o : Bool} (t : RegInfo) (p q : Place) → o ≡ overlap t p q → (o ≡ overlap t p q) × (o ≡ overlap t q p)
either t p q e = (e, e ∙ overlap-comm t p q)

or-end : (a : Bool) → or a false ≡ a
or-end true = refl
or-end false = refl

same-shift : (n a b : ℕ) → eqb (n + a) (n + b) ≡ eqb a b
same-shift n a b = go (eqb a b) refl
  where
    go : (t : Bool) → eqb a b ≡ t → eqb (n + a) (n + b) ≡ t
    go true e = let h : a ≡ b = eqb-true a b e in eq-eqb (n + a) (n + b) (omega arith)
    go false e = let h : a ≡ b → ⊥ = eqb-false a b e in ne_eqb (n + a) (n + b) (λ q. h (omega arith))

slot-unit : (s : ℕ) (l : List ℕ) → meets ((512 + s) ∷ []) l ≡ has (512 + s) l
unfolding meets
slot-unit s l = or-end (has (512 + s) l)

pub overlap-slot : (t : RegInfo) (p : Place) (s : ℕ) → KnownPlace t p → overlap t p (slot s) ≡ same_place p (slot s)
unfolding has
overlap-slot t (reg r) s k =
    overlap-comm t (reg r) (slot s) ∙ slot-unit s (reg_units t r) ∙ never_true (has (512 + s) (reg_units t r)) (λ h. let l : 512 + s < 512 = k.low (512 + s) h in omega arith)
overlap-slot t (slot a) s k = slot-unit a ((512 + s) ∷ []) ∙ or-end (eqb (512 + a) (512 + s)) ∙ same-shift 512 a s

-- the only place where a member can stand is where the index points
pub member-at : (t : List ℕ) (c r p : ℕ) → KnownMembers t c → p ≡ get_or t (74752 + c * 512 + r) 0 → has r (class_members (reg_info_of t) c) ≡ and (ltb p (length (class_members (reg_info_of t) c))) (eqb (get_or (class_members (reg_info_of t) c) p 0) r)
member-at t c r p known e =
    has-only r p (class_members (reg_info_of t) c)
    (λ k h is. sym (known.indexed k h) ∙ ap (λ (m : ℕ). get_or t (74752 + c * 512 + m) 0) (sym (member_is t c known.known.is k h) ∙ is) ∙ sym e)
