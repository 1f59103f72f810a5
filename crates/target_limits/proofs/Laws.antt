-- Laws of tests and lists, as the loops over a target use them.
use Prim.Native.Nat.{ℕ, ◌+◌, ◌*◌, ◌<◌}
use mathlib.Core.Path.{◌≡◌, sym, ap, ◌∙◌}
use mathlib.Core.Bool.{Bool, true, false}
use mathlib.Core.List.{List, ◌∷◌}
use borrow.Author.Tests.{eq-eqb, ne_eqb}
use lib.ListN.{length}
use Rattle.entity.specs.Logic.{any_in, all_in, has, twice, cells}
use Rattle.entity.proofs.Laws.{and-true}
use Rattle.reginfo.specs.RegInfo.{num_regs, num_classes, reg_units, class_members, allocation_order}
use Rattle.reginfo.specs.Table.{reg_info_of}
use Rattle.reginfo.proofs.Table.{units-are, units-length, members-are, members-length, order_is, order-length}

module _ {A : Type 0} (p : A → Bool) where
  -- the first element passes the test, or does not
  pub any_here : {l m : List A} {x : A} → l ≡ x ∷ m → p x ≡ true → any_in p l ≡ true
  unfolding any_in
  any_here e h = rw (e, h)

  pub any-on : {l m : List A} {x : A} → l ≡ x ∷ m → p x ≡ false → any_in p l ≡ any_in p m
  unfolding any_in
  any-on e h = rw (e, h)

  pub all_here : {l m : List A} {x : A} → l ≡ x ∷ m → p x ≡ false → all_in p l ≡ false
  unfolding all_in
  all_here e h = rw (e, h)

  pub all-on : {l m : List A} {x : A} → l ≡ x ∷ m → p x ≡ true → all_in p l ≡ all_in p m
  unfolding all_in
  all-on e h = rw (e, h)

  -- every element passes the test, so the first and the others do
  pub all_first : {l m : List A} {x : A} → l ≡ x ∷ m → all_in p l ≡ true → p x ≡ true
  unfolding all_in
  all_first {l} {m} {x} e h = (and-true (p x) (all_in p m) (rw e at h)).0

  pub all_rest : {l m : List A} {x : A} → l ≡ x ∷ m → all_in p l ≡ true → all_in p m ≡ true
  unfolding all_in
  all_rest {l} {m} {x} e h = (and-true (p x) (all_in p m) (rw e at h)).1

-- x is listed first, or not
pub has_here : {x y : ℕ} {l m : List ℕ} → l ≡ y ∷ m → x ≡ y → has x l ≡ true
unfolding has
has_here {x} {y} e h = rw (e, eq-eqb x y h)

pub has_on : {x y : ℕ} {l m : List ℕ} → l ≡ y ∷ m → (x ≡ y → ⊥) → has x l ≡ has x m
unfolding has
has_on {x} {y} e h = rw (e, ne_eqb x y h)

-- the first number is listed again, or not
pub twice-here : {x : ℕ} {l m : List ℕ} → l ≡ x ∷ m → has x m ≡ true → twice l ≡ true
unfolding twice
twice-here e h = rw (e, h)

pub twice-on : {x : ℕ} {l m : List ℕ} → l ≡ x ∷ m → has x m ≡ false → twice l ≡ twice m
unfolding twice
twice-on e h = rw (e, h)

-- the lists of a target as cells of its table
module _ (t : List ℕ) where
  pub units-cells : (r : ℕ) → r < num_regs (reg_info_of t) → reg_units (reg_info_of t) r ≡ cells t (8 + r * 16) (length (reg_units (reg_info_of t) r))
  units-cells r h = units-are t r h ∙ ap (cells t (8 + r * 16)) (sym (units-length t r h))

  pub members-cells : (c : ℕ) → c < num_classes (reg_info_of t) → class_members (reg_info_of t) c ≡ cells t (9216 + c * 512) (length (class_members (reg_info_of t) c))
  members-cells c h = members-are t c h ∙ ap (cells t (9216 + c * 512)) (sym (members-length t c h))

  pub order-cells : (c : ℕ) → c < num_classes (reg_info_of t) → allocation_order (reg_info_of t) c ≡ cells t (41984 + c * 512) (length (allocation_order (reg_info_of t) c))
  order-cells c h = order_is t c h ∙ ap (cells t (41984 + c * 512)) (sym (order-length t c h))
