-- Rule 6 by a kind for each unit: what a table of kinds knows while it is filled, and what that says of the target.
use Prim.Native.Nat.{ℕ, zero, suc, ◌+◌, ◌<◌}
use mathlib.Core.Path.{◌≡◌, refl, sym, ◌∙◌}
use mathlib.Core.Bool.{Bool, true, false, true≢false, false≢true}
use mathlib.Core.List.{List, [], ◌∷◌}
use native.Mathlib.Omega.{arith}
use borrow.Author.Tests.{eqb-true, eqb-false, ltb-true}
use lib.Dec.{eqb, ltb}
use lib.ListN.{get_or, set, length, replicate}
use lib.Seq.{get_or-set_same, get_or-set_other}
use Rattle.entity.specs.Logic.{pick, and, or, no, has, meets}
use Rattle.entity.proofs.Laws.{and-true, never_true, all-at, has-where, has_get_d}
use Rattle.reginfo.specs.RegInfo.{RegInfo, num_banks, num_regs, num_classes, reg_units, is_memory_reg}
use Rattle.reginfo.specs.Refused.{some_below, within, counts_fit, outside_limits, shared_memory}
use Rattle.target_limits.proofs.Limits.{within-high, counts_of, reg-limits}
use Rattle.target_rules.specs.UnitKinds.{kind_of, NotedAt, Differs, Lister, Noted}
use Rattle.target_limits.proofs.Walks.{some-below, none-below}

-- two lists share a number that both list
meets-true : (l m : List ℕ) (u : ℕ) → has u l ≡ true → has u m ≡ true → meets l m ≡ true
unfolding meets has
meets-true [] m u h k = absurd (false≢true h)
meets-true (x ∷ l) m u h k = go (eqb u x) refl h (has x m) refl (meets-true l m u)
  where
    go : (b : Bool) → eqb u x ≡ b → or b (has u l) ≡ true → (d : Bool) → has x m ≡ d → (has u l ≡ true → has u m ≡ true → meets l m ≡ true) → or d (meets l m) ≡ true
    go b e h true f on = refl
    go true e h false f on = absurd (true≢false (sym (rw (eqb-true u x e) at k) ∙ f))
    go false e h false f on = on h k

has-later : (x u : ℕ) (l : List ℕ) → has u l ≡ true → has u (x ∷ l) ≡ true
unfolding has
has-later x u l h = rw h (or_right (eqb u x))
  where
    or_right : (a : Bool) → or a true ≡ true
    or_right true = refl
    or_right false = refl

meets-where : (l m : List ℕ) → meets l m ≡ true → (u : ℕ) × (has u l ≡ true) × (has u m ≡ true)
unfolding meets
meets-where [] m e = absurd (false≢true e)
meets-where (x ∷ l) m e = go (has x m) refl e (meets-where l m)
  where
    go : (b : Bool) → has x m ≡ b → or b (meets l m) ≡ true → (meets l m ≡ true → (u : ℕ) × (has u l ≡ true) × (has u m ≡ true)) → (u : ℕ) × (has u (x ∷ l) ≡ true) × (has u m ≡ true)
    go true f e on = (x, has_get_d (x ∷ l) 0 (omega arith), f)
    go false f e on = let w = on e in (w.0, has-later x w.0 l w.1, w.2)

-- a memory register and one that isn't list a unit
module _ (t : RegInfo) where
  abbrev Lists : ℕ → ℕ → Type 0
  Lists r u = has u (reg_units t r) ≡ true

  abbrev shares : ℕ → ℕ → Bool
  shares r q = and (no (is_memory_reg t q)) (meets (reg_units t r) (reg_units t q))

  abbrev shared : ℕ → Bool
  shared r = and (is_memory_reg t r) (some_below (num_regs t) (shares r))

  both-list : (r q u : ℕ) → r < num_regs t → q < num_regs t → is_memory_reg t r ≡ true → is_memory_reg t q ≡ false → Lists r u → Lists q u → shared_memory t ≡ true
  unfolding shared_memory
  both-list r q u h k m n a b =
      let here : shares r q ≡ true = rw (n, meets-true (reg_units t r) (reg_units t q) u a b) in
      let there : shared r ≡ true = rw (m, some-below (shares r) (num_regs t) q k here) in
      some-below shared (num_regs t) r h there

  -- two registers of different kinds do
  kinds-differ : (r q u : ℕ) → r < num_regs t → q < num_regs t → Lists r u → Lists q u → (kind_of t q ≡ kind_of t r → ⊥) → shared_memory t ≡ true
  kinds-differ r q u h k a b d = go (is_memory_reg t r) refl (is_memory_reg t q) refl
    where
      go : (m : Bool) → is_memory_reg t r ≡ m → (n : Bool) → is_memory_reg t q ≡ n → shared_memory t ≡ true
      go true e true f = absurd (d (rw (e, f)))
      go true e false f = both-list r q u h k e f a b
      go false e true f = both-list q r u k h f e b a
      go false e false f = absurd (d (rw (e, f)))

  -- the registers of each unit are of one kind
  module _ (same : (r q u : ℕ) → r < num_regs t → q < num_regs t → Lists r u → Lists q u → kind_of t r ≡ kind_of t q) where
    no_true : (a : Bool) → no a ≡ true → a ≡ false
    no_true true e = absurd (false≢true e)
    no_true false e = refl

    shares-none : (r q : ℕ) → r < num_regs t → q < num_regs t → is_memory_reg t r ≡ true → shares r q ≡ true → ⊥
    shares-none r q h k m s =
        let p = and-true (no (is_memory_reg t q)) (meets (reg_units t r) (reg_units t q)) s in
        let w = meets-where (reg_units t r) (reg_units t q) p.1 in
        let z : ◌≡◌ {A = ℕ} 2 1 = rw (m, no_true (is_memory_reg t q) p.0) at (same r q w.0 h k w.1 w.2) in
        omega arith

    shared-none : (r : ℕ) → r < num_regs t → shared r ≡ true → ⊥
    shared-none r h e =
        let p = and-true (is_memory_reg t r) (some_below (num_regs t) (shares r)) e in
        true≢false (sym p.1 ∙ none-below (shares r) (num_regs t) (λ q k. never_true (shares r q) (shares-none r q h k p.0)))

    kinds-same : shared_memory t ≡ false
    unfolding shared_memory
    kinds-same = none-below shared (num_regs t) (λ r h. never_true (shared r) (shared-none r h))

  -- every register's units are noted
  pub all_noted : (kinds : List ℕ) → Noted t (num_regs t) kinds → shared_memory t ≡ false
  all_noted kinds n = kinds-same (λ r q u h k a b. sym (n.seen r u h a) ∙ n.seen q u k b)

  -- a unit of register r has another kind
  pub other-kind : (r i u : ℕ) (kinds : List ℕ) → r < num_regs t → Lists r u → Noted t i kinds → Differs kinds u (kind_of t r) → shared_memory t ≡ true
  other-kind r i u kinds h a n d =
      let q = n.listed u d.some in
      kinds-differ r q.reg u h q.known a q.lists (λ e. d.other (q.same ∙ e))

-- nothing is noted
no_kind : (n u : ℕ) → ◌≡◌ {A = ℕ} (get_or (replicate n 0) u 0) 0
no_kind zero u = refl
no_kind (suc n) zero = refl
no_kind (suc n) (suc u) = no_kind n u

pub none-noted : (t : RegInfo) → Noted t 0 (replicate 512 0)
none-noted t = record { seen = λ r u h a. absurd (omega arith); listed = λ u h. absurd (h (no_kind 512 u)) }

-- a unit's kind: it has it, or it gets it
pub noted-same : (kinds : List ℕ) (u kind : ℕ) → get_or kinds u 0 ≡ kind → NotedAt kinds kinds u kind
noted-same kinds u kind e = record { is = e; was = λ h. e; others = λ v h. refl }

pub noted-new : (kinds : List ℕ) (u kind : ℕ) → u < length kinds → get_or kinds u 0 ≡ 0 → NotedAt kinds (set kinds u kind) u kind
noted-new kinds u kind l e =
    record { is = get_or-set_same kinds u kind 0 l; was = λ h. absurd (h e); others = λ v h. get_or-set_other kinds u v kind 0 h }

-- the units of the first r registers are noted, and the first j of register r
pub record Noting (t : RegInfo) (r j : ℕ) (kinds : List ℕ) : Type 0 where
  pub noted : Noted t r kinds
  pub own : (k : ℕ) → k < j → get_or kinds (get_or (reg_units t r) k 0) 0 ≡ kind_of t r

pub begin : (t : RegInfo) (r : ℕ) (kinds : List ℕ) → Noted t r kinds → Noting t r 0 kinds
begin t r kinds n = record { noted = n; own = λ k h. absurd (omega arith) }

pub finish : (t : RegInfo) (r : ℕ) (kinds : List ℕ) → Noting t r (length (reg_units t r)) kinds → Noted t (r + 1) kinds
finish t r kinds n = record { seen = λ q u h a. by q u h a (eqb q r) refl; listed = n.noted.listed }
  where
    by : (q u : ℕ) → q < r + 1 → has u (reg_units t q) ≡ true → (b : Bool) → eqb q r ≡ b → get_or kinds u 0 ≡ kind_of t q
    by q u h a true e =
        let s : q ≡ r = eqb-true q r e in
        let w = has-where u (reg_units t r) (rw s at a) in
        rw s (rw w.2 at (n.own w.0 w.1))
    by q u h a false e = let d : q ≡ r → ⊥ = eqb-false q r e in n.noted.seen q u (omega (arith, d)) a

-- every register has a kind
some-kind : (t : RegInfo) (r : ℕ) → kind_of t r ≡ 0 → ⊥
some-kind t r e = go (is_memory_reg t r) e
  where
    go : (b : Bool) → ◌≡◌ {A = ℕ} (pick b 2 1) 0 → ⊥
    go true e = omega arith
    go false e = omega arith

-- one unit more
module _ (t : RegInfo) (r j : ℕ) (old new : List ℕ) (h : r < num_regs t) (l : j < length (reg_units t r)) (n : Noting t r j old) (s : NotedAt old new (get_or (reg_units t r) j 0) (kind_of t r)) where
  abbrev u : ℕ
  u = get_or (reg_units t r) j 0

  -- a kind stays
  stays : (v q : ℕ) → get_or old v 0 ≡ kind_of t q → get_or new v 0 ≡ kind_of t q
  stays v q e = go (eqb v u) refl
    where
      go : (b : Bool) → eqb v u ≡ b → get_or new v 0 ≡ kind_of t q
      go true f =
          let z : v ≡ u = eqb-true v u f in
          let was : get_or old u 0 ≡ kind_of t q = rw z at e in
          rw z (s.is ∙ sym (s.was (λ x. some-kind t q (sym was ∙ x))) ∙ was)
      go false f = s.others v (eqb-false v u f) ∙ e

  listed_more : (v : ℕ) → (get_or new v 0 ≡ 0 → ⊥) → Lister t v (get_or new v 0)
  listed_more v d = go (eqb v u) refl
    where
      go : (b : Bool) → eqb v u ≡ b → Lister t v (get_or new v 0)
      go true f =
          let z : v ≡ u = eqb-true v u f in
          record { reg = r; known = h; lists = rw z (has_get_d (reg_units t r) j l); same = rw z s.is }
      go false f =
          let same : get_or new v 0 ≡ get_or old v 0 = s.others v (eqb-false v u f) in
          rw same (n.noted.listed v (λ x. d (same ∙ x)))

  pub one_more : Noting t r (j + 1) new
  one_more =
      record {
        noted = record { seen = λ q v b a. stays v q (n.noted.seen q v b a); listed = listed_more };
        own = λ k b. by k b (eqb k j) refl;
      }
    where
      by : (k : ℕ) → k < j + 1 → (b : Bool) → eqb k j ≡ b → get_or new (get_or (reg_units t r) k 0) 0 ≡ kind_of t r
      by k b true e = let z : k ≡ j = eqb-true k j e in rw z s.is
      by k b false e = let d : k ≡ j → ⊥ = eqb-false k j e in stays (get_or (reg_units t r) k 0) r (n.own k (omega (arith, d)))

-- within the limits a unit has a place in the table
module _ (t : RegInfo) (h : outside_limits t ≡ false) where
  units-few : within 1 512 t.units ≡ true
  unfolding counts_fit
  units-few = (and-true (within 1 512 t.units) (and (within 1 8 (num_banks t)) (and (within 1 512 (num_regs t)) (within 1 64 (num_classes t)))) (counts_of t h)).0

  pub unit-low : (r j : ℕ) → r < num_regs t → j < length (reg_units t r) → get_or (reg_units t r) j 0 < 512
  unit-low r j k l =
      omega (arith, within-high 1 512 t.units units-few, ltb-true (get_or (reg_units t r) j 0) t.units (all-at (λ x. ltb x t.units) (reg_units t r) j 0 (reg-limits t h r k).3 l))
