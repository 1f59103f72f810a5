-- What an accepted function keeps to.
use Prim.Native.Nat.{ℕ, zero, suc, ◌+◌, ◌-◌, ◌<◌, ◌≤◌}
use mathlib.Core.Path.{◌≡◌, refl, sym, ap, ◌∙◌}
use mathlib.Core.Bool.{Bool, true, false}
use mathlib.Core.Option.{Option, none, some}
use mathlib.Core.Logic.{◌⊎◌, inl, inr, ⊎_elim}
use native.Mathlib.Omega.{arith}
use lib.Dec.{eqb, ltb, leb}
use borrow.Author.Tests.{eqb-true, eqb-false, ltb-true, leb-true}
use Rattle.entity.specs.Logic.{pick, and, or, no, indices}
use Rattle.entity.proofs.Laws.{indices_step}
use Rattle.reginfo.specs.RegInfo.{RegInfo, num_banks, num_classes, bank_for_class}
use Rattle.reginfo.specs.Refused.{or_else}
use Rattle.function.specs.Function.{Function, num_values, value_bank, remat_cost, remat_class, is_setting, can_rematerialize}
use Rattle.function.specs.Known.{KnownValue}
use Rattle.function.specs.Refused.{counts_fit, value_fits, foreign_class, values_refusal, function_refusal, Accepted}
use Rattle.function.specs.Answers.{RematData, rematerialize}

-- tests
clash : false ≡ true → ⊥
clash e = let z : ◌≡◌ {A = ℕ} 0 1 = cc in omega arith

three : (a b c : Bool) → and a (and b c) ≡ true → (a ≡ true) × (b ≡ true) × (c ≡ true)
three true true c e = (refl, refl, e)
three true false c e = absurd (clash e)
three false b c e = absurd (clash e)

pub no_false : (a : Bool) → no a ≡ false → a ≡ true
no_false true e = refl
no_false false e = absurd (clash (sym e))

passed : (a b : Bool) → or (no a) b ≡ true → a ≡ true → b ≡ true
passed true b e h = e
passed false b e h = absurd (clash h)

kept : (a b : Bool) → and a (no b) ≡ false → a ≡ true → b ≡ true
kept true b e h = no_false b e
kept false b e h = absurd (clash h)

held : (b : Bool) (n : ℕ) (o : Option ℕ) → or_else b n o ≡ none → (b ≡ false) × (o ≡ none)
held true n o e = absurd (let z : ◌≡◌ {A = ℕ} 0 1 = cc in omega arith)
held false n o e = (refl, e)

pub setting-is : (n : ℕ) → is_setting n ≡ true → (n ≡ 1) ⊎ (n ≡ 2)
unfolding is_setting
setting-is n h = go (eqb n 1) refl h
  where
    go : (b : Bool) → eqb n 1 ≡ b → or b (eqb n 2) ≡ true → (n ≡ 1) ⊎ (n ≡ 2)
    go true e h = inl (eqb-true n 1 e)
    go false e h = inr (eqb-true n 2 h)

setting-some : (n : ℕ) → is_setting n ≡ true → 0 < n
setting-some n h = ⊎_elim (λ e. omega arith) (λ e. omega arith) (setting-is n h)

module _ (t : RegInfo) (f : Function) where
  -- one value more
  pub values-step : (i n : ℕ) → 0 < n → values_refusal t f (indices i n) ≡ or_else (no (value_fits t f i)) 2 (or_else (foreign_class t f i) 9 (values_refusal t f (indices (i + 1) (n - 1))))
  unfolding values_refusal
  values-step i n h = rw (indices_step i n h)

  abbrev Passed : ℕ → Type 0
  Passed v = (value_fits t f v ≡ true) × (foreign_class t f v ≡ false)

  first_rest : (i n : ℕ) → 0 < n → values_refusal t f (indices i n) ≡ none → Passed i × (values_refusal t f (indices (i + 1) (n - 1)) ≡ none)
  first_rest i n h e =
      let fit = held (no (value_fits t f i)) 2 _ (sym (values-step i n h) ∙ e) in
      let own = held (foreign_class t f i) 9 _ fit.1 in
      ((no_false _ fit.0, own.0), own.1)

  each : (i n v : ℕ) → values_refusal t f (indices i n) ≡ none → i ≤ v → v < i + n → Passed v
  each i zero v e a l = absurd (omega arith)
  each i (suc n) v e a l =
      let m : suc n - 1 ≡ n = omega arith in
      here (eqb v i) refl (λ d. each (i + 1) n v (rw m at (first_rest i (suc n) (omega arith) e).1) (omega arith) (omega arith))
    where
      here : (b : Bool) → eqb v i ≡ b → ((v ≡ i → ⊥) → Passed v) → Passed v
      here true q r = rw (eqb-true v i q) (first_rest i (suc n) (omega arith) e).0
      here false q r = r (eqb-false v i q)

  -- a value that fits
  module _ (v : ℕ) (h : value_fits t f v ≡ true) where
    fits : (ltb (value_bank f v) (num_banks t) ≡ true) × (leb (remat_cost f v) 2 ≡ true) × (or (no (can_rematerialize f v)) (ltb (remat_class f v) (num_classes t)) ≡ true)
    unfolding value_fits
    fits = three _ _ _ h

    pub fits-class : can_rematerialize f v ≡ true → remat_class f v < num_classes t
    fits-class r = ltb-true _ _ (passed _ _ fits.2 r)

  -- counts that fit
  module _ (h : counts_fit f ≡ true) where
    fit-counts : (leb (num_values f) 4096 ≡ true) × (leb f.slots 4096 ≡ true) × (leb f.limit 2048 ≡ true)
    unfolding counts_fit
    fit-counts = three _ _ _ h

    pub fit-values : num_values f ≤ 4096
    fit-values = leb-true _ _ fit-counts.0

    pub values-left : is_setting f.kept ≡ true → function_refusal t f ≡ values_refusal t f (indices 0 (num_values f))
    unfolding function_refusal
    values-left s = rw (s, h)

  module _ (a : Accepted t f) where
    setting : (is_setting f.kept ≡ true) × (or_else (no (counts_fit f)) 2 (values_refusal t f (indices 0 (num_values f))) ≡ none)
    unfolding function_refusal
    setting = let s = held (no (is_setting f.kept)) 22 _ a in (no_false (is_setting f.kept) s.0, s.1)

    pub one-or-two : (f.kept ≡ 1) ⊎ (f.kept ≡ 2)
    one-or-two = setting-is f.kept setting.0

    pub kept-some : 0 < f.kept
    kept-some = setting-some f.kept setting.0

    counts : counts_fit f ≡ true
    counts = no_false (counts_fit f) (held _ _ _ setting.1).0

    pub few-values : num_values f ≤ 4096
    few-values = fit-values counts

    pub few-slots : f.slots ≤ 4096
    few-slots = leb-true _ _ (fit-counts counts).1

    pub low-limit : f.limit ≤ 2048
    low-limit = leb-true _ _ (fit-counts counts).2

    module _ (v : ℕ) (h : v < num_values f) where
      pub known-value : KnownValue f v
      known-value = record { is = h; few = few-values }

      tested : Passed v
      tested = each 0 (num_values f) v (held (no (counts_fit f)) 2 _ setting.1).1 (omega arith) (omega arith)

      pub bank-there : value_bank f v < num_banks t
      bank-there = ltb-true _ _ (fits v tested.0).0

      pub cost-there : remat_cost f v ≤ 2
      cost-there = leb-true _ _ (fits v tested.0).1

      pub class-there : can_rematerialize f v ≡ true → remat_class f v < num_classes t
      class-there = fits-class v tested.0

      pub class-of-bank : can_rematerialize f v ≡ true → bank_for_class t (remat_class f v) ≡ value_bank f v
      unfolding foreign_class
      class-of-bank r = eqb-true _ _ (kept _ _ tested.1 r)

-- what the answer of `can_rematerialize` says
none-picked : {A : Type 0} (b : Bool) (x : A) → none ≡ pick b (some x) none → b ≡ false
none-picked true x e = absurd (let z : ◌≡◌ {A = ℕ} 0 1 = cc in omega arith)
none-picked false x e = refl

some-picked : {A : Type 0} (b : Bool) (x y : A) → some x ≡ pick b (some y) none → (b ≡ true) × (y ≡ x)
some-picked true x y e = (refl, cc)
some-picked false x y e = absurd (let z : ◌≡◌ {A = ℕ} 0 1 = cc in omega arith)

module _ (f : Function) (v : ℕ) where
  pub never-remat : none ≡ rematerialize f v → can_rematerialize f v ≡ false
  unfolding rematerialize
  never-remat e = none-picked (can_rematerialize f v) _ e

  pub remat-known : (x : RematData) → some x ≡ rematerialize f v → (can_rematerialize f v ≡ true) × (remat_cost f v ≡ x.cost) × (remat_class f v ≡ x.class)
  unfolding rematerialize
  remat-known x e =
      let p = some-picked (can_rematerialize f v) x _ e in
      (p.0, ap (λ (y : RematData). y.cost) p.1, ap (λ (y : RematData). y.class) p.1)
