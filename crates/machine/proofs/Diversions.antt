-- The counts of diverted values: each value's count is how often it is carried.
use Prim.Native.Nat.{ℕ, suc, pred, ◌+◌, ◌<◌, ◌≤◌}
use mathlib.Core.Path.{◌≡◌, refl, sym, ap, ◌∙◌}
use mathlib.Core.Bool.{Bool, true, false, false≢true}
use mathlib.Core.List.{List, [], ◌∷◌, ◌++◌}
use native.Mathlib.Omega.{arith}
use lib.Dec.{eqb}
use lib.ListN.{length}
use borrow.Author.Tests.{eq-eqb, ne_eqb}
use Rattle.entity.specs.Logic.{pick, and, or, no, any_in, has}
use Rattle.reginfo.specs.RegInfo.{RegInfo}
use Rattle.function.specs.Function.{Function, num_values}
use Rattle.rules.specs.Edit.{updated}
use Rattle.rules.specs.Order.{KeptMove, State, is_pending, Diverted, carry_one, carry, lost}
use Rattle.rules.specs.Counts.{bit, sum}
use Rattle.rules.proofs.Sum.{sum-change, sum-part}
use Rattle.rules.proofs.Steps.{Every, updated-at, updated-same, updated-other}
use Rattle.machine.specs.Paid.{occurs, Counted}

pub occurs-head : (x y : ℕ) (l : List ℕ) → x ≡ y → occurs x (y ∷ l) ≡ suc (occurs x l)
unfolding occurs bit
occurs-head x y l e = rw (eq-eqb x y e) (omega arith)

pub occurs-tail : (x y : ℕ) (l : List ℕ) → (x ≡ y → ⊥) → occurs x (y ∷ l) ≡ occurs x l
unfolding occurs bit
occurs-tail x y l d = rw (ne_eqb x y d) (omega arith)

occurs-end : (x : ℕ) (l : List ℕ) (y : ℕ) → occurs x (l ++ (y ∷ [])) ≡ occurs x (y ∷ l)
unfolding occurs
occurs-end x [] y = refl
occurs-end x (z ∷ l) y = omega (arith, occurs-end x l y)

pub has-occurs : (x : ℕ) (l : List ℕ) → has x l ≡ true → 0 < occurs x l
unfolding occurs has bit
has-occurs x [] h = absurd (false≢true h)
has-occurs x (y ∷ l) h = go (eqb x y) h (has-occurs x l)
  where
    go : (b : Bool) → or b (has x l) ≡ true → (has x l ≡ true → 0 < occurs x l) → 0 < bit b + occurs x l
    go true e r = omega arith
    go false e r = omega (arith, r e)

module _ (t : RegInfo) (f : Function) (ms : List KeptMove) where
  abbrev n : ℕ
  n = length ms

  -- only open moves carry more, and only the count of v grows
  pub record Grown (v : ℕ) (state : ℕ → State) (d d' : Diverted) : Type 0 where
    pub counted : Counted t f ms d'
    pub others : (x : ℕ) → (x ≡ v → ⊥) → d'.ref_count x ≡ d.ref_count x
    pub more : d.ref_count v ≤ d'.ref_count v
    pub only : (k : ℕ) → is_pending (state k) ≡ false → d'.values k ≡ d.values k

  module _ (v : ℕ) (vl : v < num_values f) (m : ℕ) (ml : m < n) (d : Diverted) (o : Counted t f ms d) (state : ℕ → State) where
    abbrev d₁ : Diverted
    d₁ = record { ref_count = updated v (suc (d.ref_count v)) d.ref_count; values = updated m (d.values m ++ (v ∷ [])) d.values }

    changed : (x : ℕ) → sum (λ k. occurs x (d₁.values k)) n + occurs x (d.values m) ≡ sum (λ k. occurs x (d.values k)) n + occurs x (v ∷ d.values m)
    changed x =
        omega (
          arith,
          sum-change (λ k. occurs x (d₁.values k)) (λ k. occurs x (d.values k)) n m ml (λ k q. ap (occurs x) (updated-other m (d.values m ++ (v ∷ [])) d.values k q)),
          ap (occurs x) (updated-same m (d.values m ++ (v ∷ [])) d.values),
          occurs-end x (d.values m) v,
        )

    one-grown : is_pending (state m) ≡ true → Grown v state d d₁
    one-grown p =
        record {
          counted =
              record {
                counts = λ x.
                    updated-at (λ y. y ≡ sum (λ k. occurs x (d₁.values k)) n) v (suc (d.ref_count v)) d.ref_count x
                    (λ e. omega (arith, changed x, occurs-head x v (d.values m) e, o.counts x, ap d.ref_count e)) (λ q. omega (arith, changed x, occurs-tail x v (d.values m) q, o.counts x));
                small = λ x. updated-at (λ y. 0 < y → x < num_values f) v (suc (d.ref_count v)) d.ref_count x (λ e h. omega arith) (λ _ h. o.small x h);
              };
          others = λ x q. updated-other v (suc (d.ref_count v)) d.ref_count x q;
          more = omega (arith, updated-same v (suc (d.ref_count v)) d.ref_count);
          only = λ k h. updated-other m (d.values m ++ (v ∷ [])) d.values k (λ e. false≢true (sym h ∙ ap (λ j. is_pending (state j)) e ∙ p));
        }

    same-grown : Grown v state d d
    same-grown = record { counted = o; others = λ x q. refl; more = omega arith; only = λ k h. refl }

    -- an open move carries v from then on
    carry_one-grown : Grown v state d (carry_one v state m d) × (is_pending (state m) ≡ true → 0 < (carry_one v state m d).ref_count v)
    unfolding carry_one
    carry_one-grown = go (is_pending (state m)) refl (has v (d.values m)) refl
      where
        go : (a : Bool) → is_pending (state m) ≡ a → (b : Bool) → has v (d.values m) ≡ b
            → Grown v state d (pick (and a (no b)) d₁ d) × (a ≡ true → 0 < (pick (and a (no b)) d₁ d).ref_count v)
        go true p true h =
            (same-grown, λ _. omega (arith, o.counts v, sum-part (λ k. occurs v (d.values k)) n m ml, has-occurs v (d.values m) h))
        go true p false h = (one-grown p, λ _. omega (arith, updated-same v (suc (d.ref_count v)) d.ref_count))
        go false p b h = (same-grown, λ e. absurd (false≢true e))

  pub carry-grown :
      (v : ℕ) → v < num_values f → (state : ℕ → State) (l : List ℕ) → Every (λ m. m < n) l → (d : Diverted) → Counted t f ms d
      → Grown v state d (carry v state l d) × (any_in (λ m. is_pending (state m)) l ≡ true → 0 < (carry v state l d).ref_count v)
  unfolding carry any_in
  carry-grown v vl state [] q d o = (record { counted = o; others = λ x q. refl; more = omega arith; only = λ k h. refl }, λ e. absurd (false≢true e))
  carry-grown v vl state (m ∷ l) q d o =
      let one = carry_one-grown v vl m q.0 d o state in
      let rest = carry-grown v vl state l q.1 (carry_one v state m d) one.0.counted in (
        record {
          counted = rest.0.counted;
          others = λ x q. rest.0.others x q ∙ one.0.others x q;
          more = omega (arith, rest.0.more, one.0.more);
          only = λ k h. rest.0.only k h ∙ one.0.only k h;
        },
        go (is_pending (state m)) one.1 rest.1 rest.0.more,
      )
    where
      go : (a : Bool) → (a ≡ true → 0 < (carry_one v state m d).ref_count v) → (any_in (λ m. is_pending (state m)) l ≡ true → 0 < (carry v state l (carry_one v state m d)).ref_count v)
          → (carry_one v state m d).ref_count v ≤ (carry v state l (carry_one v state m d)).ref_count v
          → or a (any_in (λ m. is_pending (state m)) l) ≡ true → 0 < (carry v state l (carry_one v state m d)).ref_count v
      go true x y z e = omega (arith, x refl)
      go false x y z e = y e

  -- the first value that i carries loses one
  module _ (i : ℕ) (il : i < n) (v : ℕ) (rest : List ℕ) (d : Diverted) (e : d.values i ≡ v ∷ rest) (o : Counted t f ms d) where
    abbrev d₂ : Diverted
    d₂ = lost t f ms i v rest d

    fewer : (x : ℕ) → sum (λ k. occurs x (d₂.values k)) n + occurs x (v ∷ rest) ≡ sum (λ k. occurs x (d.values k)) n + occurs x rest
    fewer x =
        omega (
          arith,
          sum-change (λ k. occurs x (d₂.values k)) (λ k. occurs x (d.values k)) n i il (λ k z. ap (occurs x) (updated-other i rest d.values k z)),
          ap (occurs x) (updated-same i rest d.values),
          ap (occurs x) e,
        )

    pub was-live : 0 < d.ref_count v
    was-live = omega (arith, fewer v, occurs-head v v rest refl, o.counts v)

    pub lost-counted : Counted t f ms d₂
    lost-counted =
        record {
          counts = λ x.
              updated-at (λ y. y ≡ sum (λ k. occurs x (d₂.values k)) n) v (pred (d.ref_count v)) d.ref_count x
              (λ q. omega (arith, fewer x, occurs-head x v rest q, o.counts x, ap d.ref_count q)) (λ q. omega (arith, fewer x, occurs-tail x v rest q, o.counts x));
          small = λ x. updated-at (λ y. 0 < y → x < num_values f) v (pred (d.ref_count v)) d.ref_count x (λ q h. o.small x (omega (arith, was-live, ap d.ref_count q))) (λ _ h. o.small x h);
        }
