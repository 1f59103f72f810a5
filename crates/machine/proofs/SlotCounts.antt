-- How often a slot is counted: in a stack, with an evicted register, as the scratch place of a live diversion.
use Prim.Native.Nat.{ℕ, zero, suc, ◌+◌, ◌<◌, ◌≤◌}
use mathlib.Core.Path.{◌≡◌, refl, sym, ap, ◌∙◌}
use mathlib.Core.Bool.{Bool, true, false, false≢true}
use mathlib.Core.List.{List, [], ◌∷◌}
use mathlib.Core.Logic.{◌⊎◌, inl, inr, ⊎_elim}
use native.Mathlib.Omega.{arith}
use lib.Dec.{eqb, ltb}
use borrow.Author.Tests.{eq-eqb, ne_eqb, ltb-true, ltb-false}
use Rattle.entity.specs.Logic.{pick, or, has, twice}
use Rattle.entity.proofs.Laws.{or-false, never_true}
use Rattle.entity.specs.Place.{Place, reg, slot}
use Rattle.rules.specs.Scratch.{Cache, Evicted}
use Rattle.rules.proofs.Parts.{Parts, parts-sum}
use Rattle.rules.proofs.Steps.{branch, same?}
use Rattle.rules.specs.Counts.{bit}
use Rattle.machine.specs.Paid.{occurs}
use Rattle.machine.proofs.Diversions.{occurs-head, occurs-tail, has-occurs}

pub positive : (a : ℕ) → (a ≡ 0 → ⊥) → 0 < a
positive a h = omega arith

pub less? : (a b : ℕ) → (a < b) ⊎ (b ≤ a)
less? a b = go (ltb a b) refl
  where
    go : (x : Bool) → ltb a b ≡ x → (a < b) ⊎ (b ≤ a)
    go true e = inl (ltb-true a b e)
    go false e = inr (ltb-false a b e)

pub occurs-has : (x : ℕ) (l : List ℕ) → 0 < occurs x l → has x l ≡ true
unfolding occurs has bit
occurs-has x [] h = absurd (omega arith)
occurs-has x (y ∷ l) h = go (eqb x y) h (occurs-has x l)
  where
    go : (b : Bool) → 0 < bit b + occurs x l → (0 < occurs x l → has x l ≡ true) → or b (has x l) ≡ true
    go true e r = refl
    go false e r = r (omega arith)

pub occurs-none : (x : ℕ) (l : List ℕ) → has x l ≡ false → occurs x l ≡ 0
occurs-none x l h = go (occurs x l) (occurs-has x l)
  where
    go : (k : ℕ) → (0 < k → has x l ≡ true) → k ≡ 0
    go zero r = refl
    go (suc k) r = absurd (false≢true (sym h ∙ r (omega arith)))

-- nothing twice is at most once
pub once-most : (l : List ℕ) → twice l ≡ false → (x : ℕ) → occurs x l ≤ 1
unfolding twice occurs
once-most [] h x = omega arith
once-most (y ∷ l) h x =
    let p = or-false (has y l) (twice l) h in
    ⊎_elim (λ e. omega (arith, occurs-head x y l e, ap (λ j. occurs j l) e, occurs-none y l p.0)) (λ d. omega (arith, occurs-tail x y l d, once-most l p.1 x)) (same? x y)

pub most-once : (l : List ℕ) → ((x : ℕ) → occurs x l ≤ 1) → twice l ≡ false
unfolding twice
most-once [] h = refl
most-once (y ∷ l) h =
    go (has y l) (never_true (has y l) (λ e. absurd (omega (arith, h y, occurs-head y y l refl, has-occurs y l e))))
    (most-once l (λ x. ⊎_elim (λ e. omega (arith, h x, occurs-head x y l e)) (λ d. omega (arith, h x, occurs-tail x y l d)) (same? x y)))
  where
    go : (b : Bool) → b ≡ false → twice l ≡ false → or b (twice l) ≡ false
    go true e r = e
    go false e r = r

-- one slot, in the stack z
unfoldable pub one : ℕ → ℕ → ℕ → ℕ → ℕ
one x z s y = pick (eqb s x) (bit (eqb y z)) 0

pub one-other : (x z s y : ℕ) → (s ≡ x → ⊥) → one x z s y ≡ 0
unfolding one
one-other x z s y d = rw (ne_eqb s x d) refl

pub one-here : (x z s y : ℕ) → s ≡ x → y ≡ z → one x z s y ≡ 1
unfolding one bit
one-here x z s y d e = rw (eq-eqb s x d, eq-eqb y z e) refl

pub one-away : (x z s y : ℕ) → (y ≡ z → ⊥) → one x z s y ≡ 0
unfolding one bit
one-away x z s y d = branch (λ k. k ≡ 0) (eqb s x) (bit (eqb y z)) 0 (λ _. rw (ne_eqb y z d) refl) (λ _. refl)

pub one-top : (x z s y : ℕ) (l : List ℕ) → y ≡ z → one x z s y + occurs s l ≡ occurs s (x ∷ l)
one-top x z s y l e =
    ⊎_elim (λ q. omega (arith, one-here x z s y q e, occurs-head s x l q)) (λ d. omega (arith, one-other x z s y d, occurs-tail s x l d)) (same? s x)

-- a scratch place, where it is a slot
unfoldable pub holds : Place → ℕ → ℕ → ℕ → ℕ
holds (slot x) z s y = one x z s y
holds (reg r) z s y = 0

-- the scratch of a diversion, while it lives
unfoldable pub held : ℕ → Place → ℕ → ℕ → ℕ → ℕ
held zero p z s y = 0
held (suc n) p z s y = holds p z s y

pub held-live : (n : ℕ) (p : Place) (z s y : ℕ) → 0 < n → held n p z s y ≡ holds p z s y
unfolding held
held-live zero p z s y h = absurd (omega arith)
held-live (suc n) p z s y h = refl

pub held-ended : (n : ℕ) (p : Place) (z s y : ℕ) → n ≡ 0 → held n p z s y ≡ 0
unfolding held
held-ended zero p z s y h = refl
held-ended (suc n) p z s y h = absurd (omega arith)

-- the slots of the evicted
unfoldable pub waits : List Evicted → ℕ → ℕ → ℕ
waits [] s z = 0
waits (e ∷ l) s z = one e.slot e.size s z + waits l s z

pub waits-parts : (es rest l : List Evicted) → Parts es rest l → (s z : ℕ) → waits es s z + waits rest s z ≡ waits l s z
unfolding waits
waits-parts es rest l h s z = parts-sum (λ l. waits l s z) (λ (e : Evicted). one e.slot e.size s z) (λ e l. refl) refl es rest l h

abbrev pub Count : Type 0
Count = ℕ → ℕ → ℕ

abbrev pub stacked : Cache → Count
stacked c s z = occurs s (c.stacks z)
