-- Laws of the marks: a state read, a state stored, no state; and of counts set to 0.
use Prim.Native.Nat.{ℕ, ◌+◌, ◌<◌, ◌≤◌}
use mathlib.Core.Path.{◌≡◌, refl, sym, ap, ◌∙◌, fun_ext}
use mathlib.Core.Bool.{Bool, true, false}
use mathlib.Core.List.{List}
use native.Mathlib.Omega.{arith}
use lib.Dec.{eqb, ltb}
use lib.ListN.{get_or, length, drop, set, replicate, get_or-replicate, drop_of_length-le}
use lib.Seq.{get_or-set_same, get_or-set_other}
use borrow.Author.Tests.{eqb-true, eqb-false, lt-ltb, ltb-true}
use Rattle.entity.specs.Logic.{pick}
use Rattle.entity.proofs.Laws.{drop-step, get_d-built, length-built}
use Rattle.rules.specs.Edit.{updated}
use Rattle.rules.specs.Order.{KeptMove, no_move, New, Pending, Done, is_new, is_pending, no_remat}
use Rattle.entries.specs.Table.{remat_at, sorted_of}
use Rattle.visits.specs.Marks.{remats_of, uncounted, state_at, states_of, all_new, is_noted}

-- a rebuild without scratch
pub remat-is : (e : List ℕ) (i : ℕ) → i < length (remats_of e) → get_or (remats_of e) i no_remat ≡ remat_at 512 e i
unfolding sorted_of
remat-is e i h = get_d-built (remat_at 512 e) 0 (get_or e 1025 0) i no_remat (rw length-built at h) ∙ ap (remat_at 512 e) (omega arith)

new-at : (b : ℕ) → is_new (state_at b) ≡ eqb b 0
unfolding state_at
new-at b = go (eqb b 0) (eqb b 1)
  where
    go : (x y : Bool) → is_new (pick x New (pick y Pending Done)) ≡ x
    go true y = refl
    go false true = refl
    go false false = refl

pending-at : (b : ℕ) → is_pending (state_at b) ≡ eqb b 1
unfolding state_at
pending-at b = go (eqb b 0) refl (eqb b 1) refl
  where
    go : (x : Bool) → eqb b 0 ≡ x → (y : Bool) → eqb b 1 ≡ y → is_pending (pick x New (pick y Pending Done)) ≡ y
    go true p true q = let z : b ≡ 0 = eqb-true b 0 p in let o : b ≡ 1 = eqb-true b 1 q in absurd (omega arith)
    go true p false q = refl
    go false p true q = refl
    go false p false q = refl

module _ (marks : List ℕ) (m : ℕ) (low : m < 128) where
  pub new-state : is_new (states_of marks m) ≡ eqb (get_or marks m 0) 0
  unfolding states_of
  new-state = rw (lt-ltb m 128 low) (new-at (get_or marks m 0))

  pub pending-state : is_pending (states_of marks m) ≡ eqb (get_or marks m 0) 1
  unfolding states_of
  pending-state = rw (lt-ltb m 128 low) (pending-at (get_or marks m 0))

  pub state-stored : (b : ℕ) → length marks ≡ 129 → (states_of (set marks m b) ≡ updated m (state_at b) (states_of marks)) × (is_noted (set marks m b) ≡ is_noted marks)
  unfolding states_of updated is_noted
  state-stored b long = (fun_ext (λ k. go k (eqb k m) refl), rw (get_or-set_other marks m 128 b 0 (λ q. omega arith)))
    where
      go : (k : ℕ) (q : Bool) → eqb k m ≡ q → pick (ltb k 128) (state_at (get_or (set marks m b) k 0)) New ≡ pick q (state_at b) (pick (ltb k 128) (state_at (get_or marks k 0)) New)
      go k true q = let z : k ≡ m = eqb-true k m q in rw (z, lt-ltb m 128 low, get_or-set_same marks m b 0 (omega arith))
      go k false q = rw (get_or-set_other marks m k b 0 (eqb-false k m q))

pub noted-stored : (marks : List ℕ) → length marks ≡ 129 → (states_of (set marks 128 1) ≡ states_of marks) × (is_noted (set marks 128 1) ≡ true)
unfolding states_of is_noted
noted-stored marks long = (fun_ext (λ k. go k (ltb k 128) refl), rw (get_or-set_same marks 128 1 0 (omega arith)))
  where
    go : (k : ℕ) (b : Bool) → ltb k 128 ≡ b → pick b (state_at (get_or (set marks 128 1) k 0)) New ≡ pick b (state_at (get_or marks k 0)) New
    go k true q = rw (get_or-set_other marks 128 k 1 0 (λ e. omega (arith, ltb-true k 128 q)))
    go k false q = refl

pub nothing-marked : (states_of (replicate 129 0) ≡ all_new) × (is_noted (replicate 129 0) ≡ false)
unfolding states_of state_at all_new is_noted
nothing-marked = (fun_ext (λ k. go k (ltb k 128) refl), refl)
  where
    go : (k : ℕ) (b : Bool) → ltb k 128 ≡ b → pick b (state_at (get_or (replicate 129 0) k 0)) New ≡ New
    go k true q = rw (get_or-replicate {A = ℕ} 129 k 0 0 (omega (arith, ltb-true k 128 q)))
    go k false q = refl

-- one move more is gone through
pub uncounted-step : (ms : List KeptMove) (d : List ℕ) (i at : ℕ) → i < length ms → at ≡ (get_or ms i no_move).value
    → uncounted (drop i ms) d ≡ uncounted (drop (i + 1) ms) (set d at 0)
unfolding uncounted
uncounted-step ms d i at h e = rw (drop-step ms i no_move h, e) refl

pub uncounted-end : (ms : List KeptMove) (d : List ℕ) (i : ℕ) → length ms ≤ i → uncounted (drop i ms) d ≡ d
unfolding uncounted
uncounted-end ms d i h = rw (drop_of_length-le ms {i = i} h) refl

-- one cell more is 0
pub zeros-step : (d : List ℕ) (at i : ℕ) (g : ℕ → ℕ) → at ≡ g i → at < length d → ((k : ℕ) → k < i → get_or d (g k) 0 ≡ 0) → (k : ℕ) → k < i + 1 → get_or (set d at 0) (g k) 0 ≡ 0
zeros-step d at i g e low z k h = go (eqb (g k) at) refl (eqb k i) refl
  where
    go : (b : Bool) → eqb (g k) at ≡ b → (c : Bool) → eqb k i ≡ c → get_or (set d at 0) (g k) 0 ≡ 0
    go true q c r = rw (eqb-true (g k) at q) (get_or-set_same d at 0 0 low)
    go false q true r = absurd (eqb-false (g k) at q (ap g (eqb-true k i r) ∙ sym e))
    go false q false r = let n : k ≡ i → ⊥ = eqb-false k i r in get_or-set_other d at (g k) 0 0 (eqb-false (g k) at q) ∙ z k (omega arith)
