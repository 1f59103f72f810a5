-- Sets of units without the units of a place, and with those of them that are free.
use Prim.Native.Nat.{ℕ, ◌+◌, ◌<◌, ◌≤◌}
use mathlib.Core.Path.{◌≡◌, refl, sym, ap, ◌∙◌}
use mathlib.Core.Bool.{Bool, true, false}
use mathlib.Core.List.{List, [], ◌∷◌}
use native.Mathlib.Omega.{arith}
use lib.Dec.{eqb}
use lib.ListN.{length, get_or, drop, drop_of_length-le, get_or-eq_default}
use borrow.Author.Tests.{eqb-true}
use Rattle.entity.specs.Logic.{pick, and, or, no, has}
use Rattle.entity.proofs.Laws.{has-step}
use Rattle.small_set.specs.Set.{set_of, inserted, removed}
use Rattle.groups.specs.Free.{Closed, Reopened}

-- the units of us from j on are still to be taken out
abbrev pub Closing : List ℕ → ℕ → List Bool → List Bool → Type 0
Closing us j out₀ out = (u : ℕ) → and (no (has u (drop j us))) (set_of out u) ≡ and (no (has u us)) (set_of out₀ u)

without : (a b s : Bool) → and (no b) (pick a false s) ≡ and (no (or a b)) s
without true true s = refl
without true false s = refl
without false b s = refl

pub closing-more : (us : List ℕ) (j : ℕ) (out₀ out out' : List Bool) → j < length us → set_of out' ≡ removed (set_of out) (get_or us j 0) → Closing us j out₀ out → Closing us (j + 1) out₀ out'
unfolding removed
closing-more us j out₀ out out' h is k u =
    ap (λ (s : ℕ → Bool). and (no (has u (drop (j + 1) us))) (s u)) is
    ∙ without (eqb u (get_or us j 0)) (has u (drop (j + 1) us)) (set_of out u)
    ∙ ap (λ (b : Bool). and (no b) (set_of out u)) (sym (has-step u us j h))
    ∙ k u

pub closing_end : (us : List ℕ) (j : ℕ) (out₀ out : List Bool) → length us ≤ j → Closing us j out₀ out → Closed us out₀ out
unfolding has
closing_end us j out₀ out h k u =
    let e : drop j us ≡ [] = drop_of_length-le us {i = j} h in
    let f : has u (drop j us) ≡ false = ap (has u) e in
    sym (ap (λ (b : Bool). and (no b) (set_of out u)) f) ∙ k u

-- those that are free are still to be put in
abbrev pub Reopening : List ℕ → ℕ → (free out₀ out : List Bool) → Type 0
Reopening us j free out₀ out = (u : ℕ) → or (and (has u (drop j us)) (set_of free u)) (set_of out u) ≡ or (and (has u us) (set_of free u)) (set_of out₀ u)

with_it : (a b f s : Bool) → (g : Bool) → (a ≡ true → f ≡ g) → or (and b f) (pick g (pick a true s) s) ≡ or (and (or a b) f) s
with_it true true f s true h = rw (h refl)
with_it true false f s true h = rw (h refl)
with_it true true f s false h = rw (h refl)
with_it true false f s false h = rw (h refl)
with_it false b f s true h = refl
with_it false b f s false h = refl

picked : (g : Bool) (s z : ℕ → Bool) (u : ℕ) → pick g s z u ≡ pick g (s u) (z u)
picked true s z u = refl
picked false s z u = refl

pub reopening-more : (us : List ℕ) (j : ℕ) (free out₀ out out' : List Bool) → j < length us → set_of out' ≡ pick (set_of free (get_or us j 0)) (inserted (set_of out) (get_or us j 0)) (set_of out)
    → Reopening us j free out₀ out → Reopening us (j + 1) free out₀ out'
unfolding inserted
reopening-more us j free out₀ out out' low is k u =
    ap (λ (s : ℕ → Bool). or (and (has u (drop (j + 1) us)) (set_of free u)) (s u)) is
    ∙ ap (λ (b : Bool). or (and (has u (drop (j + 1) us)) (set_of free u)) b) (picked (set_of free (get_or us j 0)) (inserted (set_of out) (get_or us j 0)) (set_of out) u)
    ∙ with_it (eqb u (get_or us j 0)) (has u (drop (j + 1) us)) (set_of free u) (set_of out u) (set_of free (get_or us j 0)) (λ e. ap (set_of free) (eqb-true u (get_or us j 0) e))
    ∙ ap (λ (b : Bool). or (and b (set_of free u)) (set_of out u)) (sym (has-step u us j low))
    ∙ k u

pub reopening-end : (us : List ℕ) (j : ℕ) (free out₀ out : List Bool) → length us ≤ j → Reopening us j free out₀ out → Reopened us free out₀ out
unfolding has
reopening-end us j free out₀ out h k u =
    let f : has u (drop j us) ≡ false = ap (has u) (drop_of_length-le us {i = j} h) in
    sym (ap (λ (b : Bool). or (and b (set_of free u)) (set_of out u)) f) ∙ k u

-- a slot's unit is in no set of register units
high : (out : List Bool) (u : ℕ) → length out ≤ 512 → 512 ≤ u → set_of out u ≡ false
unfolding set_of
high out u a b = get_or-eq_default out false {n = u} (omega arith)

pub slot-closed : (s : ℕ) (out : List Bool) → length out ≡ 512 → Closed ((512 + s) ∷ []) out out
unfolding has
slot-closed s out n u = go (eqb u (512 + s)) refl
  where
    go : (c : Bool) → eqb u (512 + s) ≡ c → set_of out u ≡ and (no (or c false)) (set_of out u)
    go true e = high out u (omega arith) (let z = eqb-true u (512 + s) e in omega arith)
    go false e = refl

pub slot-reopened : (s : ℕ) (free out : List Bool) → length free ≡ 512 → Reopened ((512 + s) ∷ []) free out out
unfolding has
slot-reopened s free out n u = go (eqb u (512 + s)) refl
  where
    go : (c : Bool) → eqb u (512 + s) ≡ c → set_of out u ≡ or (and (or c false) (set_of free u)) (set_of out u)
    go true e = rw (high free u (omega arith) (let z = eqb-true u (512 + s) e in omega arith))
    go false e = refl
