-- A visit: a new move is opened, its writers are visited, and it is closed.
use mathlib.Core.Path.{◌≡◌, refl, sym, ◌∙◌, subst}
use mathlib.Core.Bool.{not, cond}
use mathlib.Core.List.{List, [], ◌∷◌, reverse}
use mathlib.Core.Option.{Option, some, none}
use mathlib.Core.Logic.{◌⊎◌, inl, inr, ⊎_elim}
use Prim.Native.Nat.{ℕ, zero, suc, ◌+◌, ◌≤◌, ◌<◌}
use lib.Dec.{T, T_not, not_T}
use lib.ListN.{length}
use Rattle.entity.specs.Logic.{has}
use Rattle.reginfo.specs.RegInfo.{RegInfo}
use Rattle.function.specs.Function.{Function}
use Rattle.rules.specs.Edit.{updated, and_then, each}
use Rattle.rules.specs.Order.{KeptMove, State, New, Pending, Done, is_new, is_pending, ParallelMoves, with_state, writers, lead, undivert_all, close, visit}
use Rattle.rules.proofs.Steps.{All, all_then, all_map, same?, updated-at, updated-same, updated-other}
use Rattle.machine.proofs.Tests.{has_in, has-cons, has-head, has-tail, if}
use Rattle.machine.proofs.Memory.{TargetOk}
use Rattle.machine.proofs.Run.{Job}
use Rattle.machine.proofs.Order as order
use Rattle.machine.proofs.Order.{is_done, Lv, PatchOk, live_map, Inv}
use Rattle.machine.proofs.Lead.{lead-ok}
use Rattle.machine.proofs.Undivert.{release-ok}

new-not-done : (s : State) → T (is_new s) → T (is_done s) → ⊥
new-not-done New h d = d
new-not-done Pending h d = h
new-not-done Done h d = h

module _ (t : RegInfo) (F : Function) (tk : TargetOk t) (j : Job) (em : (s : ℕ) → F.slots ≤ s → j.may (512 + s)) (ms : List KeptMove) (ok : PatchOk t F tk j em ms) where
  abbrev Rest : (ℕ → Type 0) → ParallelMoves → Type 0
  Rest = order.Rest t F tk j em ms ok

  pub close-ok : (i : ℕ) → i < length ms → (w : ParallelMoves) → Rest (λ k. ⊥) w → T (is_pending (w.state i)) → ((k : ℕ) → T (has_in (writers t F ms i) k) → T (not (is_new (w.state k))))
      → All (λ w'. Rest (λ k. ⊥) w' × ((k : ℕ) → w'.state k ≡ updated i Done w.state k)) (close t F ms i w)
  unfolding close
  close-ok i il w rs op vis =
      all_then (λ w'. Rest (λ k. k ≡ i) w' × ((k : ℕ) → w'.state k ≡ updated i Done w.state k)) (λ w'. Rest (λ k. ⊥) w' × ((k : ℕ) → w'.state k ≡ updated i Done w.state k))
      (lead t F ms i (with_state i Done w)) _ (lead-ok t F tk j em ms ok w rs i il op vis)
      (λ w₁ r.
      all_map (λ w'. Rest (λ k. ⊥) w' × ((k : ℕ) → w'.state k ≡ w₁.state k)) (λ w'. Rest (λ k. ⊥) w' × ((k : ℕ) → w'.state k ≡ updated i Done w.state k)) (undivert_all t F ms i (w₁.diverted.values i) w₁)
      (λ w' q. (q.0, λ k. q.1 k ∙ r.1 k))
      (release-ok t F tk j em ms ok i il (w₁.diverted.values i) w₁ refl (subst (λ (z : State). T (is_done z)) (sym (r.1 i ∙ updated-same i Done w.state)) tt) r.0))

  -- each move stays as it is, or a new one is done
  abbrev pub Went : (ℕ → State) → (ℕ → State) → Type 0
  Went a b = (k : ℕ) → (b k ≡ a k) ⊎ (T (is_new (a k)) × (b k ≡ Done))

  pub went-trans : (a b c : ℕ → State) → Went a b → Went b c → Went a c
  went-trans a b c f g k =
      ⊎_elim (λ x. ⊎_elim (λ y. inl (x ∙ y)) (λ y. inr (y.0, x ∙ y.1)) (f k))
      (λ x. ⊎_elim (λ y. inr (subst (λ (z : State). T (is_new z)) y x.0, x.1)) (λ y. inr (y.0, x.1)) (f k)) (g k)

  not_new : (a b : ℕ → State) → Went a b → (k : ℕ) → T (not (is_new (a k))) → T (not (is_new (b k)))
  not_new a b f k h = ⊎_elim (λ x. subst (λ (z : State). T (not (is_new z))) (sym x) h) (λ x. subst (λ (z : State). T (not (is_new z))) (sym x.1) tt) (f k)

  -- a new move opened: nothing else changes
  pub open-ok : (i : ℕ) (w : ParallelMoves) → T (is_new (w.state i)) → Rest (λ k. ⊥) w → Rest (λ k. ⊥) (with_state i Pending w)
  open-ok i w nw rs =
      record {
        pl = rs.pl;
        ride = rs.ride;
        inv =
            record {
              kept = inv.kept;
              here = λ k kl n. inv.here k kl (down k n);
              gone = λ k kl h.
                  ⊎_elim (λ y. inl y) (λ y. inr (y.0, record { of = y.1.of; of-in = y.1.of-in; at = y.1.at; val = y.1.val; over = λ x z. fwd x (y.1.over x z) })) (inv.gone k kl (bwd k h));
              lives = λ v l. live_map t F tk j em ms ok w (with_state i Pending w) w.state (updated i Pending w.state) v refl refl (λ x. ⊎_elim (λ c. inl c) (λ c. inr (fwd x c))) (λ k n. down k n) (inv.lives v l);
              riders = λ v r. let y = inv.riders v r in (y.0, y.1, fwd y.0 y.2, y.3, y.4);
              apart_s = inv.apart_s;
            };
        tab = rs.tab;
        still = λ k v h. ⊎_elim (λ x. inl x) (λ x. inr (not_T (is_done (updated i Pending w.state k)) (λ y. T_not (is_done (w.state k)) x (bwd k y)))) (rs.still k v h);
      }
    where
      inv : Inv t F tk j em ms ok (Lv w) (Lv w) w w.state rs.pl rs.ride
      inv = rs.inv

      fwd : (k : ℕ) → T (is_done (w.state k)) → T (is_done (updated i Pending w.state k))
      fwd k h = updated-at (λ y. T (is_done y)) i Pending w.state k (λ e. absurd (new-not-done (w.state i) nw (subst (λ (z : ℕ). T (is_done (w.state z))) e h))) (λ _. h)

      bwd : (k : ℕ) → T (is_done (updated i Pending w.state k)) → T (is_done (w.state k))
      bwd k = updated-at (λ y. T (is_done y) → T (is_done (w.state k))) i Pending w.state k (λ _ h. absurd h) (λ _ h. h)

      down : (k : ℕ) → T (not (is_done (updated i Pending w.state k))) → T (not (is_done (w.state k)))
      down k n = not_T (is_done (w.state k)) (λ h. T_not (is_done (updated i Pending w.state k)) n (fwd k h))

  abbrev pub Visited : ℕ → ParallelMoves → ParallelMoves → Type 0
  Visited i w w' = Rest (λ k. ⊥) w' × Went w.state w'.state × T (not (is_new (w'.state i)))

  abbrev pub AllSeen : List ℕ → ParallelMoves → ParallelMoves → Type 0
  AllSeen ks w w' = Rest (λ k. ⊥) w' × Went w.state w'.state × ((k : ℕ) → T (has_in ks k) → T (not (is_new (w'.state k))))

  pub each-ok : (f : ℕ → ParallelMoves → Option ParallelMoves) → ((i : ℕ) (w : ParallelMoves) → i < length ms → Rest (λ k. ⊥) w → All (Visited i w) (f i w))
      → (ks : List ℕ) → ((k : ℕ) → T (has_in ks k) → k < length ms) → (w : ParallelMoves) → Rest (λ k. ⊥) w → All (AllSeen ks w) (each f ks w)
  unfolding each has
  each-ok f fo [] l w rs = (rs, λ k. inl refl, λ k h. absurd h)
  each-ok f fo (k ∷ ks) l w rs =
      all_then (Visited k w) (AllSeen (k ∷ ks) w) (f k w) _ (fo k w (l k (has-head ks k)) rs)
      (λ w₁ r.
      all_map (AllSeen ks w₁) (AllSeen (k ∷ ks) w) (each f ks w₁)
      (λ w₂ q. (
        q.0,
        went-trans w.state w₁.state w₂.state r.1 q.1,
        λ x h. ⊎_elim (λ e. subst (λ (z : ℕ). T (not (is_new (w₂.state z)))) (sym e) (not_new w₁.state w₂.state q.1 k r.2)) (q.2 x) (has-cons ks k x h),
      ))
      (each-ok f fo ks (λ x h. l x (has-tail ks k x h)) w₁ r.0))

  visit-new : (f i : ℕ) (w : ParallelMoves) → i < length ms → Rest (λ k. ⊥) w
      → ((x : ParallelMoves) → Rest (λ k. ⊥) x → All (AllSeen (reverse (writers t F ms i)) x) (each (visit t F ms f) (reverse (writers t F ms i)) x))
      → All (Visited i w) (cond (is_new (w.state i)) (and_then (each (visit t F ms f) (reverse (writers t F ms i)) (with_state i Pending w)) (close t F ms i)) (some w))
  visit-new f i w il rs ih =
      if (All (Visited i w)) (is_new (w.state i)) _ _
      (λ nw.
      all_then (AllSeen (reverse (writers t F ms i)) (with_state i Pending w)) (Visited i w) (each (visit t F ms f) (reverse (writers t F ms i)) (with_state i Pending w)) _ (ih (with_state i Pending w) (open-ok i w nw rs))
      (λ w₁ r.
      let oi : w₁.state i ≡ Pending = ⊎_elim (λ e. e ∙ updated-same i Pending w.state) (λ e. absurd (subst (λ (z : State). T (is_new z)) (updated-same i Pending w.state) e.0)) (r.1 i) in
      all_map (λ w'. Rest (λ k. ⊥) w' × ((k : ℕ) → w'.state k ≡ updated i Done w₁.state k)) (Visited i w) (close t F ms i w₁)
      (λ w₂ q. (q.0, step w₁ w₂ nw r.1 q.1, subst (λ (z : State). T (not (is_new z))) (sym (q.1 i ∙ updated-same i Done w₁.state)) tt))
      (close-ok i il w₁ r.0 (subst (λ (z : State). T (is_pending z)) (sym oi) tt) (λ k h. r.2 k (ok.visited i k h)))))
      (λ on. (rs, λ k. inl refl, on))
    where
      step : (w₁ w₂ : ParallelMoves) → T (is_new (w.state i)) → Went (updated i Pending w.state) w₁.state → ((k : ℕ) → w₂.state k ≡ updated i Done w₁.state k) → Went w.state w₂.state
      step w₁ w₂ nw g h k =
          ⊎_elim
          (λ e. inr (subst (λ (z : ℕ). T (is_new (w.state z))) (sym e) nw, h k ∙ subst (λ (z : ℕ). updated i Done w₁.state z ≡ Done) (sym e) (updated-same i Done w₁.state)))
          (λ d.
          let e₂ : w₂.state k ≡ w₁.state k = h k ∙ updated-other i Done w₁.state k d in
          let e₁ : updated i Pending w.state k ≡ w.state k = updated-other i Pending w.state k d in
          ⊎_elim (λ x. inl (e₂ ∙ x ∙ e₁)) (λ x. inr (subst (λ (z : State). T (is_new z)) e₁ x.0, e₂ ∙ x.1)) (g k)) (same? k i)

  pub visit-ok : (f i : ℕ) (w : ParallelMoves) → i < length ms → Rest (λ k. ⊥) w → All (Visited i w) (visit t F ms f i w)
  unfolding visit
  visit-ok zero i w il rs = if (All (Visited i w)) (is_new (w.state i)) none (some w) (λ _. tt) (λ on. (rs, λ k. inl refl, on))
  visit-ok (suc f) i w il rs = visit-new f i w il rs (each-ok (visit t F ms f) (visit-ok f) (reverse (writers t F ms i)) (ok.visit-low i))
