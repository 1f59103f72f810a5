-- The two passes: from any start in which each kept source holds its content, every edit can be done and every stop is right.
use mathlib.Core.Path.{◌≡◌, refl, sym, ◌∙◌, subst}
use mathlib.Core.Bool.{Bool, true, false, not, ◌||◌}
use mathlib.Core.List.{List, [], ◌∷◌}
use mathlib.Core.Option.{Option}
use mathlib.Core.Logic.{◌⊎◌, inl, inr, ⊎_elim}
use Prim.Native.Nat.{ℕ, zero, suc, ◌+◌, ◌≤◌, ◌<◌}
use native.Mathlib.Omega.{arith}
use lib.Dec.{T, T_not, not_T, eqb, eqb_refl}
use lib.ListN.{length}
use Rattle.entity.specs.Logic.{has, indices}
use Rattle.reginfo.specs.RegInfo.{RegInfo, is_memory}
use Rattle.function.specs.Function.{Function}
use Rattle.rules.specs.Edit.{each}
use Rattle.rules.specs.Scratch.{ScratchAllocator, with_evicted, unevict_all}
use Rattle.rules.proofs.Evictions.{unevict-evicted}
use Rattle.rules.specs.Order.{KeptMove, State, New, Done, is_new, ParallelMoves, source, dest, value, visit, visit_unless_memory, start, moves}
use Rattle.machine.specs.Machine.{Memory, read, counted}
use Rattle.rules.proofs.Steps.{All, all_then, all_map}
use Rattle.machine.proofs.Tests.{has_in, has-cons, or_l, or_r, if}
use Rattle.machine.proofs.Memory.{distinct, TargetOk}
use Rattle.machine.proofs.Run.{nobody, Job, state, Along}
use Rattle.machine.proofs.View.{ready-none}
use Rattle.machine.proofs.Sound.{Needs, Ok, Sound}
use Rattle.machine.proofs.Cache.{CacheOk}
use Rattle.machine.proofs.Search.{wait_of, Kept, Back, bring-ok}
use Rattle.machine.proofs.Tally.{tally, tally-zero}
use Rattle.machine.proofs.Order.{is_done, PatchOk, Needed, live, Rest, Home}
use Rattle.machine.proofs.Visit.{Went, went-trans, Visited, AllSeen, each-ok, visit-ok}

-- the indices from i on, n of them
pub indices-lt : (n i k : ℕ) → T (has_in (indices i n) k) → k < i + n
unfolding indices has
indices-lt zero i k h = absurd h
indices-lt (suc n) i k h = ⊎_elim (λ e. omega arith) (λ y. let q : k < i + 1 + n = indices-lt n (i + 1) k y in omega arith) (has-cons (indices (i + 1) n) i k h)

pub indices-has : (n i k : ℕ) → i ≤ k → k < i + n → T (has_in (indices i n) k)
unfolding indices has
indices-has zero i k p q = absurd (z p q)
  where
    z : i ≤ k → k < i + zero → ⊥
    z p q = omega arith
indices-has (suc n) i k p q = go (eqb k i) (λ e. subst (λ (z : ℕ). T (eqb k z)) e (eqb_refl k)) (λ y. indices-has n (i + 1) k y (omega arith))
  where
    go : (b : Bool) → (k ≡ i → T b) → (i + 1 ≤ k → T (has_in (indices (i + 1) n) k)) → T (b || has_in (indices (i + 1) n) k)
    go true e r = tt
    go false e r = r (le e)
      where
        le : (k ≡ i → ⊥) → i + 1 ≤ k
        le e = omega arith

module _ (t : RegInfo) (F : Function) (tk : TargetOk t) (j : Job) (em : (s : ℕ) → F.slots ≤ s → j.may (512 + s)) (ms : List KeptMove) (ok : PatchOk t F tk j em ms) where
  abbrev pub Base : Needs
  Base = Needed t F tk j em ms (dest t F ms)

  module _ (home : (i : ℕ) → i < length ms → j.home (source t F ms i) (value t F ms i)) (k₀ : ScratchAllocator) (kept₀ : Kept t F tk j em Base k₀) where
    abbrev R : ParallelMoves → Type 0
    R = Rest t F tk j em ms ok (λ k. ⊥)

    start-ok : R (start t F ms k₀)
    unfolding start has distinct
    start-ok =
        record {
          pl = dest t F ms;
          ride = λ k. false;
          inv =
              record {
                kept = kept₀;
                here = λ k kl n. (refl, tt);
                gone = λ k kl h. absurd h;
                lives = λ v l. absurd (none-live l);
                riders = λ v l. absurd (none-live l);
                apart_s = λ v x l. absurd (none-live l);
              };
          tab = record { counts = λ v. sym (tally-zero (λ k. false) (length ms) (λ k l. tt)); once = λ k. tt };
          still = λ k v h. absurd h;
        }
      where
        none-live : 0 < 0 → ⊥
        none-live l = omega arith

    abbrev Some : ParallelMoves → ParallelMoves → Type 0
    Some w w' = R w' × Went t F tk j em ms ok w.state w'.state

    each-some : (g : ℕ → ParallelMoves → Option ParallelMoves) → ((i : ℕ) (w : ParallelMoves) → i < length ms → R w → All (Some w) (g i w))
        → (ks : List ℕ) → ((k : ℕ) → T (has_in ks k) → k < length ms) → (w : ParallelMoves) → R w → All (Some w) (each g ks w)
    unfolding each has
    each-some g go [] l w r = (r, λ k. inl refl)
    each-some g go (k ∷ ks) l w r =
        all_then (Some w) (Some w) (g k w) _ (go k w (l k (or_l (eqb k k) (has_in ks k) (eqb_refl k))) r)
        (λ w₁ s.
        all_map (Some w₁) (Some w) (each g ks w₁) (λ w₂ q. (q.0, went-trans t F tk j em ms ok w.state w₁.state w₂.state s.1 q.1))
        (each-some g go ks (λ x h. l x (or_r (eqb x k) (has_in ks x) h)) w₁ s.0))

    first-ok : (i : ℕ) (w : ParallelMoves) → i < length ms → R w → All (Some w) (visit_unless_memory t F ms i w)
    unfolding visit_unless_memory
    first-ok i w il r =
        if (All (Some w)) (is_memory t (source t F ms i) || is_memory t (dest t F ms i)) _ _ (λ _. (r, λ k. inl refl))
        (λ _. all_map (Visited t F tk j em ms ok i w) (Some w) (visit t F ms (length ms) i w) (λ w' q. (q.0, q.1)) (visit-ok t F tk j em ms ok (length ms) i w il r))

    all-below : (k : ℕ) → T (has_in (indices 0 (length ms)) k) → k < length ms
    all-below k h = let q : k < 0 + length ms = indices-lt (length ms) 0 k h in omega arith

    -- all moves closed: every need stands at a source
    at_home : (w : ParallelMoves) (r : R w) → ((k : ℕ) → k < length ms → T (is_done (w.state k))) → (k : ℕ) → k < length ms → Home t F tk j em ms ok w r.pl k
    at_home w r dn k kl = ⊎_elim (λ g. absurd (none-live (value t F ms k) g.1)) (λ g. g.1) (r.inv.gone k kl (dn k kl))
      where
        none-live : (v : ℕ) → 0 < w.diverted.ref_count v → ⊥
        none-live v l =
            let z : tally (λ x. has_in (w.diverted.values x) v) (length ms) ≡ 0 = tally-zero (λ x. has_in (w.diverted.values x) v) (length ms)
            (λ x xl. not_T (has_in (w.diverted.values x) v) (λ h. ⊎_elim (λ e. e) (λ nd. T_not (is_done (w.state x)) nd (dn x xl)) (r.still x v h))) in
            omega (arith, r.tab.counts v)

    -- each kept source holds its content
    abbrev pub Holding : Memory → Type 0
    Holding m = (i : ℕ) → i < length ms → read t F m (source t F ms i) ≡ j.content (value t F ms i)

    pub record Right (k : ScratchAllocator) : Type 0 where
      pub every : (m : Memory) → Holding m → Along t F j k.edits m (state [] m [])
      pub cache-ok : CacheOk t F k.cache

    right : (w : ParallelMoves) (r : R w) → ((k : ℕ) → k < length ms → T (is_done (w.state k))) → Right (unevict_all t F w.allocator)
    unfolding Sound counted
    right w r dn = record { every = go; cache-ok = bk.kept.room.cache-ok }
      where
        nd : Needs
        nd = Needed t F tk j em ms r.pl

        bk : Back t F tk j em nd w.allocator (unevict_all t F w.allocator)
        bk = bring-ok t F tk j em nd w.allocator r.inv.kept

        snd : Sound t F tk j (unevict_all t F w.allocator).edits [] (Ok t F tk j nd [])
        snd = subst (λ x. Sound t F tk j (unevict_all t F w.allocator).edits (wait_of x) (Ok t F tk j nd (wait_of x))) (unevict-evicted t F w.allocator.evicted (with_evicted [] w.allocator)) bk.kept.sound

        go : (m : Memory) → Holding m → Along t F j (unevict_all t F w.allocator).edits m (state [] m [])
        go m hold =
            snd [] nobody m []
            (record {
              live = live t F tk j em ms ok r.pl;
              ready = ready-none t F tk m;
              met = λ p x n.
                  let h : Home t F tk j em ms ok w r.pl n.0 = at_home w r dn n.0 n.1 in
                  let e : p ≡ source t F ms h.of = n.2 ∙ h.at in
                  let y : x ≡ value t F ms h.of = n.3 ∙ sym h.val in
                  rw (e, y) (inl (home h.of h.of-in), hold h.of h.of-in);
            })

    pub moves-right : All Right (moves t F ms k₀)
    unfolding moves start
    moves-right =
        all_then (λ w. R w × ((k : ℕ) → k < length ms → T (is_done (w.state k)))) Right _ _
        (all_then (Some (start t F ms k₀)) (λ w. R w × ((k : ℕ) → k < length ms → T (is_done (w.state k)))) (each (visit_unless_memory t F ms) (indices 0 (length ms)) (start t F ms k₀)) _
        (each-some (visit_unless_memory t F ms) first-ok (indices 0 (length ms)) all-below (start t F ms k₀) start-ok)
        (λ w₁ s.
        all_map (AllSeen t F tk j em ms ok (indices 0 (length ms)) w₁) (λ w. R w × ((k : ℕ) → k < length ms → T (is_done (w.state k)))) (each (visit t F ms (length ms)) (indices 0 (length ms)) w₁)
        (λ w₂ q. (q.0, λ k kl. done (w₂.state k) (went-trans t F tk j em ms ok (λ k. New) w₁.state w₂.state s.1 q.1 k) (q.2 k (indices-has (length ms) 0 k (omega arith) (omega arith)))))
        (each-ok t F tk j em ms ok (visit t F ms (length ms)) (λ i w il r. visit-ok t F tk j em ms ok (length ms) i w il r) (indices 0 (length ms)) all-below w₁ s.0)))
        (λ w r. right w r.0 r.1)
      where
        done : (s : State) → (s ≡ New) ⊎ (T (is_new New) × (s ≡ Done)) → T (not (is_new s)) → T (is_done s)
        done s (inl e) nn = absurd (subst (λ (z : State). T (not (is_new z))) e nn)
        done s (inr e) nn = subst (λ (z : State). T (is_done z)) (sym e.1) tt
