-- The depth of a visit is bounded by the moves not visited yet, so that a higher bound changes nothing.
use Prim.Native.Nat.{ℕ, zero, suc, ◌<◌, ◌≤◌}
use mathlib.Core.Path.{◌≡◌, refl, ap, ◌∙◌}
use mathlib.Core.Bool.{Bool, true, false}
use mathlib.Core.List.{List, [], ◌∷◌, reverse}
use mathlib.Core.Option.{Option, none, some}
use native.Mathlib.Omega.{arith}
use lib.Dec.{eqb}
use lib.ListN.{length}
use Rattle.entity.specs.Logic.{pick, any_in, or, indices}
use Rattle.entity.specs.Place.{Place}
use Rattle.reginfo.specs.RegInfo.{RegInfo, is_memory}
use Rattle.function.specs.Function.{Function}
use Rattle.rules.specs.Edit.{updated, and_then, each}
use Rattle.rules.specs.Scratch.{unevict_all}
use Rattle.rules.specs.Order.{KeptMove, Pending, Done, is_new, is_pending, ParallelMoves, with_state, source, dest, value, writers, emit, noted, divert, carried, lead, lost, undivert, undivert_all, close, visit, visit_unless_memory, start, moves}
use Rattle.rules.specs.Counts.{news}
use Rattle.rules.specs.Depth.{visit_unless_memory_within, moves_within, NeverDecides}
use Rattle.rules.proofs.Steps.{All, all_then, all_after, all_map, branch, Every, every-reverse, every-index, all-each}
use Rattle.rules.proofs.News.{news-all, news-open, news-close}
use Rattle.rules.proofs.Writers.{writers-low}

-- the same step after the same result, and the same steps one after the other
then-cong : {A B : Type 0} (P : A → Type 0) (o : Option A) (g h : A → Option B) → All P o → ((a : A) → P a → g a ≡ h a) → and_then o g ≡ and_then o h
unfolding and_then
then-cong P none g h p k = refl
then-cong P (some a) g h p k = k a p

each-cong :
    {A B : Type 0} (P : A → Type 0) (Q : B → Type 0) (g h : B → A → Option A) → ((x : B) (a : A) → Q x → P a → (g x a ≡ h x a) × All P (h x a))
    → (l : List B) → Every Q l → (a : A) → P a → each g l a ≡ each h l a
unfolding each
each-cong P Q g h s [] q a p = refl
each-cong P Q g h s (x ∷ l) q a p =
    ap (λ o. and_then o (each g l)) (s x a q.0 p).0 ∙ then-cong P (h x a) (each g l) (each h l) (s x a q.0 p).1 (λ a' p'. each-cong P Q g h s l q.1 a' p')

pick-cong : {A : Type 0} (b : Bool) (x y z : A) → (b ≡ true → x ≡ y) → pick b x z ≡ pick b y z
pick-cong true x y z h = h refl
pick-cong false x y z h = refl

module _ (t : RegInfo) (f : Function) (ms : List KeptMove) where
  abbrev n : ℕ
  n = length ms

  -- only a visit changes what is visited
  abbrev Same : ParallelMoves → ParallelMoves → Type 0
  Same w w' = w'.state ≡ w.state

  emit-state : (i : ℕ) (from : Place) (w : ParallelMoves) → All (Same w) (emit t f ms i from w)
  emit-state i from w = all_after (Same w) _ _ (λ k. refl)

  lead-state : (i : ℕ) (w : ParallelMoves) → All (Same w) (lead t f ms i w)
  unfolding lead divert
  lead-state i w =
      branch (All (Same w)) (any_in (λ m. is_pending (w.state m)) (writers t f ms i)) _ _
      (λ _. branch (All (Same w)) (eqb (w.diverted.ref_count (value t f ms i)) 0) _ _ (λ _. all_after (Same w) _ _ (λ x. emit-state i x.place (noted t f ms i x (carried t f ms i w))))
      (λ _. emit-state i (w.scratch (value t f ms i)) (carried t f ms i w)))
      (λ _. emit-state i (source t f ms i) w)

  undivert-state : (i v : ℕ) (rest : List ℕ) (w : ParallelMoves) → All (Same w) (undivert t f ms i v rest w)
  unfolding undivert
  undivert-state i v rest w = branch (All (Same w)) (eqb ((lost t f ms i v rest w.diverted).ref_count v) 0) _ _ (λ _. all_after (Same w) _ _ (λ k. refl)) (λ _. refl)

  undivert_all-state : (i : ℕ) (l : List ℕ) (w : ParallelMoves) → All (Same w) (undivert_all t f ms i l w)
  unfolding undivert_all
  undivert_all-state i [] w = refl
  undivert_all-state i (v ∷ l) w =
      all_then (Same w) (Same w) (undivert t f ms i v l w) _ (undivert-state i v l w)
      (λ w' e. all_map (Same w') (Same w) (undivert_all t f ms i l w') (λ w'' e'. e' ∙ e) (undivert_all-state i l w'))

  close-state : (i : ℕ) (w : ParallelMoves) → All (Same (with_state i Done w)) (close t f ms i w)
  unfolding close
  close-state i w =
      all_then (Same (with_state i Done w)) (Same (with_state i Done w)) (lead t f ms i (with_state i Done w)) _ (lead-state i (with_state i Done w))
      (λ w' e. all_map (Same w') (Same (with_state i Done w)) (undivert_all t f ms i (w'.diverted.values i) w') (λ w'' e'. e' ∙ e) (undivert_all-state i (w'.diverted.values i) w'))

  abbrev Few : ℕ → ParallelMoves → Type 0
  Few c w = news n w.state ≤ c

  close-fewer : (i : ℕ) (w : ParallelMoves) (c : ℕ) → Few c w → All (Few c) (close t f ms i w)
  close-fewer i w c h = all_map (Same (with_state i Done w)) (Few c) (close t f ms i w) (λ w' e. omega (arith, ap (news n) e, news-close n i w.state)) (close-state i w)

  pub visit-fewer : (d i : ℕ) (w : ParallelMoves) (c : ℕ) → i < n → Few c w → All (Few c) (visit t f ms d i w)
  unfolding visit
  visit-fewer zero i w c il h = branch (All (Few c)) (is_new (w.state i)) _ _ (λ _. tt) (λ _. h)
  visit-fewer (suc d) i w c il h =
      branch (All (Few c)) (is_new (w.state i)) _ _
      (λ e. all_then (Few c) (Few c) (each (visit t f ms d) (reverse (writers t f ms i)) (with_state i Pending w)) _
      (all-each (Few c) (λ m. m < n) (visit t f ms d) (λ m w' ml q. visit-fewer d m w' c ml q) (reverse (writers t f ms i)) (every-reverse (λ m. m < n) (writers t f ms i) (writers-low t f ms i))
      (with_state i Pending w) (omega (arith, news-open n i w.state il e)))
      (λ w' q. close-fewer i w' c q))
      (λ _. h)

  -- a visit is the same under every bound that the moves not visited yet keep to
  pub fuel : (a b i : ℕ) (w : ParallelMoves) → i < n → news n w.state ≤ a → news n w.state ≤ b → visit t f ms a i w ≡ visit t f ms b i w
  unfolding visit
  fuel zero zero i w il p q = refl
  fuel zero (suc b) i w il p q = pick-cong (is_new (w.state i)) none _ (some w) (λ e. absurd (omega (arith, news-open n i w.state il e)))
  fuel (suc a) zero i w il p q = pick-cong (is_new (w.state i)) _ none (some w) (λ e. absurd (omega (arith, news-open n i w.state il e)))
  fuel (suc a) (suc b) i w il p q =
      pick-cong (is_new (w.state i)) _ _ (some w)
      (λ e. let o = news-open n i w.state il e in
      ap (λ o. and_then o (close t f ms i))
      (each-cong (Few (news n (updated i Pending w.state))) (λ m. m < n) (visit t f ms a) (visit t f ms b)
      (λ m w' ml h. (fuel a b m w' ml (omega (arith, o)) (omega (arith, o)), visit-fewer b m w' (news n (updated i Pending w.state)) ml h)) (reverse (writers t f ms i))
      (every-reverse (λ m. m < n) (writers t f ms i) (writers-low t f ms i)) (with_state i Pending w) (omega arith)))

  pub never-decides : NeverDecides t f ms
  unfolding moves moves_within visit_unless_memory visit_unless_memory_within
  never-decides d h k =
      ap (λ o. and_then o (λ w. some (unevict_all t f w.allocator)))
      (ap (λ o. and_then o (each (visit t f ms d) (indices 0 n))) (along (visit_unless_memory_within t f ms d) (visit_unless_memory t f ms) first (start t f ms k))
      ∙ then-cong (λ w. Unit {0}) (each (visit_unless_memory t f ms) (indices 0 n) (start t f ms k)) (each (visit t f ms d) (indices 0 n)) (each (visit t f ms n) (indices 0 n)) (any-result (each (visit_unless_memory t f ms) (indices 0 n) (start t f ms k)))
      (λ w _. along (visit t f ms d) (visit t f ms n) second w))
    where
      any-result : (o : Option ParallelMoves) → All (λ w. Unit {0}) o
      any-result none = tt
      any-result (some w) = tt

      along : (g g' : ℕ → ParallelMoves → Option ParallelMoves) → ((i : ℕ) (w : ParallelMoves) → i < n → g i w ≡ g' i w) → (w : ParallelMoves) → each g (indices 0 n) w ≡ each g' (indices 0 n) w
      along g g' s w = each-cong (λ w. Unit {0}) (λ i. i < n) g g' (λ i w' il _. (s i w' il, any-result (g' i w'))) (indices 0 n) (every-index n 0 n (omega arith)) w tt

      second : (i : ℕ) (w : ParallelMoves) → i < n → visit t f ms d i w ≡ visit t f ms n i w
      second i w il = fuel d n i w il (omega (arith, news-all n w.state)) (news-all n w.state)

      first : (i : ℕ) (w : ParallelMoves) → i < n → visit_unless_memory_within t f ms d i w ≡ visit_unless_memory t f ms i w
      first i w il = ap (pick (or (is_memory t (source t f ms i)) (is_memory t (dest t f ms i))) (some w)) (second i w il)
