-- Words compared one by one, and what stays.
use Prim.Native.Nat.{ℕ, suc, ◌+◌, ◌-◌, ◌*◌, ◌<◌, ◌≤◌}
use mathlib.Core.Path.{◌≡◌, refl, sym, ap, ap₂, ◌∙◌, subst}
use mathlib.Core.Bool.{Bool, true, false, false≢true}
use mathlib.Core.List.{List, [], ◌∷◌}
use native.Mathlib.Omega.{arith}
use lib.Dec.{eqb}
use lib.ListN.{length, get_or, drop, drop_of_length-le}
use borrow.Author.Tests.{eqb-true, eq-eqb}
use Rattle.entity.specs.Logic.{and, or, any_in, all_in, cells, indices}
use Rattle.entity.specs.Place.{Place, place_at}
use Rattle.entity.proofs.Laws.{cells-step, indices_step, and-true, never_true, length-built, get_d-built}
use Rattle.reginfo.specs.RegInfo.{RegInfo}
use Rattle.reginfo.specs.Table.{reg_info_of}
use Rattle.function.specs.Function.{Function, num_values}
use Rattle.function.specs.Known.{Checked}
use Rattle.function.specs.Table.{function_of}
use Rattle.function.proofs.Laws.{few-slots}
use Rattle.rules.specs.Order.{KeptMove, Remat, no_move, no_remat}
use Rattle.rules.specs.Patch.{names_place}
use Rattle.rules.specs.Sorted.{SortedOk, MoveOk, RematOk}
use Rattle.machine.specs.Machine.{Memory}
use Rattle.entries.specs.Table.{move_at, remat_at, sorted_of}
use Rattle.entries.proofs.Table.{kept-count, kept-is}
use Rattle.entries.proofs.Lists.{any_step}
use Rattle.examine_rules.specs.Examine.{same_words, unknown}
use Rattle.cells.specs.Cells.{memory_of, words_in}
use Rattle.cells.proofs.Laws.{list_at, no-mark, words-length}
use Rattle.ties.specs.Ties.{kept}
use Rattle.examine_run.proofs.Laws.{celled}
use Rattle.examine.specs.Ends.{wrongly, kept_wrong, remats_wrong, remats_at, Ending}

pub same_length : (l m : List ℕ) → same_words l m ≡ true → length l ≡ length m
unfolding same_words
same_length [] [] h = refl
same_length [] (y ∷ m) h = absurd (false≢true h)
same_length (x ∷ l) [] h = absurd (false≢true h)
same_length (x ∷ l) (y ∷ m) h = ap suc (same_length l m (and-true (eqb x y) (same_words l m) h).1)

pub same_self : (l : List ℕ) → same_words l l ≡ true
unfolding same_words
same_self [] = refl
same_self (x ∷ l) = ap₂ and (eq-eqb x x refl) (same_self l)

pub counts-differ : (b d : List ℕ) → (get_or b 0 0 ≡ get_or d 0 0 → ⊥) → same_words (words_in b) (words_in d) ≡ false
counts-differ b d h = never_true (same_words (words_in b) (words_in d)) (λ q. h (sym (words-length b) ∙ same_length (words_in b) (words_in d) q ∙ words-length d))

pub same_step : (b d : List ℕ) (at n : ℕ) → 0 < n → same_words (cells b at n) (cells d at n) ≡ and (eqb (get_or b at 0) (get_or d at 0)) (same_words (cells b (at + 1) (n - 1)) (cells d (at + 1) (n - 1)))
unfolding same_words
same_step b d at n h = rw (cells-step b at n h, cells-step d at n h)

pub same_start : (b d : List ℕ) (n : ℕ) → n ≡ get_or b 0 0 → get_or b 0 0 ≡ get_or d 0 0 → same_words (words_in b) (words_in d) ≡ same_words (cells b 1 n) (cells d 1 n)
unfolding words_in
same_start b d n p q = ap₂ (λ (x y : ℕ). same_words (cells b 1 x) (cells d 1 y)) (sym p) (sym q ∙ sym p)

pub same_none : (b d : List ℕ) (at n : ℕ) → n ≡ 0 → same_words (cells b at n) (cells d at n) ≡ true
unfolding same_words cells
same_none b d at n h = rw h

pub untouched-same : (c s : List ℕ) (at : ℕ) → at < 6656 → and (eqb (get_or c at 0) 0) (eqb (get_or s at 0) 0) ≡ true → same_words ((memory_of c).lists at) ((memory_of s).lists at) ≡ true
untouched-same c s at h q =
    let z = and-true (eqb (get_or c at 0) 0) (eqb (get_or s at 0) 0) q in
    ap₂ same_words (list_at c at h ∙ no-mark c at (eqb-true _ _ z.0)) (list_at s at h ∙ no-mark s at (eqb-true _ _ z.1)) ∙ same_self (unknown at)

pub all-index : (p : ℕ → Bool) (i n : ℕ) → 0 < n → all_in p (indices i n) ≡ and (p i) (all_in p (indices (i + 1) (n - 1)))
unfolding all_in
all-index p i n h = rw (indices_step i n h)

pub all_none : (p : ℕ → Bool) (i n : ℕ) → n ≡ 0 → all_in p (indices i n) ≡ true
unfolding all_in indices
all_none p i n h = rw h

pub or-last : (a b c : Bool) → c ≡ true → true ≡ or a (or b c)
or-last true b c h = refl
or-last false true c h = refl
or-last false false c h = sym h

pub or-middle : (a b c : Bool) → b ≡ true → true ≡ or a (or b c)
or-middle true b c h = refl
or-middle false b c h = rw h

pub or-only : (a b c : Bool) → b ≡ false → c ≡ false → a ≡ or a (or b c)
or-only true b c h q = refl
or-only false b c h q = rw (h, q)

pub or-second : (a b : Bool) → b ≡ true → true ≡ or a b
or-second true b h = refl
or-second false b h = sym h

pub or-first : (a b : Bool) → b ≡ false → a ≡ or a b
or-first true b h = refl
or-first false b h = sym h

-- ---- what the entries became
pub remats-are : (e : List ℕ) → (sorted_of e).remats ≡ remats_at e 512 1025
unfolding sorted_of
remats-are e = refl

pub scratch-are : (e : List ℕ) → (sorted_of e).remats_with_scratch ≡ remats_at e 768 1026
unfolding sorted_of
scratch-are e = refl

module _ (t : RegInfo) (f : Function) (g : ℕ → List ℕ) (m : Memory) (e : List ℕ) where
  pub kept_step : (k : ℕ) → k < kept e → kept_wrong t f g m (drop k (sorted_of e).moves) ≡ or (wrongly t f g m (place_at (get_or e (1 + k * 4) 0)) (get_or e (2 + k * 4) 0)) (kept_wrong t f g m (drop (k + 1) (sorted_of e).moves))
  unfolding move_at
  kept_step k h =
      let l : k < length (sorted_of e).moves = omega (arith, kept-count e) in
      any_step (λ (x : KeptMove). wrongly t f g m x.dest x.value) (sorted_of e).moves k no_move l
      ∙ ap (λ (x : KeptMove). or (wrongly t f g m x.dest x.value) (kept_wrong t f g m (drop (k + 1) (sorted_of e).moves))) (kept-is e k l)

  pub kept-end : (k : ℕ) → kept e ≤ k → kept_wrong t f g m (drop k (sorted_of e).moves) ≡ false
  unfolding any_in
  kept-end k h = rw (drop_of_length-le (sorted_of e).moves {i = k} (omega (arith, kept-count e)))

  module _ (base counter : ℕ) where
    count-is : length (remats_at e base counter) ≡ get_or e counter 0
    count-is = length-built (remat_at base e) 0 (get_or e counter 0)

    pub remats-step : (i : ℕ) → i < get_or e counter 0 → remats_wrong t f g m (drop i (remats_at e base counter)) ≡ or (wrongly t f g m (place_at (get_or e (base + i * 2) 0)) (get_or e (base + 1 + i * 2) 0)) (remats_wrong t f g m (drop (i + 1) (remats_at e base counter)))
    unfolding remat_at
    remats-step i h =
        let l : i < length (remats_at e base counter) = omega (arith, count-is) in
        any_step (λ (x : Remat). wrongly t f g m x.dest x.value) (remats_at e base counter) i no_remat l
        ∙ ap (λ (x : Remat). or (wrongly t f g m x.dest x.value) (remats_wrong t f g m (drop (i + 1) (remats_at e base counter)))) (get_d-built (remat_at base e) 0 (get_or e counter 0) i no_remat h ∙ ap (remat_at base e) (omega arith))

    pub remats-end : (i : ℕ) → get_or e counter 0 ≤ i → remats_wrong t f g m (drop i (remats_at e base counter)) ≡ false
    unfolding any_in
    remats-end i h = rw (drop_of_length-le (remats_at e base counter) {i = i} (omega (arith, count-is)))

-- ---- the destinations of an accepted patch
module _ (t f : List ℕ) (ok : Checked t f) (e : List ℕ) (s : SortedOk (reg_info_of t) (function_of f) (sorted_of e)) where
  abbrev T : RegInfo
  T = reg_info_of t

  abbrev F : Function
  F = function_of f

  there : (d : Place) (v : ℕ) → names_place T F d ≡ true → v < num_values F → Ending T F d v
  there d v n h = record { place = celled t f ok F.slots (omega (arith, few-slots T F ok.function)) d n; value = h }

  pub kept-ending : (m : ℕ) → m < kept e → Ending T F (place_at (get_or e (1 + m * 4) 0)) (get_or e (2 + m * 4) 0)
  unfolding move_at
  kept-ending m h =
      let l : m < length (sorted_of e).moves = omega (arith, kept-count e) in
      let k = subst (MoveOk T F) (kept-is e m l) (s.moves m l) in
      there _ _ k.dest-named k.value-named

  pub remats-ending : (i : ℕ) → i < get_or e 1025 0 → Ending T F (place_at (get_or e (512 + i * 2) 0)) (get_or e (512 + 1 + i * 2) 0)
  unfolding remat_at
  remats-ending i h =
      let l : i < length (sorted_of e).remats = omega (arith, ap length (remats-are e) ∙ count-is T F (λ v. []) (memory_of []) e 512 1025) in
      let q : get_or (sorted_of e).remats i no_remat ≡ remat_at 512 e i = ap (λ (r : List Remat). get_or r i no_remat) (remats-are e) ∙ get_d-built (remat_at 512 e) 0 (get_or e 1025 0) i no_remat h ∙ ap (remat_at 512 e) (omega arith) in
      let k = subst (RematOk T F true) q (s.remats i l) in
      there _ _ k.dest-named k.value-named

  pub scratch-ending : (i : ℕ) → i < get_or e 1026 0 → Ending T F (place_at (get_or e (768 + i * 2) 0)) (get_or e (768 + 1 + i * 2) 0)
  unfolding remat_at
  scratch-ending i h =
      let l : i < length (sorted_of e).remats_with_scratch = omega (arith, ap length (scratch-are e) ∙ count-is T F (λ v. []) (memory_of []) e 768 1026) in
      let q : get_or (sorted_of e).remats_with_scratch i no_remat ≡ remat_at 768 e i = ap (λ (r : List Remat). get_or r i no_remat) (scratch-are e) ∙ get_d-built (remat_at 768 e) 0 (get_or e 1026 0) i no_remat h ∙ ap (remat_at 768 e) (omega arith) in
      let k = subst (RematOk T F false) q (s.remats_with_scratch i l) in
      there _ _ k.dest-named k.value-named
