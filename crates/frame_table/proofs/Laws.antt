-- Shares added up, and the cells of a frame's table.
use Prim.Native.Nat.{ℕ, zero, suc, ◌+◌, ◌-◌, ◌<◌, ◌≤◌}
use mathlib.Core.Path.{◌≡◌, refl, sym, ap, ◌∙◌}
use mathlib.Core.Bool.{Bool, true, false}
use mathlib.Core.List.{List, [], ◌∷◌}
use mathlib.Core.Option.{none, some}
use mathlib.Core.Logic.{⊎_elim}
use native.Mathlib.Omega.{arith}
use lib.Dec.{eqb, ltb, leb}
use lib.ListN.{length, get_or, drop, set, length-set, drop_of_length-le}
use lib.Seq.{get_or-set_same, get_or-set_other}
use borrow.Author.Tests.{eq-eqb, ne_eqb, lt-ltb, le-ltb, le-leb, leb-true, leb-false, ltb-true, ltb-false}
use Rattle.entity.proofs.Laws.{drop-step}
use Rattle.reginfo.specs.Refused.{first_of}
use Rattle.rules.specs.Counts.{sum}
use Rattle.rules.proofs.Steps.{same?}
use Rattle.frame_table.specs.Table.{open_of, opens_next, number_of, counter_of, lacks_of, lacks_beside, others_lack_of}
use Rattle.frame_table.specs.Opening.{sum_of, share_conditions, Filled}
use Rattle.frame_table.specs.Steps.{OneOpened, SlotsSet, WentOn}

-- ---- shares
-- from share i on, what is left of the limit is enough exactly where the limit is enough for all
abbrev pub Left : (limit : ℕ) (shares : List ℕ) (left i : ℕ) → Type 0
Left limit shares left i = leb (sum_of shares) limit ≡ leb (sum_of (drop i shares)) left

sum_step : (shares : List ℕ) (i : ℕ) → i < length shares → sum_of (drop i shares) ≡ get_or shares i 0 + sum_of (drop (i + 1) shares)
unfolding sum_of
sum_step shares i h = ap sum_of (drop-step shares i 0 h)

leb-false-of : (a b : ℕ) → b < a → leb a b ≡ false
leb-false-of a b h = go (leb a b) refl
  where
    go : (w : Bool) → leb a b ≡ w → w ≡ false
    go true e = absurd (omega (arith, leb-true a b e))
    go false e = refl

same-leb : (a b c d : ℕ) → (a ≤ b → c ≤ d) → (c ≤ d → a ≤ b) → leb a b ≡ leb c d
same-leb a b c d f g = go (leb a b) refl
  where
    go : (w : Bool) → leb a b ≡ w → w ≡ leb c d
    go true e = sym (le-leb c d (f (leb-true a b e)))
    go false e = other (leb c d) refl
      where
        other : (v : Bool) → leb c d ≡ v → false ≡ v
        other true k = absurd (omega (arith, leb-false a b e, g (leb-true c d k)))
        other false k = refl

pub left_out : (limit : ℕ) (shares : List ℕ) (left i : ℕ) → Left limit shares left i → i < length shares → left < get_or shares i 0 → false ≡ leb (sum_of shares) limit
left_out limit shares left i g h k = sym (g ∙ leb-false-of (sum_of (drop i shares)) left (omega (arith, sum_step shares i h)))

pub left_step : (limit : ℕ) (shares : List ℕ) (left i : ℕ) → Left limit shares left i → i < length shares → get_or shares i 0 ≤ left → Left limit shares (left - get_or shares i 0) (i + 1)
left_step limit shares left i g h k =
    g ∙ same-leb (sum_of (drop i shares)) left (sum_of (drop (i + 1) shares)) (left - get_or shares i 0) (λ a. omega (arith, sum_step shares i h)) (λ a. omega (arith, sum_step shares i h))

pub left_end : (limit : ℕ) (shares : List ℕ) (left i : ℕ) → Left limit shares left i → length shares ≤ i → true ≡ leb (sum_of shares) limit
unfolding sum_of
left_end limit shares left i g h = sym (g ∙ (rw (drop_of_length-le shares h) (le-leb 0 left (omega arith))))

-- no share is above the sum
pub share-low : (shares : List ℕ) (i : ℕ) → get_or shares i 0 ≤ sum_of shares
unfolding sum_of
share-low [] i = omega arith
share-low (n ∷ l) zero = omega arith
share-low (n ∷ l) (suc i) = omega (arith, share-low l i)

-- ---- the conditions of opening
module _ (limit : ℕ) (shares : List ℕ) where
  pub no-formula : length shares ≡ 0 → first_of (share_conditions limit shares) ≡ some 2
  unfolding share_conditions first_of
  no-formula h = rw (eq-eqb (length shares) 0 h) refl

  module _ (some-there : length shares ≡ 0 → ⊥) where
    pub too_many : 16 < length shares → first_of (share_conditions limit shares) ≡ some 2
    unfolding share_conditions first_of
    too_many h = rw (ne_eqb (length shares) 0 some-there, lt-ltb 16 (length shares) h) refl

    module _ (few : length shares ≤ 16) where
      pub limit-over : 2048 < limit → first_of (share_conditions limit shares) ≡ some 2
      unfolding share_conditions first_of
      limit-over h = rw (ne_eqb (length shares) 0 some-there, le-ltb 16 (length shares) few, lt-ltb 2048 limit h) refl

      module _ (low : limit ≤ 2048) where
        pub shares-above : limit < sum_of shares → first_of (share_conditions limit shares) ≡ some 23
        unfolding share_conditions first_of
        shares-above h = rw (ne_eqb (length shares) 0 some-there, le-ltb 16 (length shares) few, le-ltb 2048 limit low, lt-ltb limit (sum_of shares) h) refl

        pub none-refused : sum_of shares ≤ limit → first_of (share_conditions limit shares) ≡ none
        unfolding share_conditions first_of
        none-refused h = rw (ne_eqb (length shares) 0 some-there, le-ltb 16 (length shares) few, le-ltb 2048 limit low, le-ltb limit (sum_of shares) h) refl

-- ---- filling the table: the first i formulas stand there
pub record Filling (limit : ℕ) (shares : List ℕ) (i : ℕ) (frame : List ℕ) : Type 0 where
  pub long : length frame ≡ 37
  pub number : get_or frame 0 0 ≡ length shares
  pub limit_is : get_or frame 1 0 ≡ limit
  pub counter : get_or frame 2 0 ≡ 0
  pub slots : get_or frame 3 0 ≡ 0
  pub opened : get_or frame 36 0 ≡ 0
  pub share : (j : ℕ) → j < i → get_or frame (4 + j) 0 ≡ get_or shares j 0
  pub made : (j : ℕ) → j < i → get_or frame (20 + j) 0 ≡ 0

pub filling-start : (limit : ℕ) (shares frame : List ℕ) → length frame ≡ 37 → Filling limit shares 0 (set (set (set (set (set frame 0 (length shares)) 1 limit) 2 0) 3 0) 36 0)
filling-start limit shares f long =
    let f₁ = set f 0 (length shares) in
    let f₂ = set f₁ 1 limit in
    let f₃ = set f₂ 2 0 in
    let l₁ : length f₁ ≡ 37 = length-set f 0 (length shares) ∙ long in
    let l₂ : length f₂ ≡ 37 = length-set f₁ 1 limit ∙ l₁ in
    let l₃ : length f₃ ≡ 37 = length-set f₂ 2 0 ∙ l₂ in
    let f₄ = set f₃ 3 0 in
    let l₄ : length f₄ ≡ 37 = length-set f₃ 3 0 ∙ l₃ in
    let behind : (j : ℕ) → (j ≡ 36 → ⊥) → get_or (set f₄ 36 0) j 0 ≡ get_or f₄ j 0 = λ j d. get_or-set_other f₄ 36 j 0 0 d in
    record {
      long = length-set f₄ 36 0 ∙ l₄;
      number = behind 0 (λ e. omega arith) ∙ get_or-set_other f₃ 3 0 0 0 (λ e. omega arith) ∙ get_or-set_other f₂ 2 0 0 0 (λ e. omega arith) ∙ get_or-set_other f₁ 1 0 limit 0 (λ e. omega arith) ∙ get_or-set_same f 0 (length shares) 0 (omega arith);
      limit_is = behind 1 (λ e. omega arith) ∙ get_or-set_other f₃ 3 1 0 0 (λ e. omega arith) ∙ get_or-set_other f₂ 2 1 0 0 (λ e. omega arith) ∙ get_or-set_same f₁ 1 limit 0 (omega arith);
      counter = behind 2 (λ e. omega arith) ∙ get_or-set_other f₃ 3 2 0 0 (λ e. omega arith) ∙ get_or-set_same f₂ 2 0 0 (omega arith);
      slots = behind 3 (λ e. omega arith) ∙ get_or-set_same f₃ 3 0 0 (omega arith);
      opened = get_or-set_same f₄ 36 0 0 (omega arith);
      share = λ j h. absurd (omega arith);
      made = λ j h. absurd (omega arith);
    }

pub filling_step : (limit : ℕ) (shares frame : List ℕ) (i : ℕ) → i < 16 → Filling limit shares i frame → Filling limit shares (i + 1) (set (set frame (4 + i) (get_or shares i 0)) (20 + i) 0)
filling_step limit shares f i few g =
    let f₁ = set f (4 + i) (get_or shares i 0) in
    let l₁ : length f₁ ≡ 37 = length-set f (4 + i) (get_or shares i 0) ∙ g.long in
    let stays : (j : ℕ) → (j ≡ 4 + i → ⊥) → (j ≡ 20 + i → ⊥) → get_or (set f₁ (20 + i) 0) j 0 ≡ get_or f j 0 = λ j a b. get_or-set_other f₁ (20 + i) j 0 0 b ∙ get_or-set_other f (4 + i) j (get_or shares i 0) 0 a in
    record {
      long = length-set f₁ (20 + i) 0 ∙ l₁;
      number = stays 0 (λ e. omega arith) (λ e. omega arith) ∙ g.number;
      limit_is = stays 1 (λ e. omega arith) (λ e. omega arith) ∙ g.limit_is;
      counter = stays 2 (λ e. omega arith) (λ e. omega arith) ∙ g.counter;
      slots = stays 3 (λ e. omega arith) (λ e. omega arith) ∙ g.slots;
      opened = stays 36 (λ e. omega arith) (λ e. omega arith) ∙ g.opened;
      share = λ j h.
          ⊎_elim
          (λ e. rw e (get_or-set_other f₁ (20 + i) (4 + i) 0 0 (λ e. omega arith) ∙ get_or-set_same f (4 + i) (get_or shares i 0) 0 (omega (arith, g.long))))
          (λ d. stays (4 + j) (λ e. d (omega arith)) (λ e. omega arith) ∙ g.share j (omega (arith, away j i h d))) (same? j i);
      made = λ j h.
          ⊎_elim (λ e. rw e (get_or-set_same f₁ (20 + i) 0 0 (omega (arith, l₁)))) (λ d. stays (20 + j) (λ e. omega (arith, h)) (λ e. d (omega arith)) ∙ g.made j (omega (arith, away j i h d))) (same? j i);
    }
  where
    away : (j i : ℕ) → j < i + 1 → (j ≡ i → ⊥) → j < i
    away j i h d = go (ltb j i) refl
      where
        go : (w : Bool) → ltb j i ≡ w → j < i
        go true e = ltb-true j i e
        go false e = absurd (d (omega (arith, ltb-false j i e)))

pub filling-end : (limit : ℕ) (shares frame : List ℕ) (i : ℕ) → length shares ≤ i → Filling limit shares i frame → Filled limit shares frame
filling-end limit shares frame i h g =
    record { number = g.number; limit_is = g.limit_is; counter = g.counter; slots = g.slots; opened = g.opened; share = λ j k. g.share j (omega arith); made = λ j k. g.made j (omega arith) }

-- ---- one cell set
pub slots_set : (frame : List ℕ) (n : ℕ) → length frame ≡ 37 → SlotsSet frame n (set frame 3 n)
slots_set f n long =
    record {
      number = get_or-set_other f 3 0 n 0 (λ e. omega arith);
      limit = get_or-set_other f 3 1 n 0 (λ e. omega arith);
      counter = get_or-set_other f 3 2 n 0 (λ e. omega arith);
      slots = get_or-set_same f 3 n 0 (omega arith);
      share = λ j. get_or-set_other f 3 (4 + j) n 0 (λ e. omega arith);
      made = λ j. get_or-set_other f 3 (20 + j) n 0 (λ e. omega arith);
    }

-- ---- which formula is opened next
module _ (frame : List ℕ) (i : ℕ) where
  pub past-the-shares : number_of frame ≤ i → false ≡ opens_next frame i
  unfolding opens_next
  past-the-shares h = rw (le-ltb i (number_of frame) h) refl

  module _ (there : i < number_of frame) where
    pub slot-made : (counter_of frame ≡ 0 → ⊥) → false ≡ opens_next frame i
    unfolding opens_next
    slot-made d = rw (lt-ltb i (number_of frame) there, ne_eqb (counter_of frame) 0 d) refl

    pub next-is : counter_of frame ≡ 0 → eqb (open_of frame) i ≡ opens_next frame i
    unfolding opens_next
    next-is e = rw (lt-ltb i (number_of frame) there, eq-eqb (counter_of frame) 0 e) refl

pub one-opened : (frame : List ℕ) (i : ℕ) → length frame ≡ 37 → OneOpened frame i (set frame 36 (i + 1))
one-opened f i long = record { opened = get_or-set_same f 36 (i + 1) 0 (omega arith); rest = λ j d. get_or-set_other f 36 j (i + 1) 0 d }

pub went_on : (frame : List ℕ) (i n : ℕ) → length frame ≡ 37 → i < 16 → WentOn frame i n (set (set frame (20 + i) (get_or frame (20 + i) 0 + (n - get_or frame 2 0))) 2 n)
went_on f i n long low =
    let m = get_or f (20 + i) 0 + (n - get_or f 2 0) in
    let f₁ = set f (20 + i) m in
    let l₁ : length f₁ ≡ 37 = length-set f (20 + i) m ∙ long in
    let stays : (j : ℕ) → (j ≡ 2 → ⊥) → (j ≡ 20 + i → ⊥) → get_or (set f₁ 2 n) j 0 ≡ get_or f j 0 = λ j a b. get_or-set_other f₁ 2 j n 0 a ∙ get_or-set_other f (20 + i) j m 0 b in
    record {
      number = stays 0 (λ e. omega arith) (λ e. omega arith);
      limit = stays 1 (λ e. omega arith) (λ e. omega arith);
      counter = get_or-set_same f₁ 2 n 0 (omega (arith, l₁));
      slots = stays 3 (λ e. omega arith) (λ e. omega arith);
      share = λ j h. stays (4 + j) (λ e. omega arith) (λ e. omega arith);
      own = get_or-set_other f₁ 2 (20 + i) n 0 (λ e. omega arith) ∙ get_or-set_same f (20 + i) m 0 (omega (arith, long));
      others = λ j d. stays (20 + j) (λ e. omega arith) (λ e. d (omega arith));
    }

-- ---- what the others lack, one after the other
pub beside-own : (frame : List ℕ) (i j : ℕ) → j ≡ i → 0 ≡ lacks_beside frame i j
beside-own frame i j e = rw (eq-eqb j i e) refl

pub beside-other : (frame : List ℕ) (i j : ℕ) → (j ≡ i → ⊥) → lacks_of frame j ≡ lacks_beside frame i j
beside-other frame i j d = rw (ne_eqb j i d) refl

pub sum_more : (f : ℕ → ℕ) (n : ℕ) → sum f (n + 1) ≡ sum f n + f n
unfolding sum
sum_more f n = let e : n + 1 ≡ suc n = omega arith in rw e (omega arith)

pub sum-none : (f : ℕ → ℕ) → sum f 0 ≡ 0
unfolding sum
sum-none f = refl

pub others-lack-is : (frame : List ℕ) (i : ℕ) → others_lack_of frame i ≡ sum (lacks_beside frame i) (number_of frame)
unfolding others_lack_of
others-lack-is frame i = refl
