-- What is counted in the cells of a table.
use Prim.Native.Nat.{ℕ, zero, suc, ◌+◌, ◌-◌, ◌%◌, ◌^◌, ◌<◌, ◌≤◌}
use native.Mathlib.Omega.{arith}
use mathlib.Core.Path.{◌≡◌, refl, sym, ap, subst, ◌∙◌}
use mathlib.Core.Bool.{Bool, true, false}
use mathlib.Core.List.{List, [], ◌∷◌, map, append-nil}
use mathlib.Core.Option.{Option, none, some}
use mathlib.Core.Logic.{⊎_elim}
use borrow.Author.Tests.{le-ltb, eq-eqb, ne_eqb}
use lib.Dec.{eqb}
use lib.ListN.{length, get_or, set, drop, take, length-set, drop_of_length-le}
use lib.Seq.{get_or-set_same, get_or-set_other, drop-cons}
use Rattle.entity.specs.Logic.{pick}
use Rattle.entity.specs.Place.{code_of, reg, slot}
use Rattle.rules.specs.Edit.{Edit, Move, Rematerialize, EmergencySpill, EmergencyReload, filter}
use Rattle.rules.specs.Counts.{bit}
use Rattle.rules.specs.Scratch.{Cache}
use Rattle.rules.specs.Patch.{Answer, refused, resolved}
use Rattle.rules.proofs.Steps.{same?}
use Rattle.edit.specs.Word.{kind_in, packed, word_of}
use Rattle.price.specs.declared.Prices.{Prices}
use Rattle.price.specs.Price.{price_of, total_of, in_range}
use Rattle.price.specs.Totals.{added, from_first}
use Rattle.price.proofs.Laws.{words-cost, total-few}
use Rattle.trying.specs.Report.{is_accepted, is_refused, edits_in, kind_of, of_kind}
use Rattle.parallel_moves.specs.declared.Resolved.{Resolved}
use Rattle.parallel_moves.specs.declared.Resolved.TheVariants.{Edits, Refused}
use Rattle.parallel_moves.specs.Answers as answers
use Rattle.trying.specs.declared.Tried as TR
use Rattle.trying.specs.Steps.{cell_of, Adds, Room, Kinds, CountsWords, Told, Counted}
use Rattle.trying.proofs.Counting.{count-cons, count_most}

-- a number added to a cell
pub one_cell : (l : List ℕ) (i n k : ℕ) → i < length l → get_or (set l i (get_or l i 0 + n)) k 0 ≡ get_or l k 0 + pick (eqb i k) n 0
one_cell l i n k h =
    ⊎_elim
    (λ e. rw (eq-eqb i k e) (subst (λ (j : ℕ). get_or (set l i (get_or l i 0 + n)) j 0 ≡ get_or l j 0 + n) e (get_or-set_same l i (get_or l i 0 + n) 0 h)))
    (λ d. rw (ne_eqb i k d) (get_or-set_other l i k (get_or l i 0 + n) 0 (λ e. d (sym e)) ∙ omega arith)) (same? i k)

-- words of one kind
abbrev pub of_kind_in : ℕ → List ℕ → ℕ
of_kind_in k l = length (filter (λ w. eqb (kind_in w) k) l)

-- the first i words are counted
pub record KindsTo (list tally₀ tally : List ℕ) (i : ℕ) : Type 0 where
  pub long : length tally ≡ 263
  pub cells : (k : ℕ) → get_or tally k 0 + of_kind_in k (drop i list) ≡ get_or tally₀ k 0 + of_kind_in k list

pub kinds-start : (list tally : List ℕ) → length tally ≡ 263 → KindsTo list tally tally 0
kinds-start list tally h = record { long = h; cells = λ k. refl }

ones : (b : Bool) → pick b 1 0 ≡ bit b
unfolding bit
ones true = refl
ones false = refl

pub kinds-step : (list tally₀ tally : List ℕ) (i : ℕ) → KindsTo list tally₀ tally i → i < length list
    → KindsTo list tally₀ (set tally (get_or list i 0 % 8) (get_or tally (get_or list i 0 % 8) 0 + 1)) (i + 1)
kinds-step list tally₀ tally i g h =
    let j = get_or list i 0 % 8 in
    let low : j < 8 = omega arith in
    record {
      long = length-set tally j (get_or tally j 0 + 1) ∙ g.long;
      cells = λ k.
          omega (
            arith,
            one_cell tally j 1 k (omega (arith, g.long)),
            ones (eqb j k),
            count-cons (λ w. eqb (kind_in w) k) (get_or list i 0) (drop (suc i) list),
            ap (of_kind_in k) (drop-cons list i 0 h),
            ap (λ (n : ℕ). of_kind_in k (drop n list)) (let e : i + 1 ≡ suc i = omega arith in e),
            g.cells k,
          );
    }

pub kinds-end : (list tally₀ tally : List ℕ) (i : ℕ) → KindsTo list tally₀ tally i → length list ≤ i → Kinds list tally₀ tally
unfolding filter
kinds-end list tally₀ tally i g h = record { long = g.long; cells = λ k. omega (arith, g.cells k, ap (of_kind_in k) (drop_of_length-le list h)) }

-- a cell has room for one word more
pub kinds-room : (list tally₀ tally : List ℕ) (i k : ℕ) → KindsTo list tally₀ tally i → length list ≤ 1024 → Room 1 tally₀ → k < 263 → get_or tally k 0 + 1 < 2 ^ 64
kinds-room list tally₀ tally i k g h r l = omega (arith, g.cells k, count_most (λ w. eqb (kind_in w) k) list, r k l)

-- and for the rest of a patch
pub kinds-left : (list t t' : List ℕ) (k : ℕ) → Kinds list t t' → length list ≤ 1024 → Room 1 t → k < 263 → get_or t' k 0 + 134216704 < 2 ^ 64
kinds-left list t t' k g h r l = omega (arith, g.cells k, count_most (λ w. eqb (kind_in w) k) list, r k l)

pub price-left : (p : Prices) (list t t₁ t₂ : List ℕ) (total : ℕ) → in_range p ≡ true → Kinds list t t₁ → t₂ ≡ set t₁ 0 (get_or t₁ 0 0 + 1) → total ≡ total_of p list → length list ≤ 1024
    → Room 1 t → get_or t₂ 6 0 + total < 2 ^ 64
price-left p list t t₁ t₂ total q g e w h r =
    let few : total_of p list < 67108864 = total-few p q list h in
    omega (arith, kinds-left list t t₁ 6 g h r (omega arith), ap (λ (l : List ℕ). get_or l 6 0) e, one_cell t₁ 0 1 6 (omega (arith, g.long)), w)

-- a word has its edit's kind
of_word : (k to from v : ℕ) → k < 8 → kind_in (packed k to from v) ≡ k
of_word k to from v h = omega arith

word-kind : (e : Edit) → kind_in (word_of e) ≡ kind_of e
word-kind (Move to from v) = of_word 1 (code_of to) (code_of from) v (omega arith)
word-kind (Rematerialize to v) = of_word 2 (code_of to) 0 v (omega arith)
word-kind (EmergencySpill s r) = of_word 3 (code_of (slot s)) (code_of (reg r)) 0 (omega arith)
word-kind (EmergencyReload r s) = of_word 4 (code_of (reg r)) (code_of (slot s)) 0 (omega arith)

words-kind : (k : ℕ) (es : List Edit) → of_kind_in k (map word_of es) ≡ of_kind k es
unfolding filter
words-kind k [] = refl
words-kind k (e ∷ es) =
    omega (
      arith,
      count-cons (λ w. eqb (kind_in w) k) (word_of e) (map word_of es),
      count-cons (λ x. eqb (kind_of x) k) e es,
      words-kind k es,
      ap (λ (n : ℕ). bit (eqb n k)) (word-kind e),
    )

-- there are four kinds
kind-in : (e : Edit) → (1 ≤ kind_of e) × (kind_of e ≤ 4)
kind-in (Move to from v) = (omega arith, omega arith)
kind-in (Rematerialize to v) = (omega arith, omega arith)
kind-in (EmergencySpill s r) = (omega arith, omega arith)
kind-in (EmergencyReload r s) = (omega arith, omega arith)

no_kind : (k : ℕ) → ((n : ℕ) → 1 ≤ n → n ≤ 4 → n ≡ k → ⊥) → (es : List Edit) → of_kind k es ≡ 0
unfolding filter bit
no_kind k h [] = refl
no_kind k h (e ∷ es) =
    omega (arith, count-cons (λ x. eqb (kind_of x) k) e es, no_kind k h es, ap bit (ne_eqb (kind_of e) k (h (kind_of e) (kind-in e).0 (kind-in e).1)))

-- what an accepted patch adds to a cell
pub accepted-cell : (p : Prices) (es : List Edit) (c : Cache) (m i : ℕ)
    → cell_of p (resolved es c m ∷ []) i ≡ of_kind i es + (pick (eqb 0 i) 1 0 + pick (eqb 6 i) (from_first (price_of p) es) 0)
unfolding cell_of filter edits_in
accepted-cell p es c m zero = omega (arith, no_kind 0 (λ n a b e. omega arith) es)
accepted-cell p es c m (suc zero) = rw (append-nil es) (omega arith)
accepted-cell p es c m (suc (suc zero)) = rw (append-nil es) (omega arith)
accepted-cell p es c m (suc (suc (suc zero))) = rw (append-nil es) (omega arith)
accepted-cell p es c m (suc (suc (suc (suc zero)))) = rw (append-nil es) (omega arith)
accepted-cell p es c m (suc (suc (suc (suc (suc zero))))) = rw (append-nil es) (omega arith)
accepted-cell p es c m (suc (suc (suc (suc (suc (suc zero)))))) = rw (append-nil es) (omega (arith, no_kind 6 (λ n a b e. omega arith) es))
accepted-cell p es c m (suc (suc (suc (suc (suc (suc (suc i))))))) =
    let k = suc (suc (suc (suc (suc (suc (suc i)))))) in
    rw (le-ltb k 7 (omega arith), ne_eqb 0 k (λ e. omega arith), ne_eqb 6 k (λ e. omega arith)) (omega (arith, no_kind k (λ n a b e. omega arith) es))

shift : (n i : ℕ) → eqb (7 + n) (suc (suc (suc (suc (suc (suc (suc i))))))) ≡ eqb n i
shift n i =
    ⊎_elim (λ e. eq-eqb (7 + n) (suc (suc (suc (suc (suc (suc (suc i))))))) (omega arith) ∙ sym (eq-eqb n i e)) (λ d. ne_eqb (7 + n) (suc (suc (suc (suc (suc (suc (suc i))))))) (λ e. d (omega arith)) ∙ sym (ne_eqb n i d)) (same? n i)

-- what a refused one adds
pub refused-cell : (p : Prices) (n i : ℕ) → cell_of p (refused n ∷ []) i ≡ pick (eqb (7 + n) i) 1 0
unfolding cell_of filter edits_in added
refused-cell p n zero = rw (ne_eqb (7 + n) 0 (λ e. omega arith))
refused-cell p n (suc zero) = rw (ne_eqb (7 + n) 1 (λ e. omega arith))
refused-cell p n (suc (suc zero)) = rw (ne_eqb (7 + n) 2 (λ e. omega arith))
refused-cell p n (suc (suc (suc zero))) = rw (ne_eqb (7 + n) 3 (λ e. omega arith))
refused-cell p n (suc (suc (suc (suc zero)))) = rw (ne_eqb (7 + n) 4 (λ e. omega arith))
refused-cell p n (suc (suc (suc (suc (suc zero))))) = rw (ne_eqb (7 + n) 5 (λ e. omega arith))
refused-cell p n (suc (suc (suc (suc (suc (suc zero)))))) = rw (ne_eqb (7 + n) 6 (λ e. omega arith))
refused-cell p n (suc (suc (suc (suc (suc (suc (suc i))))))) =
    let k = suc (suc (suc (suc (suc (suc (suc i)))))) in
    let e : k - 7 ≡ i = omega arith in
    rw (le-ltb k 7 (omega arith), e) (omega (arith, count-cons (is_refused i) (refused n) [], ones (eqb n i), ap {B = ℕ} (λ (b : Bool). pick b 1 0) (shift n i)))

-- an accepted patch is counted, with its words and its price
pub words-counted : (p : Prices) (list t₀ t₁ t₂ t₃ : List ℕ) (total : ℕ) → Kinds list t₀ t₁ → t₂ ≡ set t₁ 0 (get_or t₁ 0 0 + 1) → total ≡ total_of p list → t₃ ≡ set t₂ 6 (get_or t₂ 6 0 + total)
    → length t₂ ≡ 263 → CountsWords p list t₀ t₃
words-counted p list t₀ t₁ t₂ t₃ total k e₂ et e₃ n es w c m =
    λ i h.
    omega (
      arith,
      ap (λ (l : List ℕ). get_or l i 0) e₃,
      one_cell t₂ 6 total i (omega (arith, n)),
      ap (λ (l : List ℕ). get_or l i 0) e₂,
      one_cell t₁ 0 1 i (omega (arith, k.long)),
      k.cells i,
      ap (of_kind_in i) w ∙ words-kind i es,
      ap (λ (x : ℕ). pick (eqb 6 i) x 0) (et ∙ ap (total_of p) w ∙ words-cost p es),
      accepted-cell p es c m i,
    )

pub refusal-counted : (p : Prices) (n : ℕ) (t t' : List ℕ) → t' ≡ set t (7 + n) (get_or t (7 + n) 0 + 1) → length t ≡ 263 → n < 256 → Adds p (refused n ∷ []) t t'
refusal-counted p n t t' e h l =
    λ i q. omega (arith, ap (λ (x : List ℕ). get_or x i 0) e, one_cell t (7 + n) 1 i (omega (arith, h)), refused-cell p n i)

abbrev number : Option ℕ → ℕ
number none = 0
number (some n) = suc n

pub not_some : (n : ℕ) → ◌≡◌ {A = Option ℕ} none (some n) → ⊥
not_some n e = let z : 0 ≡ suc n = ap number e in absurd (omega arith)

same_some : (m n : ℕ) → some m ≡ some n → m ≡ n
same_some m n e = let z : suc m ≡ suc n = ap number e in omega arith

-- the words of a call stand in its list
pub edits-within : (r : Resolved) (n m k : ℕ) → answers.edits_in r ≤ 1024 → k ≡ 1024 → r ≡ Edits n m → n ≤ k
edits-within r n m k h e q = let z : answers.edits_in r ≡ n = ap answers.edits_in q in omega (arith, h)

-- what a call answered is counted
pub counted-accepted : (p : Prices) (r : Resolved) (n m seed : ℕ) (list t t' : List ℕ) → r ≡ Edits n m → CountsWords p (take n list) t t' → Counted p r seed list t t' (TR.TheVariants.Accepted seed)
counted-accepted p r n m seed list t t' e w = record { seed-is = refl; counts = λ a h. go a (subst (λ (x : Resolved). Told a x list) e h) }
  where
    go : (a : Answer) → Told a (Edits n m) list → (true ≡ is_accepted a) × Adds p (a ∷ []) t t'
    go (refused j) h = absurd (not_some j h)
    go (resolved es c k) h = (refl, w es (ap (λ (i : ℕ). take i list) h.1 ∙ h.2) c k)

pub counted-refused : (p : Prices) (r : Resolved) (n seed : ℕ) (list t t' : List ℕ) → r ≡ Refused n → Adds p (refused n ∷ []) t t' → Counted p r seed list t t' (TR.TheVariants.Refused seed)
counted-refused p r n seed list t t' e w = record { seed-is = refl; counts = λ a h. go a (subst (λ (x : Resolved). Told a x list) e h) }
  where
    go : (a : Answer) → Told a (Refused n) list → (false ≡ is_accepted a) × Adds p (a ∷ []) t t'
    go (refused j) h = (refl, subst (λ (i : ℕ). Adds p (refused i ∷ []) t t') (same_some n j h) w)
    go (resolved es c k) h = absurd (not_some n (sym h.0))
