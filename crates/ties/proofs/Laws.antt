-- Kept moves noted and joined: the labels come out as the rules' own.
use Prim.Native.Nat.{ℕ, zero, suc, ◌+◌, ◌<◌}
use mathlib.Core.Path.{◌≡◌, refl, sym, ap, ap₂, ◌∙◌, subst}
use mathlib.Core.Bool.{Bool, true, false, false≢true}
use mathlib.Core.List.{List, [], ◌∷◌, map}
use mathlib.Core.Logic.{⊎_elim}
use native.Mathlib.Omega.{arith}
use lib.Dec.{eqb, ltb}
use lib.ListN.{length, get_or, set, length-set}
use lib.Seq.{get_or-set_same, get_or-set_other}
use borrow.Author.Tests.{eqb-true, eqb-false, eq-eqb, lt-ltb}
use Rattle.entity.specs.Logic.{pick, and, or, no, any_in, cells}
use Rattle.entity.specs.Place.{Place, reg, slot, same_place, code_of, place_at}
use Rattle.entity.proofs.Laws.{length-cells, get_d-cells, code-there, and-true, never_true}
use Rattle.reginfo.specs.RegInfo.{RegInfo}
use Rattle.function.specs.Function.{Function}
use Rattle.rules.specs.Order.{KeptMove, no_move}
use Rattle.group_rules.specs.Groups.{Together, self, link, join, labels}
use Rattle.group_rules.proofs.Labelled.{Good, JoinedTwo, joined-two, good-labelled, one-labelling}
use Rattle.entries.specs.Table.{move_at, sorted_of}
use Rattle.entries.proofs.Table.{kept-count, kept-is}
use Rattle.entries.proofs.Lists.{any-true, any_where}
use Rattle.examine_rules.specs.Examine.{tied, number_of, width, no_start}
use Rattle.examine_rules.proofs.Generic.{tied-comm, lab, number-kept, number-other, or-either, or_left, or_right}
use Rattle.machine.proofs.Entries as machine-entries
use Rattle.ties.specs.Ties.{kept, source_at, value_at, labels_in, by_source, by_value, noted_one, Kept, NotedTo, Noted, joined_in, TiedOne, Tied}

pub other : (l : List ℕ) (i j v : ℕ) → (j ≡ i → ⊥) → get_or (set l i v) j 0 ≡ get_or l j 0
other l i j v h = get_or-set_other l i j v 0 h

-- ---- noted one after the other
module _ (e x : List ℕ) (i : ℕ) (k : Kept e) (h : i < kept e) (n : length x ≡ 12416) (before : NotedTo e x i) where
  abbrev next : List ℕ
  next = noted_one e x i

  source-low : (m : ℕ) → m < i + 1 → source_at e m < 8192
  source-low m l = k.sources m (omega arith)

  value_low : (m : ℕ) → m < i + 1 → value_at e m < 4096
  value_low m l = k.values m (omega arith)

  abbrev Source : ℕ → ℕ → Type 0
  Source m j = (j < i + 1) × (source_at e j ≡ source_at e m)

  source-next : (m : ℕ) → m < i + 1 → Source m (by_source e next m)
  source-next m l = go (eqb (source_at e m) (source_at e i)) refl
    where
      y : get_or next (4096 + source_at e m) 0 ≡ get_or (set (set x (value_at e i) i) (4096 + source_at e i) i) (4096 + source_at e m) 0
      y = other (set (set x (value_at e i) i) (4096 + source_at e i) i) (12288 + i) (4096 + source_at e m) i (λ z. omega (arith, source-low m l))

      go : (b : Bool) → eqb (source_at e m) (source_at e i) ≡ b → Source m (by_source e next m)
      go true q =
          let z = eqb-true (source_at e m) (source_at e i) q in
          let r : by_source e next m ≡ i =
          y ∙ ap (λ (w : ℕ). get_or (set (set x (value_at e i) i) (4096 + source_at e i) i) (4096 + w) 0) z
          ∙ get_or-set_same (set x (value_at e i) i) (4096 + source_at e i) i 0 (omega (arith, length-set x (value_at e i) i, source-low i (omega arith))) in
          subst (Source m) (sym r) (omega arith, sym z)
      go false q =
          let z = eqb-false (source_at e m) (source_at e i) q in
          let d : m < i = differs z in
          let r : by_source e next m ≡ by_source e x m =
          y ∙ other (set x (value_at e i) i) (4096 + source_at e i) (4096 + source_at e m) i (λ w. z (omega arith))
          ∙ other x (value_at e i) (4096 + source_at e m) i (λ w. omega (arith, value_low i (omega arith))) in
          subst (Source m) (sym r) (omega (arith, before.source-kept m d), before.source-same m d)
        where
          differs : (source_at e m ≡ source_at e i → ⊥) → m < i
          differs z = apart (eqb m i) refl z
            where
              apart : (b : Bool) → eqb m i ≡ b → (source_at e m ≡ source_at e i → ⊥) → m < i
              apart true e₁ z = absurd (z (ap (source_at e) (eqb-true m i e₁)))
              apart false e₁ z = let w = eqb-false m i e₁ in omega arith

  abbrev Value : ℕ → ℕ → Type 0
  Value m j = (j < i + 1) × (value_at e j ≡ value_at e m)

  value-next : (m : ℕ) → m < i + 1 → Value m (by_value e next m)
  value-next m l = go (eqb (value_at e m) (value_at e i)) refl
    where
      y : get_or next (value_at e m) 0 ≡ get_or (set x (value_at e i) i) (value_at e m) 0
      y =
          other (set (set x (value_at e i) i) (4096 + source_at e i) i) (12288 + i) (value_at e m) i (λ z. omega (arith, value_low m l))
          ∙ other (set x (value_at e i) i) (4096 + source_at e i) (value_at e m) i (λ z. omega (arith, value_low m l))

      apart : (b : Bool) → eqb m i ≡ b → (value_at e m ≡ value_at e i → ⊥) → m < i
      apart true e₁ z = absurd (z (ap (value_at e) (eqb-true m i e₁)))
      apart false e₁ z = let w = eqb-false m i e₁ in omega arith

      go : (b : Bool) → eqb (value_at e m) (value_at e i) ≡ b → Value m (by_value e next m)
      go true q =
          let z = eqb-true (value_at e m) (value_at e i) q in
          let r : by_value e next m ≡ i =
          y ∙ ap (λ (w : ℕ). get_or (set x (value_at e i) i) w 0) z ∙ get_or-set_same x (value_at e i) i 0 (omega (arith, value_low i (omega arith))) in
          subst (Value m) (sym r) (omega arith, sym z)
      go false q =
          let z = eqb-false (value_at e m) (value_at e i) q in
          let d : m < i = apart (eqb m i) refl z in
          let r : by_value e next m ≡ by_value e x m = y ∙ other x (value_at e i) (value_at e m) i z in
          subst (Value m) (sym r) (omega (arith, before.value-kept m d), before.value_same m d)

  pub noted-next : NotedTo e next (i + 1)
  noted-next =
      record {
        source-kept = λ m l. (source-next m l).0;
        source-same = λ m l. (source-next m l).1;
        value-kept = λ m l. (value-next m l).0;
        value_same = λ m l. (value-next m l).1;
      }

  pub own-next : ((m : ℕ) → m < i → get_or x (12288 + m) 0 ≡ m) → (m : ℕ) → m < i + 1 → get_or next (12288 + m) 0 ≡ m
  own-next own m l = go (eqb m i) refl
    where
      go : (b : Bool) → eqb m i ≡ b → get_or next (12288 + m) 0 ≡ m
      go true q =
          let z = eqb-true m i q in
          ap (λ (w : ℕ). get_or next (12288 + w) 0) z
          ∙ get_or-set_same (set (set x (value_at e i) i) (4096 + source_at e i) i) (12288 + i) i 0
          (omega (arith, length-set (set x (value_at e i) i) (4096 + source_at e i) i, length-set x (value_at e i) i, k.few))
          ∙ sym z
      go false q =
          let z = eqb-false m i q in
          other (set (set x (value_at e i) i) (4096 + source_at e i) i) (12288 + i) (12288 + m) i (λ w. z (omega arith))
          ∙ other (set x (value_at e i) i) (4096 + source_at e i) (12288 + m) i (λ w. omega (arith, source-low i (omega arith)))
          ∙ other x (value_at e i) (12288 + m) i (λ w. omega (arith, value_low i (omega arith)))
          ∙ own m (omega arith)

pub none-noted : (e x : List ℕ) → NotedTo e x 0
none-noted e x = record { source-kept = λ m l. absurd (omega arith); source-same = λ m l. absurd (omega arith); value-kept = λ m l. absurd (omega arith); value_same = λ m l. absurd (omega arith) }

-- ---- labels become one
pub cells-mapped : (f : ℕ → ℕ) (a b : List ℕ) (at n : ℕ) → ((k : ℕ) → k < n → get_or a (at + k) 0 ≡ f (get_or b (at + k) 0)) → cells a at n ≡ map f (cells b at n)
unfolding cells
cells-mapped f a b at zero h = refl
cells-mapped f a b at (suc n) h =
    let z : at ≡ at + 0 = omega arith in
    ap₂ ◌∷◌ (ap (λ (w : ℕ). get_or a w 0) z ∙ h 0 (omega arith) ∙ ap (λ (w : ℕ). f (get_or b w 0)) (sym z))
    (cells-mapped f a b (at + 1) n (λ k l. let y : at + 1 + k ≡ at + suc k = omega arith in ap (λ (w : ℕ). get_or a w 0) y ∙ h (suc k) (omega arith) ∙ ap (λ (w : ℕ). f (get_or b w 0)) (sym y)))

pub relabelled : (a b : ℕ) (x x' : List ℕ) (n : ℕ) → ((k : ℕ) → k < n → get_or x' (12288 + k) 0 ≡ pick (or (eqb (get_or x (12288 + k) 0) a) (eqb (get_or x (12288 + k) 0) b)) (pick (ltb a b) a b) (get_or x (12288 + k) 0)) → labels_in x' n ≡ join a b (labels_in x n)
unfolding join
relabelled a b x x' n h = cells-mapped (λ y. pick (or (eqb y a) (eqb y b)) (pick (ltb a b) a b) y) x' x 12288 n h

pub relabel-step : (f : ℕ → ℕ) (x₀ x : List ℕ) (j v : ℕ) → 12288 + j < length x → ((k : ℕ) → k < j → get_or x (12288 + k) 0 ≡ f (get_or x₀ (12288 + k) 0)) → v ≡ f (get_or x₀ (12288 + j) 0) → (k : ℕ) → k < j + 1 → get_or (set x (12288 + j) v) (12288 + k) 0 ≡ f (get_or x₀ (12288 + k) 0)
relabel-step f x₀ x j v l before h k q = go (eqb k j) refl
  where
    go : (b : Bool) → eqb k j ≡ b → get_or (set x (12288 + j) v) (12288 + k) 0 ≡ f (get_or x₀ (12288 + k) 0)
    go true e = let z = eqb-true k j e in rw z (get_or-set_same x (12288 + j) v 0 l ∙ h)
    go false e = let z = eqb-false k j e in other x (12288 + j) (12288 + k) v (λ y. z (omega arith)) ∙ before k (omega arith)

pub width-step : (f g : ℕ → ℕ) (i : ℕ) → ((m : ℕ) → m < i → f m ≡ g m) → f i ≡ g i → (m : ℕ) → m < i + 1 → f m ≡ g m
width-step f g i before h m q = go (eqb m i) refl
  where
    go : (b : Bool) → eqb m i ≡ b → f m ≡ g m
    go true e = let z = eqb-true m i e in rw z h
    go false e = let z = eqb-false m i e in before m (omega arith)

same-label : (a y : ℕ) (p q : Bool) → eqb y a ≡ p → ltb a a ≡ q → pick (or p p) (pick q a a) y ≡ y
same-label a y true true e d = sym (eqb-true y a e)
same-label a y true false e d = sym (eqb-true y a e)
same-label a y false q e d = refl

same-labels : (a : ℕ) (l : List ℕ) → map (λ y. pick (or (eqb y a) (eqb y a)) (pick (ltb a a) a a) y) l ≡ l
same-labels a [] = refl
same-labels a (y ∷ l) = ap₂ ◌∷◌ (same-label a y (eqb y a) (ltb a a) refl refl) (same-labels a l)

pub join-none : (a b : ℕ) (l : List ℕ) → a ≡ b → l ≡ join a b l
unfolding join
join-none a b l e = rw (sym e) (sym (same-labels a l))

pub label_at : (x : List ℕ) (n i : ℕ) → i < n → get_or (labels_in x n) i 0 ≡ get_or x (12288 + i) 0
label_at x n i h = get_d-cells x 12288 n i h

-- ---- kept moves
pub source_is : (e : List ℕ) (m : ℕ) → m < kept e → (get_or (sorted_of e).moves m no_move).source ≡ place_at (source_at e m)
unfolding move_at
source_is e m h = ap (λ (k : KeptMove). k.source) (kept-is e m (omega (arith, kept-count e)))

pub value-is : (e : List ℕ) (m : ℕ) → m < kept e → (get_or (sorted_of e).moves m no_move).value ≡ value_at e m
unfolding move_at
value-is e m h = ap (λ (k : KeptMove). k.value) (kept-is e m (omega (arith, kept-count e)))

same_code : (a b : ℕ) → same_place (place_at a) (place_at b) ≡ true → a ≡ b
same_code a b h = sym (code-there a) ∙ ap code_of (machine-entries.same_place_lem (place_at a) (place_at b) h) ∙ code-there b

itself : (p q : Place) → p ≡ q → same_place p q ≡ true
itself p q h = subst (λ (r : Place). same_place p r ≡ true) h (alike p)
  where
    alike : (p : Place) → same_place p p ≡ true
    alike (reg a) = eq-eqb a a refl
    alike (slot a) = eq-eqb a a refl

module _ (e : List ℕ) where
  abbrev ms : List KeptMove
  ms = (sorted_of e).moves

  low : (m : ℕ) → m < kept e → m < length ms
  low m h = omega (arith, kept-count e)

  tied-source : (i j : ℕ) → i < kept e → j < kept e → source_at e i ≡ source_at e j → tied (get_or ms i no_move) (get_or ms j no_move) ≡ true
  tied-source i j h l q = or_left _ _ (itself _ _ (source_is e i h ∙ ap place_at q ∙ sym (source_is e j l)))

  tied-value : (i j : ℕ) → i < kept e → j < kept e → value_at e i ≡ value_at e j → tied (get_or ms i no_move) (get_or ms j no_move) ≡ true
  tied-value i j h l q = or_right (same_place (get_or ms i no_move).source (get_or ms j no_move).source) _ (eq-eqb _ _ (value-is e i h ∙ q ∙ sym (value-is e j l)))

  abbrev GoodIn : List ℕ → Type 0
  GoodIn ls = Good tied tied-comm no_move ms ls

  -- ---- joined one after the other
  pub record Joining (x : List ℕ) (i : ℕ) : Type 0 where
    pub noted : Noted e x
    pub good : GoodIn (labels_in x (kept e))
    pub sources : (m : ℕ) → m < i → get_or (labels_in x (kept e)) m 0 ≡ get_or (labels_in x (kept e)) (by_source e x m) 0
    pub values : (m : ℕ) → m < i → get_or (labels_in x (kept e)) m 0 ≡ get_or (labels_in x (kept e)) (by_value e x m) 0

  pub joining-start : (x : List ℕ) → Noted e x → ((m : ℕ) → m < kept e → get_or x (12288 + m) 0 ≡ m) → Joining x 0
  joining-start x n own =
      record {
        noted = n;
        good =
            record {
              each = length-cells x 12288 (kept e) ∙ sym (kept-count e);
              sound = λ i j a b q. let z : i ≡ j = sym (is i (omega (arith, kept-count e))) ∙ q ∙ is j (omega (arith, kept-count e)) in subst (Together tied no_move ms i) z (self i);
              first = λ i a. omega (arith, is i (omega (arith, kept-count e)));
              named = λ i a. ap (λ (w : ℕ). get_or (labels_in x (kept e)) w 0) (is i (omega (arith, kept-count e)));
            };
        sources = λ m l. absurd (omega arith);
        values = λ m l. absurd (omega arith);
      }
    where
      is : (m : ℕ) → m < kept e → get_or (labels_in x (kept e)) m 0 ≡ m
      is m h = label_at x (kept e) m h ∙ own m h

  module _ (k : Kept e) (x x' : List ℕ) (i : ℕ) (h : i < kept e) (j : Joining x i) (o : TiedOne e x x' i) where
    abbrev ls : List ℕ
    ls = labels_in x (kept e)

    abbrev first : List ℕ
    first = joined_in ls i (by_source e x i)

    abbrev second : List ℕ
    second = joined_in first i (by_value e x i)

    sl : (m : ℕ) → m < kept e → by_source e x m < kept e
    sl m l = j.noted.source-kept m l

    vl : (m : ℕ) → m < kept e → by_value e x m < kept e
    vl m l = j.noted.value-kept m l

    one : JoinedTwo tied tied-comm no_move ms ls first i (by_source e x i)
    one =
        joined-two tied tied-comm no_move ms ls i (by_source e x i) j.good (low i h) (low (by_source e x i) (sl i h))
        (link i (by_source e x i) (low i h) (low (by_source e x i) (sl i h)) (tied-source i (by_source e x i) h (sl i h) (sym (j.noted.source-same i h))))

    two : JoinedTwo tied tied-comm no_move ms first second i (by_value e x i)
    two =
        joined-two tied tied-comm no_move ms first i (by_value e x i) one.good (low i h) (low (by_value e x i) (vl i h))
        (link i (by_value e x i) (low i h) (low (by_value e x i) (vl i h)) (tied-value i (by_value e x i) h (vl i h) (sym (j.noted.value_same i h))))

    same_source : (m : ℕ) → m < kept e → by_source e x' m ≡ by_source e x m
    same_source m l = o.same (4096 + source_at e m) (omega (arith, k.sources m l))

    same-value : (m : ℕ) → m < kept e → by_value e x' m ≡ by_value e x m
    same-value m l = o.same (value_at e m) (omega (arith, k.values m l))

    still : Noted e x'
    still =
        record {
          source-kept = λ m l. omega (arith, same_source m l, sl m l);
          source-same = λ m l. ap (source_at e) (same_source m l) ∙ j.noted.source-same m l;
          value-kept = λ m l. omega (arith, same-value m l, vl m l);
          value_same = λ m l. ap (value_at e) (same-value m l) ∙ j.noted.value_same m l;
        }

    keep : (a b : ℕ) → a < kept e → b < kept e → get_or ls a 0 ≡ get_or ls b 0 → get_or second a 0 ≡ get_or second b 0
    keep a b al bl q = two.keeps a b (low a al) (low b bl) (one.keeps a b (low a al) (low b bl) q)

    source-joined : (m : ℕ) → m < i + 1 → (b : Bool) → eqb m i ≡ b → get_or second m 0 ≡ get_or second (by_source e x m) 0
    source-joined m l true q =
        let z = eqb-true m i q in
        ap (λ (w : ℕ). get_or second w 0) z ∙ two.keeps i (by_source e x i) (low i h) (low (by_source e x i) (sl i h)) one.joins
        ∙ ap (λ (w : ℕ). get_or second (by_source e x w) 0) (sym z)
    source-joined m l false q = let z = eqb-false m i q in let d : m < i = omega arith in keep m (by_source e x m) (omega arith) (sl m (omega arith)) (j.sources m d)

    value-joined : (m : ℕ) → m < i + 1 → (b : Bool) → eqb m i ≡ b → get_or second m 0 ≡ get_or second (by_value e x m) 0
    value-joined m l true q =
        let z = eqb-true m i q in
        ap (λ (w : ℕ). get_or second w 0) z ∙ two.joins ∙ ap (λ (w : ℕ). get_or second (by_value e x w) 0) (sym z)
    value-joined m l false q = let z = eqb-false m i q in let d : m < i = omega arith in keep m (by_value e x m) (omega arith) (vl m (omega arith)) (j.values m d)

    pub joining-next : Joining x' (i + 1)
    joining-next =
        record {
          noted = still;
          good = subst GoodIn (sym o.labels-are) two.good;
          sources = λ m l. subst (λ (w : List ℕ). get_or w m 0 ≡ get_or w (by_source e x' m) 0) (sym o.labels-are) (source-joined m l (eqb m i) refl ∙ ap (λ (w : ℕ). get_or second w 0) (sym (same_source m (omega arith))));
          values = λ m l. subst (λ (w : List ℕ). get_or w m 0 ≡ get_or w (by_value e x' m) 0) (sym o.labels-are) (value-joined m l (eqb m i) refl ∙ ap (λ (w : ℕ). get_or second w 0) (sym (same-value m (omega arith))));
        }

  pub joining-end : Kept e → (x : List ℕ) → Joining x (kept e) → Tied e x
  joining-end k x j =
      record {
        known = k;
        noted = j.noted;
        labels-are = one-labelling KeptMove tied tied-comm no_move ms (labels_in x (kept e)) (good-labelled tied tied-comm no_move ms (labels_in x (kept e)) j.good closed);
      }
    where
      closed : (a b : ℕ) → a < length ms → b < length ms → tied (get_or ms a no_move) (get_or ms b no_move) ≡ true → get_or (labels_in x (kept e)) a 0 ≡ get_or (labels_in x (kept e)) b 0
      closed a b al bl q =
          let ha : a < kept e = omega (arith, kept-count e) in
          let hb : b < kept e = omega (arith, kept-count e) in
          ⊎_elim
          (λ s. let z : source_at e a ≡ source_at e b = same_code _ _ (rw (source_is e a ha, source_is e b hb) at s) in
          j.sources a ha ∙ ap (λ (w : ℕ). get_or (labels_in x (kept e)) (get_or x (4096 + w) 0) 0) z ∙ sym (j.sources b hb))
          (λ v. let z : value_at e a ≡ value_at e b = sym (value-is e a ha) ∙ eqb-true _ _ v ∙ value-is e b hb in
          j.values a ha ∙ ap (λ (w : ℕ). get_or (labels_in x (kept e)) (get_or x w 0) 0) z ∙ sym (j.values b hb))
          (or-either (same_place (get_or ms a no_move).source (get_or ms b no_move).source) (eqb (get_or ms a no_move).value (get_or ms b no_move).value) q)

  -- ---- numbers
  module _ (x : List ℕ) (t : Tied e x) where
    pub number-of-kept : (m v : ℕ) → m < kept e → value_at e m ≡ v → number_of ms v ≡ get_or x (12288 + m) 0
    number-of-kept m v h q =
        ap (number_of ms) (sym q ∙ sym (value-is e m h)) ∙ number-kept ms m (low m h) ∙ ap (λ (w : List ℕ). get_or w m 0) (sym t.labels-are) ∙ label_at x (kept e) m h

    pub label-low : (m : ℕ) → m < kept e → get_or x (12288 + m) 0 < 128
    label-low m h = omega (arith, (lab ms).first m (low m h), ap (λ (w : List ℕ). get_or w m 0) (sym t.labels-are) ∙ label_at x (kept e) m h, t.known.few)

    pub number-of-none : (v : ℕ) → and (ltb (get_or x v 0) (kept e)) (eqb (value_at e (get_or x v 0)) v) ≡ false → number_of ms v ≡ 128 + v
    number-of-none v h = number-other (labels tied ms) ms v (never_true _ (λ q. go (any_where (λ (m : KeptMove). eqb m.value v) ms no_move q)))
      where
        go : (i : ℕ) × (i < length ms) × (eqb (get_or ms i no_move).value v ≡ true) → ⊥
        go w =
            let il : w.0 < kept e = omega (arith, w.1, kept-count e) in
            let q : value_at e w.0 ≡ v = sym (value-is e w.0 il) ∙ eqb-true _ _ w.2 in
            let a : get_or x v 0 < kept e = subst (λ (z : ℕ). get_or x z 0 < kept e) q (t.noted.value-kept w.0 il) in
            let b : value_at e (get_or x v 0) ≡ v = subst (λ (z : ℕ). value_at e (get_or x z 0) ≡ z) q (t.noted.value_same w.0 il) in
            false≢true (sym h ∙ ap₂ and (lt-ltb _ _ a) (eq-eqb _ _ b))

    -- ---- no start
    module _ (r : RegInfo) (f : Function) where
      abbrev wide : ℕ → ℕ
      wide m = width r f (value_at e m)

      abbrev clashes : KeptMove → KeptMove → Bool
      clashes a b = and (same_place a.source b.source) (no (eqb (width r f a.value) (width r f b.value)))

      pub has-no-start : (m : ℕ) → m < kept e → (wide m ≡ wide (by_source e x m) → ⊥) → no_start r f ms ≡ true
      unfolding no_start
      has-no-start m h d =
          let k : ℕ = by_source e x m in
          let kl : k < kept e = t.noted.source-kept m h in
          any-true (λ a. any_in (clashes a) ms) ms m no_move (low m h)
          (any-true (clashes (get_or ms m no_move)) ms k no_move (low k kl)
          (ap₂ and (itself _ _ (source_is e m h ∙ ap place_at (sym (t.noted.source-same m h)) ∙ sym (source_is e k kl)))
          (ap no (never_true _ (λ q. d (ap (width r f) (sym (value-is e m h)) ∙ eqb-true _ _ q ∙ ap (width r f) (value-is e k kl)))))))

      pub has-start : ((m : ℕ) → m < kept e → wide m ≡ wide (by_source e x m)) → no_start r f ms ≡ false
      unfolding no_start
      has-start all = never_true _ (λ q. outer (any_where (λ a. any_in (clashes a) ms) ms no_move q))
        where
          inner : (i : ℕ) → i < length ms → (k : ℕ) × (k < length ms) × (clashes (get_or ms i no_move) (get_or ms k no_move) ≡ true) → ⊥
          inner i il w =
              let hi : i < kept e = omega (arith, il, kept-count e) in
              let hk : w.0 < kept e = omega (arith, w.1, kept-count e) in
              let q = and-true (same_place (get_or ms i no_move).source (get_or ms w.0 no_move).source) _ w.2 in
              let z : source_at e i ≡ source_at e w.0 = same_code _ _ (rw (source_is e i hi, source_is e w.0 hk) at q.0) in
              let same : width r f (get_or ms i no_move).value ≡ width r f (get_or ms w.0 no_move).value =
              ap (width r f) (value-is e i hi) ∙ all i hi ∙ ap (λ (y : ℕ). wide (get_or x (4096 + y) 0)) z ∙ sym (all w.0 hk) ∙ ap (width r f) (sym (value-is e w.0 hk)) in
              false≢true (sym (ap no (eq-eqb _ _ same)) ∙ q.1)

          outer : (i : ℕ) × (i < length ms) × (any_in (clashes (get_or ms i no_move)) ms ≡ true) → ⊥
          outer w = inner w.0 w.1 (any_where (clashes (get_or ms w.0 no_move)) ms no_move w.2)
