-- What a store changes of what the table stands for.
use Prim.Native.Nat.{ℕ, zero, suc, ◌+◌, ◌-◌, ◌*◌, ◌<◌, ◌≤◌}
use mathlib.Core.Path.{◌≡◌, refl, sym, ap, ap₂, ◌∙◌, subst, fun_ext}
use mathlib.Core.Bool.{Bool, true, false}
use mathlib.Core.List.{List, [], ◌∷◌, map}
use native.Mathlib.Omega.{arith}
use lib.Dec.{eqb, ltb}
use lib.ListN.{length, get_or, set, drop, replicate, drop_of_length-le}
use lib.Seq.{get_or-set_same, get_or-set_other}
use borrow.Author.Tests.{eqb-true, eqb-false, ltb-true, ltb-false, lt-ltb}
use Rattle.entity.specs.Logic.{pick, cells}
use Rattle.entity.proofs.Laws.{length-cells, get_d-cells, drop-step, has_get_d}
use Rattle.entity.specs.Place.{Place, place_of}
use Rattle.entity.specs.declared.AllocationKind.{AllocationKind}
use Rattle.reginfo.specs.RegInfo.{RegInfo, place_units, is_memory}
use Rattle.function.specs.Function.{Function}
use Rattle.rules.specs.Edit.{updated}
use Rattle.machine.specs.Machine.{Memory, put, read, write}
use Rattle.examine_rules.specs.Examine.{unknown, blank}
use Rattle.cells.specs.Cells.{list_in, memory_of, Short, words_in, count_in, Celled, Put}

abbrev pub mem : (ℕ → ℕ) → (ℕ → List ℕ) → Memory
mem w l = record { word = w; lists = l }

pub cells_same : (a b : List ℕ) (p q n : ℕ) → ((k : ℕ) → k < n → get_or a (p + k) 0 ≡ get_or b (q + k) 0) → cells a p n ≡ cells b q n
unfolding cells
cells_same a b p q zero h = refl
cells_same a b p q (suc n) h =
    ap₂ ◌∷◌ (ap (λ (z : ℕ). get_or a z 0) (omega arith) ∙ h 0 (omega arith) ∙ ap (λ (z : ℕ). get_or b z 0) (omega arith))
    (cells_same a b (p + 1) (q + 1) n (λ k l. ap (λ (z : ℕ). get_or a z 0) (omega arith) ∙ h (suc k) (omega arith) ∙ ap (λ (z : ℕ). get_or b z 0) (omega arith)))

-- a store elsewhere, and here
pub other : (l : List ℕ) (i j v : ℕ) → (j ≡ i → ⊥) → get_or (set l i v) j 0 ≡ get_or l j 0
other l i j v h = get_or-set_other l i j v 0 h

-- ---- cleared
word_blank : (c : List ℕ) (u : ℕ) (b : Bool) → ltb u 512 ≡ b → ((u : ℕ) → u < 512 → get_or c (6656 + u) 0 ≡ u) → pick b (get_or c (6656 + u) 0) u ≡ u
word_blank c u true e w = w u (ltb-true u 512 e)
word_blank c u false e w = refl

list-blank : (c : List ℕ) (x : ℕ) (b : Bool) → ltb x 6656 ≡ b → ((x : ℕ) → x < 6656 → get_or c x 0 ≡ 0) → pick b (list_in c x) (unknown x) ≡ unknown x
unfolding list_in
list-blank c x true e m = rw (m x (ltb-true x 6656 e))
list-blank c x false e m = refl

pub blank-is : (c : List ℕ) → ((x : ℕ) → x < 6656 → get_or c x 0 ≡ 0) → ((u : ℕ) → u < 512 → get_or c (6656 + u) 0 ≡ u) → memory_of c ≡ blank
unfolding memory_of
blank-is c m w = ap₂ mem (fun_ext (λ u. word_blank c u (ltb u 512) refl w)) (fun_ext (λ x. list-blank c x (ltb x 6656) refl m))

-- ---- the list of a cell
pub list_at : (c : List ℕ) (at : ℕ) → at < 6656 → (memory_of c).lists at ≡ list_in c at
unfolding memory_of
list_at c at h = rw (lt-ltb at 6656 h)

pub no-mark : (c : List ℕ) (at : ℕ) → get_or c at 0 ≡ 0 → list_in c at ≡ unknown at
unfolding list_in
no-mark c at h = rw h

by-mark : (c : List ℕ) (at n : ℕ) (b : Bool) → eqb (get_or c at 0) 0 ≡ b → 0 < get_or c at 0 → n ≡ get_or c at 0 - 1 → pick b (unknown at) (cells c (7168 + at * 9) (get_or c at 0 - 1)) ≡ cells c (7168 + at * 9) n
by-mark c at n true e p h = let z = eqb-true (get_or c at 0) 0 e in absurd (omega arith)
by-mark c at n false e p h = ap (cells c (7168 + at * 9)) (sym h)

pub mark : (c : List ℕ) (at n : ℕ) → 0 < get_or c at 0 → n ≡ get_or c at 0 - 1 → list_in c at ≡ cells c (7168 + at * 9) n
unfolding list_in
mark c at n p h = by-mark c at n (eqb (get_or c at 0) 0) refl p h

-- ---- a list put into a cell
module _ (c c' b : List ℕ) (at : ℕ) (n : length c' ≡ 67072) (a : at < 6656) (few : count_in b ≤ 9) (p : Put c c' (7168 + at * 9) (count_in b) (words_in b)) (s : Short c) where
  abbrev put_in : List ℕ
  put_in = set c' at (count_in b + 1)

  mark-here : get_or put_in at 0 ≡ count_in b + 1
  mark-here = get_or-set_same c' at (count_in b + 1) 0 (omega (arith, n))

  mark-other : (x : ℕ) → x < 6656 → (x ≡ at → ⊥) → get_or put_in x 0 ≡ get_or c x 0
  mark-other x h q = other c' at x (count_in b + 1) q ∙ p.below x (omega arith)

  list-here : list_in put_in at ≡ words_in b
  list-here =
      mark put_in at (count_in b) (omega (arith, mark-here)) (omega (arith, mark-here))
      ∙ cells_same put_in c' (7168 + at * 9) (7168 + at * 9) (count_in b) (λ k h. other c' at (7168 + at * 9 + k) (count_in b + 1) (λ z. omega arith))
      ∙ p.words

  word-other : (x k : ℕ) → (x ≡ at → ⊥) → k < 9 → get_or put_in (7168 + x * 9 + k) 0 ≡ get_or c (7168 + x * 9 + k) 0
  word-other x k q h = other c' at (7168 + x * 9 + k) (count_in b + 1) (λ z. omega arith) ∙ go (ltb x at) refl
    where
      go : (t : Bool) → ltb x at ≡ t → get_or c' (7168 + x * 9 + k) 0 ≡ get_or c (7168 + x * 9 + k) 0
      go true e = let l = ltb-true x at e in p.below (7168 + x * 9 + k) (omega arith)
      go false e = let l = ltb-false x at e in let m : at < x = omega arith in p.above (7168 + x * 9 + k) (omega arith)

  list-other : (x : ℕ) → x < 6656 → (x ≡ at → ⊥) → list_in put_in x ≡ list_in c x
  list-other x h q = go (eqb (get_or c x 0) 0) refl
    where
      go : (t : Bool) → eqb (get_or c x 0) 0 ≡ t → list_in put_in x ≡ list_in c x
      go true e = let z = eqb-true (get_or c x 0) 0 e in no-mark put_in x (mark-other x h q ∙ z) ∙ sym (no-mark c x z)
      go false e =
          let z = eqb-false (get_or c x 0) 0 e in
          let some : 0 < get_or c x 0 = omega arith in
          let y = s x h in
          mark put_in x (get_or c x 0 - 1) (omega (arith, mark-other x h q)) (omega (arith, mark-other x h q))
          ∙ cells_same put_in c (7168 + x * 9) (7168 + x * 9) (get_or c x 0 - 1) (λ k l. word-other x k q (omega arith))
          ∙ sym (mark c x (get_or c x 0 - 1) some refl)

  list-each : (x : ℕ) (t : Bool) → ltb x 6656 ≡ t → (e : Bool) → eqb x at ≡ e → pick t (list_in put_in x) (unknown x) ≡ pick e (words_in b) (pick t (list_in c x) (unknown x))
  list-each x true l true e = let z = eqb-true x at e in rw z list-here
  list-each x true l false e = list-other x (ltb-true x 6656 l) (eqb-false x at e)
  list-each x false l true e = let z = eqb-true x at e in let y = ltb-false x 6656 l in absurd (omega arith)
  list-each x false l false e = refl

  word_each : (u : ℕ) (t : Bool) → ltb u 512 ≡ t → pick t (get_or put_in (6656 + u) 0) u ≡ pick t (get_or c (6656 + u) 0) u
  word_each u true l = let y = ltb-true u 512 l in other c' at (6656 + u) (count_in b + 1) (λ z. omega arith) ∙ p.below (6656 + u) (omega arith)
  word_each u false l = refl

  pub list_put : memory_of put_in ≡ mem (memory_of c).word (updated at (words_in b) (memory_of c).lists)
  unfolding memory_of updated
  list_put = ap₂ mem (fun_ext (λ u. word_each u (ltb u 512) refl)) (fun_ext (λ x. list-each x (ltb x 6656) refl (eqb x at) refl))

  short-each : (x : ℕ) → x < 6656 → (e : Bool) → eqb x at ≡ e → get_or put_in x 0 ≤ 10
  short-each x h true e = let z = eqb-true x at e in rw z (omega (arith, mark-here))
  short-each x h false e = omega (arith, mark-other x h (eqb-false x at e), s x h)

  pub list-short : Short put_in
  list-short x h = short-each x h (eqb x at) refl

-- ---- a word put into a unit
module _ (c : List ℕ) (u v : ℕ) (n : length c ≡ 67072) (low : u < 512) where
  abbrev worded : List ℕ
  worded = set c (6656 + u) v

  lists-stay : (x : ℕ) → x < 6656 → list_in worded x ≡ list_in c x
  lists-stay x h = go (eqb (get_or c x 0) 0) refl
    where
      go : (t : Bool) → eqb (get_or c x 0) 0 ≡ t → list_in worded x ≡ list_in c x
      go true e = let z = eqb-true (get_or c x 0) 0 e in no-mark worded x (other c (6656 + u) x v (λ y. omega arith) ∙ z) ∙ sym (no-mark c x z)
      go false e =
          let z = eqb-false (get_or c x 0) 0 e in
          let some : 0 < get_or c x 0 = omega arith in
          let same = other c (6656 + u) x v (λ y. omega arith) in
          mark worded x (get_or c x 0 - 1) (omega (arith, same)) (omega (arith, same))
          ∙ cells_same worded c (7168 + x * 9) (7168 + x * 9) (get_or c x 0 - 1) (λ k l. other c (6656 + u) (7168 + x * 9 + k) v (λ y. omega arith))
          ∙ sym (mark c x (get_or c x 0 - 1) some refl)

  lists-each : (x : ℕ) (t : Bool) → ltb x 6656 ≡ t → pick t (list_in worded x) (unknown x) ≡ pick t (list_in c x) (unknown x)
  lists-each x true l = lists-stay x (ltb-true x 6656 l)
  lists-each x false l = refl

  words-each : (x : ℕ) (t : Bool) → ltb x 512 ≡ t → (e : Bool) → eqb x u ≡ e → pick t (get_or worded (6656 + x) 0) x ≡ pick e v (pick t (get_or c (6656 + x) 0) x)
  words-each x true l true e = let z = eqb-true x u e in rw z (get_or-set_same c (6656 + u) v 0 (omega arith))
  words-each x true l false e = let z = eqb-false x u e in other c (6656 + u) (6656 + x) v (λ y. z (omega arith))
  words-each x false l true e = let z = eqb-true x u e in let y = ltb-false x 512 l in absurd (omega arith)
  words-each x false l false e = refl

  pub word-put : memory_of worded ≡ mem (updated u v (memory_of c).word) (memory_of c).lists
  unfolding memory_of updated
  word-put = ap₂ mem (fun_ext (λ x. words-each x (ltb x 512) refl (eqb x u) refl)) (fun_ext (λ x. lists-each x (ltb x 6656) refl))

  pub word-short : Short c → Short worded
  word-short s x h = omega (arith, other c (6656 + u) x v (λ y. omega arith), s x h)

pub word_of : (c : List ℕ) (u : ℕ) → u < 512 → (memory_of c).word u ≡ get_or c (6656 + u) 0
unfolding memory_of
word_of c u h = rw (lt-ltb u 512 h)

-- ---- words on their way
pub words-length : (b : List ℕ) → length (words_in b) ≡ count_in b
unfolding words_in
words-length b = length-cells b 1 (get_or b 0 0)

pub words-at : (b : List ℕ) (j : ℕ) → j < count_in b → get_or (words_in b) j 0 ≡ get_or b (1 + j) 0
unfolding words_in
words-at b j h = get_d-cells b 1 (get_or b 0 0) j h

-- n words stand in b, whose count is then written
pub words_are : (b l : List ℕ) (from n : ℕ) → length b ≡ 10 → ((k : ℕ) → k < n → get_or b (1 + k) 0 ≡ get_or l (from + k) 0) → words_in (set b 0 n) ≡ cells l from n
unfolding words_in
words_are b l from n e h =
    ap (cells (set b 0 n) 1) (get_or-set_same b 0 n 0 (omega arith))
    ∙ cells_same (set b 0 n) l 1 from n (λ k q. other b 0 (1 + k) n (λ z. omega arith) ∙ h k q)

pub count-is : (b : List ℕ) (n : ℕ) → length b ≡ 10 → count_in (set b 0 n) ≡ n
count-is b n e = get_or-set_same b 0 n 0 (omega arith)

skip : (l m : List ℕ) (at : ℕ) → ((k : ℕ) → get_or l (at + k) 0 ≡ get_or m k 0) → cells l at (length m) ≡ m
unfolding cells
skip l [] at h = refl
skip l (x ∷ m) at h = ap₂ ◌∷◌ (ap (λ (z : ℕ). get_or l z 0) (omega arith) ∙ h 0) (skip l m (at + 1) (λ k. ap (λ (z : ℕ). get_or l z 0) (omega arith) ∙ h (suc k)))

-- words that stand in b one by one are those of a list
pub words-list : (b l : List ℕ) (n : ℕ) → length b ≡ 10 → n ≡ length l → ((k : ℕ) → k < n → get_or b (1 + k) 0 ≡ get_or l k 0) → words_in (set b 0 n) ≡ l
words-list b l n e q h =
    words_are b l 0 n e (λ k z. h k z ∙ ap (λ (z : ℕ). get_or l z 0) (omega arith)) ∙ ap (cells l 0) q ∙ skip l l 0 (λ k. ap (λ (z : ℕ). get_or l z 0) (omega arith))

pub put_step : (us ws : List ℕ) (f : ℕ → ℕ) (j : ℕ) → j < length us → j < length ws → updated (get_or us j 0) (get_or ws j 0) (put (drop (j + 1) us) (drop (j + 1) ws) f) ≡ put (drop j us) (drop j ws) f
unfolding put updated
put_step us ws f j h k = rw (drop-step us j 0 h, drop-step ws j 0 k)

pub put-none : (us ws : List ℕ) (f : ℕ → ℕ) (j : ℕ) → length us ≤ j → put (drop j us) (drop j ws) f ≡ f
unfolding put
put-none us ws f j h = rw (drop_of_length-le us {i = j} h)

pub unknown-is : (at : ℕ) → (words_in (set (set (replicate 10 0) 0 9) 1 (34304 + at)) ≡ unknown at)
unfolding words_in cells
unknown-is at = refl

-- ---- stores of a loop
pub set_below : (l : List ℕ) (g : ℕ → ℕ) (base i v : ℕ) → base + i < length l → ((x : ℕ) → x < i → get_or l (base + x) 0 ≡ g x) → v ≡ g i → (x : ℕ) → x < i + 1 → get_or (set l (base + i) v) (base + x) 0 ≡ g x
set_below l g base i v h before e x q = go (eqb x i) refl
  where
    go : (t : Bool) → eqb x i ≡ t → get_or (set l (base + i) v) (base + x) 0 ≡ g x
    go true k = let z = eqb-true x i k in rw z (get_or-set_same l (base + i) v 0 h ∙ e)
    go false k = let z = eqb-false x i k in other l (base + i) (base + x) v (λ y. z (omega arith)) ∙ before x (omega arith)

pub zero-below : (l : List ℕ) (i : ℕ) → i < length l → ((x : ℕ) → x < i → get_or l x 0 ≡ 0) → (x : ℕ) → x < i + 1 → get_or (set l i 0) x 0 ≡ 0
zero-below l i h before x q = go (eqb x i) refl
  where
    go : (t : Bool) → eqb x i ≡ t → get_or (set l i 0) x 0 ≡ 0
    go true k = let z = eqb-true x i k in rw z (get_or-set_same l i 0 0 h)
    go false k = let z = eqb-false x i k in other l i x 0 z ∙ before x (omega arith)

pub stored : (c c' b : List ℕ) (to n : ℕ) → n ≡ count_in b → ((k : ℕ) → k < n → get_or c' (to + k) 0 ≡ get_or b (1 + k) 0) → ((x : ℕ) → x < to → get_or c' x 0 ≡ get_or c x 0) → ((x : ℕ) → to + n ≤ x → get_or c' x 0 ≡ get_or c x 0) → Put c c' to (count_in b) (words_in b)
unfolding words_in
stored c c' b to n e h low high =
    record {
      words = cells_same c' b to 1 (get_or b 0 0) (λ k q. h k (omega arith));
      below = low;
      above = λ x q. high x (omega arith);
    }

pub mapped_at : (f : ℕ → ℕ) (l : List ℕ) (j : ℕ) → j < length l → get_or (map f l) j 0 ≡ f (get_or l j 0)
mapped_at f [] j h = absurd (omega arith)
mapped_at f (x ∷ l) zero h = refl
mapped_at f (x ∷ l) (suc j) h = mapped_at f l j (omega arith)

-- ---- reading and writing, by what the place is
module _ (t : RegInfo) (f : Function) (m : Memory) (p : Place) where
  pub read-memory : is_memory t p ≡ true → read t f m p ≡ m.lists (get_or (place_units t p) 0 0)
  unfolding read
  read-memory h = rw h

  pub read-units : is_memory t p ≡ false → read t f m p ≡ map m.word (place_units t p)
  unfolding read
  read-units h = rw h

  pub write-memory : (ws : List ℕ) → is_memory t p ≡ true → write t f p ws m ≡ mem m.word (updated (get_or (place_units t p) 0 0) ws m.lists)
  unfolding write
  write-memory ws h = rw h

  pub write-units : (ws : List ℕ) → is_memory t p ≡ false → write t f p ws m ≡ mem (put (place_units t p) ws m.word) m.lists
  unfolding write
  write-units ws h = rw h

-- what holds of a place holds of its kind
pub of-kind : (P : Place → Type 0) {k v : AllocationKind} {p : Place} → P p → place_of k ≡ p → k ≡ v → P (place_of v)
of-kind P x h e = subst P (sym h ∙ ap place_of e) x

pub cell-low : (t : RegInfo) (p : Place) → Celled t p → get_or (place_units t p) 0 0 < 6656
cell-low t p h = h.low (get_or (place_units t p) 0 0) (has_get_d (place_units t p) 0 h.some)
