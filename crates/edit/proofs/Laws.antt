-- An edit's word reads back as that edit, and what the buffer holds after each write.
use Prim.Native.Nat.{ℕ, zero, suc, ◌+◌, ◌-◌, ◌*◌, ◌/◌, ◌%◌, ◌<◌, ◌≤◌}
use mathlib.Core.Path.{◌≡◌, refl, sym, ap, ◌∙◌}
use mathlib.Core.Bool.{Bool, true, false}
use mathlib.Core.List.{List, [], ◌∷◌, ◌++◌, map, append_assoc}
use mathlib.Core.Option.{Option, none, some}
use native.Mathlib.Omega.{arith}
use native.Mathlib.Numerals.{add-one}
use lib.Dec.{eqb}
use lib.ListN.{set, get_or, length, take, drop, length-set, length-map}
use lib.Seq.{get_or-set_same, get_or-set_other, drop-set-lt, take-suc-set}
use borrow.Author.Tests.{eq-eqb}
use Rattle.entity.specs.Logic.{pick, and}
use Rattle.entity.specs.Place.{code_of, place_at, place_of}
use Rattle.entity.specs.declared.AllocationKind.{AllocationKind}
use Rattle.entity.proofs.Laws.{place-there, code-there}
use Rattle.reginfo.proofs.Laws.{by_kind}
use Rattle.rules.specs.Edit.{Edit, Move, Rematerialize, EmergencySpill, EmergencyReload}
use Rattle.edit.specs.Word.{packed, kind_in, to_in, from_in, value_in, word_of, edit_of, is_reg, is_slot, Small, InRange, AllInRange}
use Rattle.edit.specs.Buffer.{newest_first, count_of, words_of, or_edit, edits_of, Written}

-- ---- words
record Parts (w k t f v : ℕ) : Type 0 where
  pub kind : kind_in w ≡ k
  pub to : to_in w ≡ t
  pub from : from_in w ≡ f
  pub value : value_in w ≡ v

parts : (kind to from v : ℕ) → kind < 8 → Small to from v → Parts (packed kind to from v) kind to from v
parts kind to from v k s =
    let t : packed kind to from v / 8 ≡ (v * 16384 + from) * 16384 + to = omega arith in
    let f : packed kind to from v / 131072 ≡ v * 16384 + from = omega (arith, s.to-small) in
    let x : packed kind to from v / 2147483648 ≡ v = omega (arith, s.to-small, s.from-small) in
    record {
      kind = omega arith;
      to = rw t (omega (arith, s.to-small));
      from = rw f (omega (arith, s.from-small));
      value = rw x (omega (arith, s.value-small));
    }

-- every edit in range is read back from its word
pub there : (e : Edit) → InRange e → edit_of (word_of e) ≡ some e
unfolding edit_of
there (Move to from v) s =
    let p = parts 1 (code_of to) (code_of from) v (omega arith) s in
    rw (p.kind, p.to, p.from, p.value, place-there to, place-there from)
there (Rematerialize to v) s =
    let p = parts 2 (code_of to) 0 v (omega arith) s in
    rw (p.kind, p.to, p.value, place-there to)
there (EmergencySpill s r) h =
    let p = parts 3 (s * 2) (r * 2 + 1) 0 (omega arith) h in
    let a : s * 2 / 2 ≡ s = omega arith in
    let b : (r * 2 + 1) / 2 ≡ r = omega arith in
    rw (p.kind, p.to, p.from, eq-eqb (s * 2 % 2) 0 (omega arith), eq-eqb ((r * 2 + 1) % 2) 1 (omega arith), a, b)
there (EmergencyReload r s) h =
    let p = parts 4 (r * 2 + 1) (s * 2) 0 (omega arith) h in
    let a : s * 2 / 2 ≡ s = omega arith in
    let b : (r * 2 + 1) / 2 ≡ r = omega arith in
    rw (p.kind, p.to, p.from, eq-eqb (s * 2 % 2) 0 (omega arith), eq-eqb ((r * 2 + 1) % 2) 1 (omega arith), a, b)

-- no two edits in range have one word
pub same_word : (a b : Edit) → InRange a → InRange b → word_of a ≡ word_of b → a ≡ b
same_word a b p q e =
    let h : some a ≡ some b = sym (there a p) ∙ ap edit_of e ∙ there b q in
    cc

-- the code of a place whose kind is told
pub code-kind : (c : ℕ) {k v : AllocationKind} → place_of k ≡ place_at c → k ≡ v → code_of (place_of v) ≡ c
code-kind c h e = by_kind code_of h e ∙ code-there c

-- ---- the buffer
-- the words are those of the cells that count
newest-kept : (t u : List ℕ) (n : ℕ) → ((j : ℕ) → 0 < j → j ≤ n → get_or u j 0 ≡ get_or t j 0) → newest_first u n ≡ newest_first t n
unfolding newest_first
newest-kept t u zero h = refl
newest-kept t u (suc n) h = rw (h (n + 1) (omega arith) (omega arith), newest-kept t u n (λ j a b. h j a (omega arith)))

pub newest-step : (t : List ℕ) (n : ℕ) → 0 < n → newest_first t n ≡ get_or t n 0 ∷ newest_first t (n - 1)
unfolding newest_first
newest-step t n h =
    let l : n ≡ suc (n - 1) = omega arith in
    let m : n - 1 + 1 ≡ n = omega arith in
    ap (newest_first t) l ∙ rw m

pub cleared : (t : List ℕ) → count_of t ≡ 0 → (words_of t ≡ []) × (edits_of t ≡ []) × (count_of t ≡ 0) × Written t
unfolding newest_first edits_of
cleared t e = (rw e, rw e, e, rw e)

-- a word at the first free cell, and the count one more
module _ (t : List ℕ) (w : ℕ) (len : length t ≡ 1025) (few : count_of t < 1024) where
  abbrev after : List ℕ
  after = set (set t (count_of t + 1) w) 0 (count_of t + 1)

  above : (j : ℕ) → 0 < j → get_or after j 0 ≡ get_or (set t (count_of t + 1) w) j 0
  above j h = get_or-set_other (set t (count_of t + 1) w) 0 j (count_of t + 1) 0 (λ e. omega arith)

  pub pushed-count : count_of after ≡ count_of t + 1
  pushed-count = get_or-set_same (set t (count_of t + 1) w) 0 (count_of t + 1) 0 (simp length-set (omega arith))

  pub pushed-words : words_of after ≡ w ∷ words_of t
  pushed-words =
      let top : get_or after (count_of t + 1) 0 ≡ w = above (count_of t + 1) (omega arith) ∙ get_or-set_same t (count_of t + 1) w 0 (omega arith) in
      let m : count_of t + 1 - 1 ≡ count_of t = omega arith in
      let rest : newest_first after (count_of t) ≡ words_of t = newest-kept t after (count_of t) (λ j a b. above j a ∙ get_or-set_other t (count_of t + 1) j w 0 (λ e. omega arith)) in
      ap (newest_first after) pushed-count ∙ newest-step after (count_of t + 1) (omega arith) ∙ rw (top, m, rest)

-- an edit's word pushed is that edit pushed
pub as-edit : (t u : List ℕ) (w : ℕ) (e : Edit) → InRange e → w ≡ word_of e → words_of u ≡ w ∷ words_of t → edits_of u ≡ e ∷ edits_of t
unfolding edits_of
as-edit t u w e r h q = ap (map (λ (x : ℕ). or_edit (edit_of x))) q ∙ rw (h, there e r)

-- so it is of every word
pub written : (t u : List ℕ) (w : ℕ) (e : Edit) → InRange e → w ≡ word_of e → words_of u ≡ w ∷ words_of t → Written t → Written u
written t u w e r h q o = let x : edits_of u ≡ e ∷ edits_of t = as-edit t u w e r h q in rw (x, q, h, o)

-- a place's code in range is that place in range
pub move-range : (to from v : ℕ) → Small to from v → InRange (Move (place_at to) (place_at from) v)
move-range to from v s = rw (code-there to, code-there from) s

pub remat-range : (to v : ℕ) → Small to 0 v → InRange (Rematerialize (place_at to) v)
remat-range to v s = rw (code-there to) s

-- one word more handed out
pub handed : (t l : List ℕ) (n at left : ℕ) → 0 < left → at < n → at < length l → take at l ++ (newest_first t left ++ drop n l) ≡ take (at + 1) (set l at (get_or t left 0)) ++ (newest_first t (left - 1) ++ drop n (set l at (get_or t left 0)))
handed t l n at left h a b =
    rw (newest-step t left h, add-one at, take-suc-set l at (get_or t left 0) b, drop-set-lt n l at (get_or t left 0) a, append_assoc)

length-newest : (t : List ℕ) (n : ℕ) → length (newest_first t n) ≡ n
unfolding newest_first
length-newest t zero = refl
length-newest t (suc n) = ap suc (length-newest t n)

pub length-edits : (t : List ℕ) → length (edits_of t) ≡ count_of t
unfolding edits_of
length-edits t = length-map (words_of t) (λ w. or_edit (edit_of w)) ∙ length-newest t (count_of t)

-- ---- whatever the words, the edits that they are read as have words
abbrev pub Fits : Option Edit → Type 0
Fits o = InRange (or_edit o)

either : (b : Bool) (x y : Option Edit) → Fits x → Fits y → Fits (pick b x y)
either true x y p q = p
either false x y p q = q

small-parts : (w : ℕ) → Small (to_in w) (from_in w) (value_in w)
small-parts w = record { to-small = omega arith; from-small = omega arith; value-small = omega arith }

halved : (x : ℕ) → x < 16384 → x / 2 < 8192
halved x h = omega arith

pub in-range : (w : ℕ) → Fits (edit_of w)
unfolding edit_of
in-range w =
    let s = small-parts w in
    let to = halved (to_in w) s.to-small in
    let from = halved (from_in w) s.from-small in
    let saved : InRange (EmergencySpill (to_in w / 2) (from_in w / 2)) = record { to-small = omega (arith, to); from-small = omega (arith, from); value-small = omega arith } in
    let brought : InRange (EmergencyReload (to_in w / 2) (from_in w / 2)) = record { to-small = omega (arith, to); from-small = omega (arith, from); value-small = omega arith } in
    let rematted : Small (to_in w) 0 (value_in w) = record { to-small = s.to-small; from-small = omega arith; value-small = s.value-small } in
    let nothing : Fits none = record { to-small = omega arith; from-small = omega arith; value-small = omega arith } in
    either (eqb (kind_in w) 1) (some (Move (place_at (to_in w)) (place_at (from_in w)) (value_in w))) _ (move-range (to_in w) (from_in w) (value_in w) s)
    (either (eqb (kind_in w) 2) (some (Rematerialize (place_at (to_in w)) (value_in w))) _ (remat-range (to_in w) (value_in w) rematted)
    (either (and (eqb (kind_in w) 3) (and (is_slot (to_in w)) (is_reg (from_in w)))) (some (EmergencySpill (to_in w / 2) (from_in w / 2))) _ saved
    (either (and (eqb (kind_in w) 4) (and (is_reg (to_in w)) (is_slot (from_in w)))) (some (EmergencyReload (to_in w / 2) (from_in w / 2))) none brought nothing)))

all_read : (l : List ℕ) → AllInRange (map (λ w. or_edit (edit_of w)) l)
all_read [] = tt
all_read (w ∷ l) = (in-range w, all_read l)

pub all-in-range : (t : List ℕ) → AllInRange (edits_of t)
unfolding edits_of
all-in-range t = all_read (words_of t)
