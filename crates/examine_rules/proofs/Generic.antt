-- The generic start: it is a start where there is one, and every start is it with its words and lists renamed.
use mathlib.Core.Path.{◌≡◌, refl, sym, ◌∙◌, ap, ap₂}
use mathlib.Core.Bool.{Bool, true, false, false≢true, true≢false}
use mathlib.Core.List.{List, [], ◌∷◌, map}
use mathlib.Core.Logic.{◌⊎◌, inl, inr, ⊎_elim}
use Prim.Native.Nat.{ℕ, zero, suc, ◌+◌, ◌-◌, ◌*◌, ◌/◌, ◌%◌, ◌<◌, ◌≤◌}
use native.Mathlib.Omega.{arith}
use lib.Dec.{eqb, ltb}
use lib.ListN.{length, get_or}
use borrow.Author.Tests.{eqb-true, eqb-false, eq-eqb, lt-ltb, le-ltb}
use Rattle.entity.specs.Logic.{pick, and, or, no, any_in, indices}
use Rattle.entity.specs.Place.{Place, reg, slot, same_place}
use Rattle.entity.proofs.Laws.{or-false, and-true, and-false, no_false, never_true, any_at, length-indices}
use Rattle.reginfo.specs.RegInfo.{RegInfo, is_memory, place_units, overlap}
use Rattle.reginfo.specs.Refused as target
use Rattle.function.specs.Function.{Function, num_values}
use Rattle.function.specs.Refused as function
use Rattle.rules.specs.Edit.{updated}
use Rattle.rules.specs.Order.{KeptMove, no_move}
use Rattle.rules.specs.Patch.{Sorted}
use Rattle.rules.specs.Sorted.{SortedOk}
use Rattle.rules.proofs.Accepted.{same-is}
use Rattle.rules.proofs.Steps.{updated-at}
use Rattle.machine.specs.Machine.{Memory, cell, put, read, write, fits}
use Rattle.machine.specs.Claim.{Contents}
use Rattle.machine.proofs.Tests.{yes_of}
use Rattle.machine.proofs.Memory.{put_self, covers, write-off, read_off, read-write}
use Rattle.machine.proofs.Premises.{place-fits}
use Rattle.group_rules.specs.Groups.{Together, self, link, chain, labels}
use Rattle.group_rules.specs.Labelled.{Labelled}
use Rattle.group_rules.proofs.Labelled.{labelled}
use Rattle.examine_rules.specs.Examine.{width, tied, number_in, number_of, generic_content, unknown, laid, generic_start, no_start}
use Rattle.examine_rules.proofs.Given.{target_ok, apart_of, low, narrow, width_of, width_is, width_small}
use Rattle.examine_rules.proofs.Simulation.{Image, write-image}

-- ---- tests
pub or_left : (a b : Bool) → a ≡ true → or a b ≡ true
or_left a b h = rw h

pub or_right : (a b : Bool) → b ≡ true → or a b ≡ true
or_right true b h = refl
or_right false b h = h

pub or-either : (a b : Bool) → or a b ≡ true → (a ≡ true) ⊎ (b ≡ true)
or-either true b h = inl refl
or-either false b h = inr h

any_where : {A : Type 0} (p : A → Bool) (l : List A) (d : A) → any_in p l ≡ true → (i : ℕ) × (i < length l) × (p (get_or l i d) ≡ true)
unfolding any_in
any_where p [] d h = absurd (false≢true h)
any_where {A} p (y ∷ l) d h = go (any_where p l d) (p y) refl h
  where
    go : (any_in p l ≡ true → (i : ℕ) × (i < length l) × (p (get_or l i d) ≡ true)) → (b : Bool) → p y ≡ b → or b (any_in p l) ≡ true → (i : ℕ) × (i < length (y ∷ l)) × (p (get_or (y ∷ l) i d) ≡ true)
    go later true e h = (0, omega arith, e)
    go later false e h = let w = later h in (suc w.0, omega (arith, w.1), w.2)

eqb_comm : (a b : ℕ) → eqb a b ≡ eqb b a
eqb_comm a b = go (eqb a b) refl (eqb b a) refl
  where
    go : (x : Bool) → eqb a b ≡ x → (y : Bool) → eqb b a ≡ y → x ≡ y
    go true e true k = refl
    go false e false k = refl
    go true e false k = absurd (eqb-false b a k (sym (eqb-true a b e)))
    go false e true k = absurd (eqb-false a b e (sym (eqb-true b a k)))

same-comm : (p q : Place) → same_place p q ≡ same_place q p
same-comm (reg a) (reg b) = eqb_comm a b
same-comm (slot a) (slot b) = eqb_comm a b
same-comm (reg a) (slot b) = refl
same-comm (slot a) (reg b) = refl

-- a list by its length and its numbers
built : (φ : ℕ → ℕ) (a n : ℕ) (l : List ℕ) → length l ≡ n → ((j : ℕ) → j < n → φ (a + j) ≡ get_or l j 0) → map φ (indices a n) ≡ l
unfolding indices
built φ a zero [] e h = refl
built φ a zero (x ∷ l) e h = absurd (omega arith)
built φ a (suc n) [] e h = absurd (omega arith)
built φ a (suc n) (x ∷ l) e h =
    let z : a + 0 ≡ a = omega arith in
    ap₂ ◌∷◌ (ap φ (sym z) ∙ h 0 (omega arith)) (built φ (a + 1) n l (omega arith) (λ j k. let q : a + 1 + j ≡ a + suc j = omega arith in ap φ q ∙ h (suc j) (omega arith)))

-- ---- the numbers of the values
number-found :
    (ls : List ℕ) (l : List KeptMove) (v i : ℕ) → length ls ≡ length l → i < length l → (get_or l i no_move).value ≡ v
    → (j : ℕ) × (j < length l) × ((get_or l j no_move).value ≡ v) × (number_in ls l v ≡ get_or ls j 0)
unfolding number_in
number-found ls [] v i e h k = absurd (omega arith)
number-found [] (m ∷ l) v i e h k = absurd (omega arith)
number-found (x ∷ ls) (m ∷ l) v zero e h k = (0, omega arith, k, rw (eq-eqb m.value v k))
number-found (x ∷ ls) (m ∷ l) v (suc i) e h k = go (eqb m.value v) refl (number-found ls l v i (omega arith) (omega arith) k)
  where
    go : (b : Bool) → eqb m.value v ≡ b → (j : ℕ) × (j < length l) × ((get_or l j no_move).value ≡ v) × (number_in ls l v ≡ get_or ls j 0)
        → (j : ℕ) × (j < length (m ∷ l)) × ((get_or (m ∷ l) j no_move).value ≡ v) × (pick b x (number_in ls l v) ≡ get_or (x ∷ ls) j 0)
    go true q w = (0, omega arith, eqb-true m.value v q, refl)
    go false q w = (suc w.0, omega (arith, w.1), w.2, w.3)

pub number-other : (ls : List ℕ) (l : List KeptMove) (v : ℕ) → any_in (λ (m : KeptMove). eqb m.value v) l ≡ false → number_in ls l v ≡ 128 + v
unfolding number_in any_in
number-other ls [] v h = refl
number-other [] (m ∷ l) v h = refl
number-other (x ∷ ls) (m ∷ l) v h = let q = or-false (eqb m.value v) (any_in (λ (m : KeptMove). eqb m.value v) l) h in rw q.0 (number-other ls l v q.1)

pub tied-comm : (x y : KeptMove) → tied x y ≡ tied y x
tied-comm x y = ap₂ or (same-comm x.source y.source) (eqb_comm x.value y.value)

module _ (ms : List KeptMove) where
  abbrev kept : ℕ → KeptMove
  kept i = get_or ms i no_move

  abbrev label : ℕ → ℕ
  label i = get_or (labels tied ms) i 0

  pub lab : Labelled tied no_move ms (labels tied ms)
  lab = labelled KeptMove tied tied-comm no_move ms

  label-tied : (i j : ℕ) → i < length ms → j < length ms → tied (kept i) (kept j) ≡ true → label i ≡ label j
  label-tied i j h k e = (lab.together i j h k).1 (link i j h k e)

  pub number-kept : (i : ℕ) → i < length ms → number_of ms (kept i).value ≡ label i
  number-kept i h =
      let w = number-found (labels tied ms) ms (kept i).value i lab.each h refl in
      w.3 ∙ label-tied w.0 i w.1 h (or_right (same_place (kept w.0).source (kept i).source) (eqb (kept w.0).value (kept i).value) (eq-eqb _ _ w.2))

  first-together : (i : ℕ) → i < length ms → Together tied no_move ms i (label i)
  first-together i h = let l : label i ≤ i = lab.first i h in (lab.together i (label i) h (omega arith)).0 (sym (lab.named i h))

-- a place written with what it holds
module _ (t : RegInfo) (f : Function) where
  -- ws written at p, as a list or as words
  abbrev written : Place → List ℕ → Memory → Bool → Memory
  written p ws m b = pick b (record { word = m.word; lists = updated (cell t f p) ws m.lists }) (record { word = put (place_units t p) ws m.word; lists = m.lists })

  abbrev held : Place → Memory → Bool → List ℕ
  held p m b = pick b (m.lists (cell t f p)) (map m.word (place_units t p))

  self-word : (p : Place) (m : Memory) (u : ℕ) → (write t f p (read t f m p) m).word u ≡ m.word u
  unfolding write read
  self-word p m u = go (is_memory t p)
    where
      go : (b : Bool) → (written p (held p m b) m b).word u ≡ m.word u
      go true = refl
      go false = put_self (place_units t p) m.word u

  self-lists : (p : Place) (m : Memory) (c : ℕ) → (write t f p (read t f m p) m).lists c ≡ m.lists c
  unfolding write read
  self-lists p m c = go (is_memory t p)
    where
      go : (b : Bool) → (written p (held p m b) m b).lists c ≡ m.lists c
      go true = updated-at (λ (l : List ℕ). l ≡ m.lists c) (cell t f p) (m.lists (cell t f p)) m.lists c (λ e. ap m.lists (sym e)) (λ d. refl)
      go false = refl

-- ---- every start is the generic one, renamed
module _ (t : RegInfo) (f : Function) (ta : target.Accepted t) (fa : function.Accepted t f) (ms : List KeptMove) (few : length ms ≤ 128)
    (valued : (i : ℕ) → i < length ms → (kept ms i).value < num_values f)
    (content : ℕ → List ℕ) (whole : Contents t f content) (start : Memory)
    (hold : (i : ℕ) → i < length ms → read t f start (kept ms i).source ≡ content (kept ms i).value)
  where
    together-content : (i j : ℕ) → Together tied no_move ms i j → content (kept ms i).value ≡ content (kept ms j).value
    together-content i j (self _) = refl
    together-content i j (link _ _ h k e) =
        ⊎_elim (λ s. sym (hold i h) ∙ ap (read t f start) (same-is (kept ms i).source (kept ms j).source s) ∙ hold j k) (λ s. ap content (eqb-true _ _ s))
        (or-either (same_place (kept ms i).source (kept ms j).source) (eqb (kept ms i).value (kept ms j).value) e)
    together-content i j (chain _ k _ a b) = together-content i k a ∙ together-content k j b

    -- the content that a number stands for
    abbrev group : ℕ → List ℕ
    group g = pick (ltb g 128) (content (kept ms g).value) (content (g - 128))

    group-is : (v : ℕ) → group (number_of ms v) ≡ content v
    group-is v = go (any_in (λ (m : KeptMove). eqb m.value v) ms) refl
      where
        go : (b : Bool) → any_in (λ (m : KeptMove). eqb m.value v) ms ≡ b → group (number_of ms v) ≡ content v
        go true e =
            let w = any_where (λ (m : KeptMove). eqb m.value v) ms no_move e in
            let i : ℕ = w.0 in
            let il : i < length ms = w.1 in
            let iv : (kept ms i).value ≡ v = eqb-true _ _ w.2 in
            let q : number_of ms v ≡ label ms i = ap (number_of ms) (sym iv) ∙ number-kept ms i il in
            let l : label ms i ≤ i = (lab ms).first i il in
            let s : ltb (label ms i) 128 ≡ true = lt-ltb (label ms i) 128 (omega arith) in
            ap group q ∙ ap (λ (b : Bool). pick b (content (kept ms (label ms i)).value) (content (label ms i - 128))) s
            ∙ sym (together-content i (label ms i) (first-together ms i il)) ∙ ap content iv
        go false e =
            let s : ltb (128 + v) 128 ≡ false = le-ltb (128 + v) 128 (omega arith) in
            let d : 128 + v - 128 ≡ v = omega arith in
            ap group (number-other (labels tied ms) ms v e) ∙ ap (λ (b : Bool). pick b (content (kept ms (128 + v)).value) (content (128 + v - 128))) s ∙ ap content d

    -- a word, and a list: one of nine words is an unknown one
    unfoldable pub φ : ℕ → ℕ
    φ x = pick (ltb x 512) (start.word x) (get_or (group ((x - 512) / 8)) ((x - 512) % 8) 0)

    unfoldable pub ψ : List ℕ → List ℕ
    ψ l = pick (eqb (length l) 9) (start.lists (get_or l 0 0 - 34304)) (map φ l)

    φ-unit : (u : ℕ) → u < 512 → φ u ≡ start.word u
    unfolding φ
    φ-unit u h = rw (lt-ltb u 512 h)

    φ-content : (g j : ℕ) → j < 8 → φ (512 + 8 * g + j) ≡ get_or (group g) j 0
    unfolding φ
    φ-content g j h =
        let s : ltb (512 + 8 * g + j) 512 ≡ false = le-ltb (512 + 8 * g + j) 512 (omega arith) in
        let a : (512 + 8 * g + j - 512) / 8 ≡ g = omega arith in
        let b : (512 + 8 * g + j - 512) % 8 ≡ j = omega arith in
        rw (s, a, b)

    pub short : (l : List ℕ) → length l ≤ 8 → ψ l ≡ map φ l
    unfolding ψ
    short l h = let s : eqb (length l) 9 ≡ false = never_true _ (λ e. let q : length l ≡ 9 = eqb-true _ _ e in omega arith) in rw s

    ψ-unknown : (c : ℕ) → ψ (unknown c) ≡ start.lists c
    unfolding ψ
    ψ-unknown c = let d : 34304 + c - 34304 ≡ c = omega arith in ap start.lists d

    pub few_words : (v : ℕ) → v < num_values f → length (generic_content t f ms v) ≤ 8
    unfolding generic_content
    few_words v hv = omega (arith, length-indices (512 + 8 * number_of ms v) (width t f v), width_small t f ta fa v hv)

    pub same : (v : ℕ) → v < num_values f → ψ (generic_content t f ms v) ≡ content v
    unfolding generic_content
    same v hv =
        let g : ℕ = number_of ms v in
        let w : width t f v ≤ 8 = width_small t f ta fa v hv in
        short (indices (512 + 8 * g) (width t f v)) (few_words v hv)
        ∙ built φ (512 + 8 * g) (width t f v) (content v) (width_is t f ta fa v hv content whole) (λ j h. φ-content g j (omega arith) ∙ ap (λ (l : List ℕ). get_or l j 0) (group-is v))

    abbrev pub Renamed : Memory → Memory → Type 0
    Renamed = Image t f (low t f ta) (narrow t f ta) φ ψ short

    laid-image : (l : List KeptMove) → ((i : ℕ) → i < length l → ((get_or l i no_move).value < num_values f) × (read t f start (get_or l i no_move).source ≡ content (get_or l i no_move).value))
        → Renamed (laid t f ms l) start
    unfolding laid
    laid-image [] h = record { words = λ u k. sym (φ-unit u k); lists = λ c. sym (ψ-unknown c) }
    laid-image (m ∷ l) h =
        let hv : m.value < num_values f = (h 0 (omega arith)).0 in
        let e : ψ (generic_content t f ms m.value) ≡ read t f start m.source = same m.value hv ∙ sym (h 0 (omega arith)).1 in
        let i : Renamed (write t f m.source (generic_content t f ms m.value) (laid t f ms l)) (write t f m.source (read t f start m.source) start) =
        rw (← e) (write-image t f (low t f ta) (narrow t f ta) φ ψ short m.source (generic_content t f ms m.value) (laid t f ms l) start (λ _. few_words m.value hv)
        (laid-image l (λ i k. h (suc i) (omega arith)))) in
        record {
          words = λ u k. sym (self-word t f m.source start u) ∙ i.words u k;
          lists = λ c. sym (self-lists t f m.source start c) ∙ i.lists c;
        }

    pub start-image : Renamed (generic_start t f ms) start
    start-image = laid-image ms (λ i h. (valued i h, hold i h))

-- ---- where there is a start, the generic one is one
module _ (t : RegInfo) (f : Function) (ta : target.Accepted t) (fa : function.Accepted t f) where
  pub generic-contents : (ms : List KeptMove) → Contents t f (generic_content t f ms)
  unfolding generic_content
  generic-contents ms v r hv hr n e = length-indices (512 + 8 * number_of ms v) (width t f v) ∙ width_of t f ta fa v hv r hr n e

  -- two of one list: equal sources have one content, others share no unit
  abbrev Clear : List KeptMove → KeptMove → KeptMove → Type 0
  Clear ms x y =
      (same_place x.source y.source ≡ true → generic_content t f ms x.value ≡ generic_content t f ms y.value)
      × (same_place x.source y.source ≡ false → overlap t x.source y.source ≡ false)

  laid-holds : (ms l : List KeptMove)
      → ((i k : ℕ) → i < length l → k < length l → Clear ms (get_or l i no_move) (get_or l k no_move))
      → ((i : ℕ) → i < length l → fits t f (get_or l i no_move).source (length (generic_content t f ms (get_or l i no_move).value)) ≡ true)
      → (i : ℕ) → i < length l → read t f (laid t f ms l) (get_or l i no_move).source ≡ generic_content t f ms (get_or l i no_move).value
  unfolding laid
  laid-holds ms [] c w i h = absurd (omega arith)
  laid-holds ms (m ∷ l) c w zero h = read-write t f (target_ok t f ta) m.source (generic_content t f ms m.value) (laid t f ms l) (yes_of _ (w 0 (omega arith)))
  laid-holds ms (m ∷ l) c w (suc i) h =
      go (same_place m.source x.source) refl
      (laid-holds ms l (λ j k a b. c (suc j) (suc k) (omega arith) (omega arith)) (λ j a. w (suc j) (omega arith)) i (omega arith))
    where
      x : KeptMove
      x = get_or l i no_move

      after : Memory
      after = write t f m.source (generic_content t f ms m.value) (laid t f ms l)

      go : (b : Bool) → same_place m.source x.source ≡ b → read t f (laid t f ms l) x.source ≡ generic_content t f ms x.value → read t f after x.source ≡ generic_content t f ms x.value
      go true e ih =
          ap (read t f after) (sym (same-is m.source x.source e))
          ∙ read-write t f (target_ok t f ta) m.source (generic_content t f ms m.value) (laid t f ms l) (yes_of _ (w 0 (omega arith)))
          ∙ (c 0 (suc i) (omega arith) (omega arith)).0 e
      go false e ih =
          read_off t f (target_ok t f ta) (covers t f (target_ok t f ta) m.source) after (laid t f ms l) (write-off t f (target_ok t f ta) m.source (generic_content t f ms m.value) (laid t f ms l)) x.source
          (λ u a b. apart_of t f ta m.source x.source ((c 0 (suc i) (omega arith) (omega arith)).1 e) u b a)
          ∙ ih

  module _ (a : Sorted) (ok : SortedOk t f a) where
    abbrev ms : List KeptMove
    ms = a.moves

    -- widths of values with one source
    pub same-widths : no_start t f ms ≡ false → (i k : ℕ) → i < length ms → k < length ms → same_place (kept ms i).source (kept ms k).source ≡ true
        → width t f (kept ms i).value ≡ width t f (kept ms k).value
    unfolding no_start
    same-widths n i k h l e =
        let q = any_at (λ (y : KeptMove). and (same_place (kept ms i).source y.source) (no (eqb (width t f (kept ms i).value) (width t f y.value)))) ms k no_move
        (any_at (λ (x : KeptMove). any_in (λ (y : KeptMove). and (same_place x.source y.source) (no (eqb (width t f x.value) (width t f y.value)))) ms) ms i no_move n h) l in
        eqb-true _ _ (no_false _ (and-false _ _ q e))

    clear : no_start t f ms ≡ false → (i k : ℕ) → i < length ms → k < length ms → Clear ms (kept ms i) (kept ms k)
    unfolding generic_content
    clear n i k h l = (
      λ e. ap₂ (λ (g w : ℕ). indices (512 + 8 * g) w)
          (number-kept ms i h ∙ label-tied ms i k h l (or_left (same_place (kept ms i).source (kept ms k).source) (eqb (kept ms i).value (kept ms k).value) e) ∙ sym (number-kept ms k l))
          (same-widths n i k h l e),
      λ e. ok.sources i k h l e,
    )

    pub generic-holds : no_start t f ms ≡ false → (i : ℕ) → i < length ms → read t f (generic_start t f ms) (kept ms i).source ≡ generic_content t f ms (kept ms i).value
    generic-holds n =
        laid-holds ms ms (clear n)
        (λ i h. let m = ok.moves i h in place-fits t f (generic_content t f ms) (generic-contents ms) (kept ms i).source (kept ms i).value m.value-named m.source-named m.source-bank)

    -- "With no such start"
    pub none-starts : no_start t f ms ≡ true → (content : ℕ → List ℕ) → Contents t f content → (start : Memory)
        → ((i : ℕ) → i < length ms → read t f start (kept ms i).source ≡ content (kept ms i).value) → ⊥
    unfolding no_start
    none-starts e content whole start hold =
        let x = any_where (λ (x : KeptMove). any_in (λ (y : KeptMove). and (same_place x.source y.source) (no (eqb (width t f x.value) (width t f y.value)))) ms) ms no_move e in
        let i : ℕ = x.0 in
        let y = any_where (λ (y : KeptMove). and (same_place (kept ms i).source y.source) (no (eqb (width t f (kept ms i).value) (width t f y.value)))) ms no_move x.2 in
        let k : ℕ = y.0 in
        let q = and-true (same_place (kept ms i).source (kept ms k).source) (no (eqb (width t f (kept ms i).value) (width t f (kept ms k).value))) y.2 in
        let same : content (kept ms i).value ≡ content (kept ms k).value =
        sym (hold i x.1) ∙ ap (read t f start) (same-is (kept ms i).source (kept ms k).source q.0) ∙ hold k y.1 in
        let w : width t f (kept ms i).value ≡ width t f (kept ms k).value =
        sym (width_is t f ta fa (kept ms i).value (ok.moves i x.1).value-named content whole) ∙ ap length same ∙ width_is t f ta fa (kept ms k).value (ok.moves k y.1).value-named content whole in
        true≢false (sym q.1 ∙ ap no (eq-eqb _ _ w))
