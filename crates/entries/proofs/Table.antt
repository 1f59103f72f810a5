-- What the table holds after each store.
use Prim.Native.Nat.{ℕ, zero, suc, ◌+◌, ◌*◌, ◌<◌, ◌≤◌}
use mathlib.Core.Path.{◌≡◌, refl, ap, ◌∙◌}
use mathlib.Core.Bool.{true, false}
use mathlib.Core.List.{List, [], ◌∷◌, ◌++◌, map}
use native.Mathlib.Omega.{arith}
use native.Mathlib.Numerals.{add-one}
use lib.ListN.{get_or, length, set, length-set}
use lib.Seq.{get_or-set_same, get_or-set_other}
use Rattle.entity.specs.Logic.{indices}
use Rattle.entity.proofs.Laws.{length-built, get_d-built}
use Rattle.rules.specs.Order.{KeptMove, Remat, no_move}
use Rattle.rules.specs.Patch.{Sorted, nothing_sorted}
use Rattle.entries.specs.Known.{SameIndex}
use Rattle.entries.specs.Table.{move_at, remat_at, sorted_of, kept_move, remat_as, counted_one, stored_move, stored_remat, with_move, with_remat, with_dropped}

-- lists made by index
built-same : {A : Type 0} (f g : ℕ → A) (i n : ℕ) → ((k : ℕ) → k < i + n → f k ≡ g k) → map f (indices i n) ≡ map g (indices i n)
unfolding indices
built-same f g i zero h = refl
built-same f g i (suc n) h = rw (h i (omega arith), built-same f g (i + 1) n (λ k l. h k (omega arith)))

built-end : {A : Type 0} (f : ℕ → A) (i n : ℕ) → map f (indices i (suc n)) ≡ map f (indices i n) ++ (f (i + n) ∷ [])
unfolding indices
built-end f i zero = ap (λ (k : ℕ). f k ∷ []) (omega arith)
built-end f i (suc n) = ap (f i ∷◌) (built-end f (i + 1) n ∙ ap (λ (k : ℕ). map f (indices (i + 1) n) ++ (f k ∷ [])) (omega arith))

-- one element more, the others as they were
built-more : {A : Type 0} (f g : ℕ → A) (n m : ℕ) (x : A) → m ≡ n + 1 → ((k : ℕ) → k < n → f k ≡ g k) → f n ≡ x → map f (indices 0 m) ≡ map g (indices 0 n) ++ (x ∷ [])
built-more f g n m x e h q =
    let z : 0 + n ≡ n = omega arith in
    ap (λ (k : ℕ). map f (indices 0 k)) (e ∙ add-one n) ∙ built-end f 0 n ∙ rw (z, q, built-same f g 0 n (λ k l. h k (omega arith)))

built-kept : {A : Type 0} (f g : ℕ → A) (n m : ℕ) → m ≡ n → ((k : ℕ) → k < n → f k ≡ g k) → map f (indices 0 m) ≡ map g (indices 0 n)
built-kept f g n m e h = ap (λ (k : ℕ). map f (indices 0 k)) e ∙ built-same f g 0 n (λ k l. h k (omega arith))

move_same : (a b : List ℕ) (k : ℕ) → ((x : ℕ) → x < k * 4 + 3 → get_or a x 0 ≡ get_or b x 0) → move_at a k ≡ move_at b k
unfolding move_at
move_same a b k h = rw (h (k * 4) (omega arith), h (1 + k * 4) (omega arith), h (2 + k * 4) (omega arith))

remat-same : (base : ℕ) (a b : List ℕ) (k : ℕ) → ((x : ℕ) → base ≤ x → x < base + k * 2 + 2 → get_or a x 0 ≡ get_or b x 0) → remat_at base a k ≡ remat_at base b k
unfolding remat_at
remat-same base a b k h = rw (h (base + k * 2) (omega arith) (omega arith), h (base + 1 + k * 2) (omega arith) (omega arith))

sorted-same : {m m' : List KeptMove} {r r' s s' : List Remat} {c c' : ℕ} → m ≡ m' → r ≡ r' → s ≡ s' → c ≡ c'
    → ◌≡◌ {A = Sorted} (record { moves = m; remats = r; remats_with_scratch = s; count = c }) (record { moves = m'; remats = r'; remats_with_scratch = s'; count = c' })
sorted-same p q r s = rw (p, q, r, s)

-- the counts
pub kept-count : (e : List ℕ) → length (sorted_of e).moves ≡ get_or e 1024 0
unfolding sorted_of
kept-count e = length-built (move_at e) 0 (get_or e 1024 0)

pub remats-count : (e : List ℕ) → length (sorted_of e).remats ≡ get_or e 1025 0
unfolding sorted_of
remats-count e = length-built (remat_at 512 e) 0 (get_or e 1025 0)

pub scratch-count : (e : List ℕ) → length (sorted_of e).remats_with_scratch ≡ get_or e 1026 0
unfolding sorted_of
scratch-count e = length-built (remat_at 768 e) 0 (get_or e 1026 0)

pub entries-count : (e : List ℕ) → (sorted_of e).count ≡ get_or e 1027 0
unfolding sorted_of
entries-count e = refl

-- what stands at an index
pub kept-is : (e : List ℕ) (m : ℕ) → m < length (sorted_of e).moves → get_or (sorted_of e).moves m no_move ≡ move_at e m
unfolding sorted_of
kept-is e m h = get_d-built (move_at e) 0 (get_or e 1024 0) m no_move (rw length-built at h) ∙ ap (move_at e) (omega arith)

pub scratch-is : (e : List ℕ) (i : ℕ) (d : Remat) → i < length (sorted_of e).remats_with_scratch → get_or (sorted_of e).remats_with_scratch i d ≡ remat_at 768 e i
unfolding sorted_of
scratch-is e i d h = get_d-built (remat_at 768 e) 0 (get_or e 1026 0) i d (rw length-built at h) ∙ ap (remat_at 768 e) (omega arith)

-- what stands below the index decides
pub low_same : (e u : List ℕ) → ((x : ℕ) → x < 1028 → get_or u x 0 ≡ get_or e x 0) → get_or e 1024 0 ≤ 128 → get_or e 1025 0 ≤ 128 → get_or e 1026 0 ≤ 128 → sorted_of u ≡ sorted_of e
unfolding sorted_of
low_same e u cell few few-remats few-scratch =
    sorted-same
    (built-kept (move_at u) (move_at e) (get_or e 1024 0) (get_or u 1024 0) (cell 1024 (omega arith)) (λ k l. move_same u e k (λ x h. cell x (omega arith))))
    (built-kept (remat_at 512 u) (remat_at 512 e) (get_or e 1025 0) (get_or u 1025 0) (cell 1025 (omega arith)) (λ k l. remat-same 512 u e k (λ x a h. cell x (omega arith))))
    (built-kept (remat_at 768 u) (remat_at 768 e) (get_or e 1026 0) (get_or u 1026 0) (cell 1026 (omega arith)) (λ k l. remat-same 768 u e k (λ x a h. cell x (omega arith))))
    (cell 1027 (omega arith))

-- no entry
module _ (e : List ℕ) (long : length e ≡ 1541) where
  pub emptied : sorted_of (set (set (set (set e 1024 0) 1025 0) 1026 0) 1027 0) ≡ nothing_sorted
  unfolding sorted_of indices
  emptied =
      let a = set e 1024 0 in
      let b = set a 1025 0 in
      let c = set b 1026 0 in
      let p : get_or (set c 1027 0) 1024 0 ≡ 0 = get_or-set_other c 1027 1024 0 0 (λ q. omega arith) ∙ get_or-set_other b 1026 1024 0 0 (λ q. omega arith) ∙ get_or-set_other a 1025 1024 0 0 (λ q. omega arith) ∙ get_or-set_same e 1024 0 0 (omega arith) in
      let q : get_or (set c 1027 0) 1025 0 ≡ 0 = get_or-set_other c 1027 1025 0 0 (λ q. omega arith) ∙ get_or-set_other b 1026 1025 0 0 (λ q. omega arith) ∙ get_or-set_same a 1025 0 0 (simp length-set (omega arith)) in
      let r : get_or (set c 1027 0) 1026 0 ≡ 0 = get_or-set_other c 1027 1026 0 0 (λ q. omega arith) ∙ get_or-set_same b 1026 0 0 (simp length-set (omega arith)) in
      let s : get_or (set c 1027 0) 1027 0 ≡ 0 = get_or-set_same c 1027 0 0 (simp length-set (omega arith)) in
      sorted-same
      (ap (λ (n : ℕ). map (move_at (set c 1027 0)) (indices 0 n)) p)
      (ap (λ (n : ℕ). map (remat_at 512 (set c 1027 0)) (indices 0 n)) q)
      (ap (λ (n : ℕ). map (remat_at 768 (set c 1027 0)) (indices 0 n)) r)
      s

-- the count of all entries stands beside what is stored
pub move-count : (e : List ℕ) (s d v : ℕ) → get_or e 1024 0 < 128 → get_or (stored_move e (get_or e 1024 0) s d v) 1027 0 ≡ get_or e 1027 0
move-count e s d v less =
    let m = get_or e 1024 0 in
    let a = set e (m * 4) s in
    let b = set a (1 + m * 4) d in
    let c = set b (2 + m * 4) v in
    get_or-set_other c 1024 1027 (m + 1) 0 (λ q. omega arith) ∙ get_or-set_other b (2 + m * 4) 1027 v 0 (λ q. omega arith) ∙ get_or-set_other a (1 + m * 4) 1027 d 0 (λ q. omega arith) ∙ get_or-set_other e (m * 4) 1027 s 0 (λ q. omega arith)

pub remat-count : (e : List ℕ) (base counter d v : ℕ) → base ≤ 768 → counter < 1027 → get_or e counter 0 < 128 → get_or (stored_remat e base counter (get_or e counter 0) d v) 1027 0 ≡ get_or e 1027 0
remat-count e base counter d v high below less =
    let i = get_or e counter 0 in
    let a = set e (base + i * 2) d in
    let b = set a (base + 1 + i * 2) v in
    get_or-set_other b counter 1027 (i + 1) 0 (λ q. omega arith) ∙ get_or-set_other a (base + 1 + i * 2) 1027 v 0 (λ q. omega arith) ∙ get_or-set_other e (base + i * 2) 1027 d 0 (λ q. omega arith)

-- stores below the count of all entries
module _ (e : List ℕ) (long : length e ≡ 1541) (few : get_or e 1024 0 ≤ 128) (few-remats : get_or e 1025 0 ≤ 128) (few-scratch : get_or e 1026 0 ≤ 128) where
  dropped-one : sorted_of (counted_one e) ≡ with_dropped (sorted_of e)
  unfolding sorted_of
  dropped-one =
      let u = counted_one e in
      let cell : (x : ℕ) → x < 1027 → get_or u x 0 ≡ get_or e x 0 = λ x h. get_or-set_other e 1027 x (get_or e 1027 0 + 1) 0 (λ q. omega arith) in
      sorted-same
      (built-kept (move_at u) (move_at e) (get_or e 1024 0) (get_or u 1024 0) (cell 1024 (omega arith)) (λ k l. move_same u e k (λ x h. cell x (omega arith))))
      (built-kept (remat_at 512 u) (remat_at 512 e) (get_or e 1025 0) (get_or u 1025 0) (cell 1025 (omega arith)) (λ k l. remat-same 512 u e k (λ x a h. cell x (omega arith))))
      (built-kept (remat_at 768 u) (remat_at 768 e) (get_or e 1026 0) (get_or u 1026 0) (cell 1026 (omega arith)) (λ k l. remat-same 768 u e k (λ x a h. cell x (omega arith))))
      (get_or-set_same e 1027 (get_or e 1027 0 + 1) 0 (omega arith) ∙ add-one (get_or e 1027 0))

  module _ (s d v : ℕ) (less : get_or e 1024 0 < 128) where
    abbrev m : ℕ
    m = get_or e 1024 0

    abbrev one : List ℕ
    one = set e (m * 4) s

    abbrev two : List ℕ
    two = set one (1 + m * 4) d

    abbrev three : List ℕ
    three = set two (2 + m * 4) v

    abbrev four : List ℕ
    four = set three 1024 (m + 1)

    three-other : (x : ℕ) → (x ≡ m * 4 → ⊥) → (x ≡ 1 + m * 4 → ⊥) → (x ≡ 2 + m * 4 → ⊥) → get_or three x 0 ≡ get_or e x 0
    three-other x a b c = get_or-set_other two (2 + m * 4) x v 0 c ∙ get_or-set_other one (1 + m * 4) x d 0 b ∙ get_or-set_other e (m * 4) x s 0 a

    four_low : (x : ℕ) → x < m * 4 → get_or (counted_one four) x 0 ≡ get_or e x 0
    four_low x h = get_or-set_other four 1027 x _ 0 (λ q. omega arith) ∙ get_or-set_other three 1024 x (m + 1) 0 (λ q. omega arith) ∙ three-other x (λ q. omega arith) (λ q. omega arith) (λ q. omega arith)

    four-high : (x : ℕ) → 512 ≤ x → (x ≡ 1024 → ⊥) → (x ≡ 1027 → ⊥) → get_or (counted_one four) x 0 ≡ get_or e x 0
    four-high x h a b = get_or-set_other four 1027 x _ 0 b ∙ get_or-set_other three 1024 x (m + 1) 0 a ∙ three-other x (λ q. omega arith) (λ q. omega arith) (λ q. omega arith)

    below-counts : (x : ℕ) → x < 1024 → get_or (counted_one four) x 0 ≡ get_or three x 0
    below-counts x h = get_or-set_other four 1027 x _ 0 (λ q. omega arith) ∙ get_or-set_other three 1024 x (m + 1) 0 (λ q. omega arith)

    move_new : move_at (counted_one four) m ≡ kept_move s d v
    unfolding move_at
    move_new =
        let a : get_or (counted_one four) (m * 4) 0 ≡ s = below-counts (m * 4) (omega arith) ∙ get_or-set_other two (2 + m * 4) (m * 4) v 0 (λ q. omega arith) ∙ get_or-set_other one (1 + m * 4) (m * 4) d 0 (λ q. omega arith) ∙ get_or-set_same e (m * 4) s 0 (omega arith) in
        let b : get_or (counted_one four) (1 + m * 4) 0 ≡ d = below-counts (1 + m * 4) (omega arith) ∙ get_or-set_other two (2 + m * 4) (1 + m * 4) v 0 (λ q. omega arith) ∙ get_or-set_same one (1 + m * 4) d 0 (simp length-set (omega arith)) in
        let c : get_or (counted_one four) (2 + m * 4) 0 ≡ v = below-counts (2 + m * 4) (omega arith) ∙ get_or-set_same two (2 + m * 4) v 0 (simp length-set (omega arith)) in
        rw (a, b, c)

    kept-one : sorted_of (counted_one (stored_move e m s d v)) ≡ with_move (kept_move s d v) (sorted_of e)
    unfolding sorted_of
    kept-one =
        let u = counted_one four in
        sorted-same
        (built-more (move_at u) (move_at e) m (get_or u 1024 0) _ (get_or-set_other four 1027 1024 _ 0 (λ q. omega arith) ∙ get_or-set_same three 1024 (m + 1) 0 (simp length-set (omega arith))) (λ k l. move_same u e k (λ x h. four_low x (omega arith))) move_new)
        (built-kept (remat_at 512 u) (remat_at 512 e) (get_or e 1025 0) (get_or u 1025 0) (four-high 1025 (omega arith) (λ q. omega arith) (λ q. omega arith)) (λ k l. remat-same 512 u e k (λ x a h. four-high x (omega arith) (λ q. omega arith) (λ q. omega arith))))
        (built-kept (remat_at 768 u) (remat_at 768 e) (get_or e 1026 0) (get_or u 1026 0) (four-high 1026 (omega arith) (λ q. omega arith) (λ q. omega arith)) (λ k l. remat-same 768 u e k (λ x a h. four-high x (omega arith) (λ q. omega arith) (λ q. omega arith))))
        (get_or-set_same four 1027 _ 0 (simp length-set (omega arith)) ∙ ap (λ (n : ℕ). n + 1) (move-count e s d v less) ∙ add-one (get_or e 1027 0))

  -- a rebuild, in the list from `base` on, which is counted at `counter`
  module _ (base counter d v : ℕ) (low : 512 ≤ base) (high : base ≤ 768) (above : 1024 < counter) (below : counter < 1027) (less : get_or e counter 0 < 128) where
    abbrev i : ℕ
    i = get_or e counter 0

    abbrev first : List ℕ
    first = set e (base + i * 2) d

    abbrev second : List ℕ
    second = set first (base + 1 + i * 2) v

    abbrev third : List ℕ
    third = set second counter (i + 1)

    third-other : (x : ℕ) → (x ≡ base + i * 2 → ⊥) → (x ≡ base + 1 + i * 2 → ⊥) → (x ≡ counter → ⊥) → (x ≡ 1027 → ⊥) → get_or (counted_one third) x 0 ≡ get_or e x 0
    third-other x a b c q = get_or-set_other third 1027 x _ 0 q ∙ get_or-set_other second counter x (i + 1) 0 c ∙ get_or-set_other first (base + 1 + i * 2) x v 0 b ∙ get_or-set_other e (base + i * 2) x d 0 a

    third-counter : get_or (counted_one third) counter 0 ≡ i + 1
    third-counter = get_or-set_other third 1027 counter _ 0 (λ q. omega arith) ∙ get_or-set_same second counter (i + 1) 0 (simp length-set (omega arith))

    third-all : get_or (counted_one third) 1027 0 ≡ suc (get_or e 1027 0)
    third-all =
        get_or-set_same third 1027 _ 0 (simp length-set (omega arith))
        ∙ ap (λ (n : ℕ). n + 1) (remat-count e base counter d v high below less)
        ∙ add-one (get_or e 1027 0)

    remat-new : remat_at base (counted_one third) i ≡ remat_as d v
    unfolding remat_at
    remat-new =
        let a : get_or (counted_one third) (base + i * 2) 0 ≡ d = get_or-set_other third 1027 (base + i * 2) _ 0 (λ q. omega arith) ∙ get_or-set_other second counter (base + i * 2) (i + 1) 0 (λ q. omega arith) ∙ get_or-set_other first (base + 1 + i * 2) (base + i * 2) v 0 (λ q. omega arith) ∙ get_or-set_same e (base + i * 2) d 0 (omega arith) in
        let b : get_or (counted_one third) (base + 1 + i * 2) 0 ≡ v = get_or-set_other third 1027 (base + 1 + i * 2) _ 0 (λ q. omega arith) ∙ get_or-set_other second counter (base + 1 + i * 2) (i + 1) 0 (λ q. omega arith) ∙ get_or-set_same first (base + 1 + i * 2) v 0 (simp length-set (omega arith)) in
        rw (a, b)

    remats-more : map (remat_at base (counted_one third)) (indices 0 (get_or (counted_one third) counter 0)) ≡ map (remat_at base e) (indices 0 i) ++ (remat_as d v ∷ [])
    remats-more = built-more (remat_at base (counted_one third)) (remat_at base e) i (get_or (counted_one third) counter 0) _ third-counter (λ k l. remat-same base (counted_one third) e k (λ x a h. third-other x (λ q. omega arith) (λ q. omega arith) (λ q. omega arith) (λ q. omega arith))) remat-new

  remat-one : (d v : ℕ) → get_or e 1025 0 < 128 → sorted_of (counted_one (stored_remat e 512 1025 (get_or e 1025 0) d v)) ≡ with_remat false (remat_as d v) (sorted_of e)
  unfolding sorted_of
  remat-one d v less =
      let u = counted_one (stored_remat e 512 1025 (get_or e 1025 0) d v) in
      let other : (x : ℕ) → (x ≡ 512 + get_or e 1025 0 * 2 → ⊥) → (x ≡ 512 + 1 + get_or e 1025 0 * 2 → ⊥) → (x ≡ 1025 → ⊥) → (x ≡ 1027 → ⊥) → get_or u x 0 ≡ get_or e x 0 = third-other 512 1025 d v (omega arith) (omega arith) (omega arith) (omega arith) less in
      sorted-same
      (built-kept (move_at u) (move_at e) (get_or e 1024 0) (get_or u 1024 0) (other 1024 (λ q. omega arith) (λ q. omega arith) (λ q. omega arith) (λ q. omega arith)) (λ k l. move_same u e k (λ x h. other x (λ q. omega arith) (λ q. omega arith) (λ q. omega arith) (λ q. omega arith))))
      (remats-more 512 1025 d v (omega arith) (omega arith) (omega arith) (omega arith) less)
      (built-kept (remat_at 768 u) (remat_at 768 e) (get_or e 1026 0) (get_or u 1026 0) (other 1026 (λ q. omega arith) (λ q. omega arith) (λ q. omega arith) (λ q. omega arith)) (λ k l. remat-same 768 u e k (λ x a h. other x (λ q. omega arith) (λ q. omega arith) (λ q. omega arith) (λ q. omega arith))))
      (third-all 512 1025 d v (omega arith) (omega arith) (omega arith) (omega arith) less)

  remat-with-scratch : (d v : ℕ) → get_or e 1026 0 < 128 → sorted_of (counted_one (stored_remat e 768 1026 (get_or e 1026 0) d v)) ≡ with_remat true (remat_as d v) (sorted_of e)
  unfolding sorted_of
  remat-with-scratch d v less =
      let u = counted_one (stored_remat e 768 1026 (get_or e 1026 0) d v) in
      let other : (x : ℕ) → (x ≡ 768 + get_or e 1026 0 * 2 → ⊥) → (x ≡ 768 + 1 + get_or e 1026 0 * 2 → ⊥) → (x ≡ 1026 → ⊥) → (x ≡ 1027 → ⊥) → get_or u x 0 ≡ get_or e x 0 = third-other 768 1026 d v (omega arith) (omega arith) (omega arith) (omega arith) less in
      sorted-same
      (built-kept (move_at u) (move_at e) (get_or e 1024 0) (get_or u 1024 0) (other 1024 (λ q. omega arith) (λ q. omega arith) (λ q. omega arith) (λ q. omega arith)) (λ k l. move_same u e k (λ x h. other x (λ q. omega arith) (λ q. omega arith) (λ q. omega arith) (λ q. omega arith))))
      (built-kept (remat_at 512 u) (remat_at 512 e) (get_or e 1025 0) (get_or u 1025 0) (other 1025 (λ q. omega arith) (λ q. omega arith) (λ q. omega arith) (λ q. omega arith)) (λ k l. remat-same 512 u e k (λ x a h. other x (λ q. omega arith) (λ q. omega arith) (λ q. omega arith) (λ q. omega arith))))
      (remats-more 768 1026 d v (omega arith) (omega arith) (omega arith) (omega arith) less)
      (third-all 768 1026 d v (omega arith) (omega arith) (omega arith) (omega arith) less)

-- neither store nor count writes the index
pub counted-index : (e : List ℕ) → SameIndex e (counted_one e)
counted-index e x h = get_or-set_other e 1027 x _ 0 (λ q. omega arith)

remat-index : (e : List ℕ) (base counter d v : ℕ) → base ≤ 768 → counter < 1028 → get_or e counter 0 < 128 → SameIndex e (stored_remat e base counter (get_or e counter 0) d v)
remat-index e base counter d v high below less x h =
    let i = get_or e counter 0 in
    let a = set e (base + i * 2) d in
    let b = set a (base + 1 + i * 2) v in
    get_or-set_other b counter x (i + 1) 0 (λ q. omega arith) ∙ get_or-set_other a (base + 1 + i * 2) x v 0 (λ q. omega arith) ∙ get_or-set_other e (base + i * 2) x d 0 (λ q. omega arith)

pub remat-done-index : (e e₁ e₂ : List ℕ) (base counter d v : ℕ) → base ≤ 768 → counter < 1028 → get_or e counter 0 < 128 → e₁ ≡ stored_remat e base counter (get_or e counter 0) d v → e₂ ≡ counted_one e₁ → SameIndex e e₂
remat-done-index e e₁ e₂ base counter d v high below less p q x h = rw (q, p) (counted-index (stored_remat e base counter (get_or e counter 0) d v) x h ∙ remat-index e base counter d v high below less x h)

pub move-index : (e : List ℕ) (s d v : ℕ) → get_or e 1024 0 < 128 → SameIndex e (stored_move e (get_or e 1024 0) s d v)
move-index e s d v less x h =
    let m = get_or e 1024 0 in
    let a = set e (m * 4) s in
    let b = set a (1 + m * 4) d in
    let c = set b (2 + m * 4) v in
    get_or-set_other c 1024 x (m + 1) 0 (λ q. omega arith) ∙ get_or-set_other b (2 + m * 4) x v 0 (λ q. omega arith) ∙ get_or-set_other a (1 + m * 4) x d 0 (λ q. omega arith) ∙ get_or-set_other e (m * 4) x s 0 (λ q. omega arith)

-- the stores of the code, one after the other
module _ (e : List ℕ) (few : get_or e 1024 0 + (get_or e 1025 0 + get_or e 1026 0) < 128) (e₁ e₂ : List ℕ) (long : length e₁ ≡ 1541) (counted : e₂ ≡ counted_one e₁) where
  pub kept-done : (s d v : ℕ) → e₁ ≡ stored_move e (get_or e 1024 0) s d v → sorted_of e₂ ≡ with_move (kept_move s d v) (sorted_of e)
  kept-done s d v p =
      let l : length e ≡ 1541 = simp length-set at (rw p at long) in
      rw (counted, p) (kept-one e l (omega arith) (omega arith) (omega arith) s d v (omega arith))

  pub remat-done : (d v : ℕ) → e₁ ≡ stored_remat e 512 1025 (get_or e 1025 0) d v → sorted_of e₂ ≡ with_remat false (remat_as d v) (sorted_of e)
  remat-done d v p =
      let l : length e ≡ 1541 = simp length-set at (rw p at long) in
      rw (counted, p) (remat-one e l (omega arith) (omega arith) (omega arith) d v (omega arith))

  pub scratch-done : (d v : ℕ) → e₁ ≡ stored_remat e 768 1026 (get_or e 1026 0) d v → sorted_of e₂ ≡ with_remat true (remat_as d v) (sorted_of e)
  scratch-done d v p =
      let l : length e ≡ 1541 = simp length-set at (rw p at long) in
      rw (counted, p) (remat-with-scratch e l (omega arith) (omega arith) (omega arith) d v (omega arith))

pub dropped-done : (e : List ℕ) → get_or e 1024 0 + (get_or e 1025 0 + get_or e 1026 0) < 128 → (e₂ : List ℕ) → length e ≡ 1541 → e₂ ≡ counted_one e → sorted_of e₂ ≡ with_dropped (sorted_of e)
dropped-done e few e₂ long counted = rw counted (dropped-one e long (omega arith) (omega arith) (omega arith))
