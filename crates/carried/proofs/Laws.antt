-- Laws of the rows.
use Prim.Native.Nat.{ℕ, zero, suc, ◌+◌, ◌-◌, ◌*◌, ◌<◌}
use mathlib.Core.Path.{◌≡◌, refl, sym, ap, ◌∙◌}
use mathlib.Core.Bool.{Bool, true, false}
use mathlib.Core.List.{List, [], ◌∷◌, ◌++◌, append-nil}
use native.Mathlib.Omega.{arith}
use lib.Dec.{eqb}
use lib.ListN.{get_or, set, length, length-set}
use lib.Seq.{get_or-set_same, get_or-set_other}
use borrow.Author.Tests.{eq-eqb, ne_eqb, eqb-true, eqb-false}
use Rattle.entity.specs.Logic.{pick, and, or, has}
use Rattle.carried.specs.Carried.{move_at, value_at, rows_of}

-- one row more, from the front
pub has-row : (t : List ℕ) (i n m v : ℕ) → 0 < n → has v (rows_of t i n m) ≡ or (and (eqb (move_at t i) m) (eqb v (value_at t i))) (has v (rows_of t (i + 1) (n - 1) m))
unfolding rows_of has
has-row t i n m v h = let l : n ≡ suc (n - 1) = omega arith in ap (λ (k : ℕ). has v (rows_of t i k m)) l ∙ go (eqb (move_at t i) m)
  where
    go : (b : Bool) → has v (pick b (value_at t i ∷ rows_of t (i + 1) (n - 1) m) (rows_of t (i + 1) (n - 1) m)) ≡ or (and b (eqb v (value_at t i))) (has v (rows_of t (i + 1) (n - 1) m))
    go true = refl
    go false = refl

-- one row more, at the end
pub rows_snoc : (t : List ℕ) (i n m : ℕ) → rows_of t i (suc n) m ≡ rows_of t i n m ++ pick (eqb (move_at t (i + n)) m) (value_at t (i + n) ∷ []) []
unfolding rows_of
rows_snoc t i zero m = ap (λ (k : ℕ). pick (eqb (move_at t k) m) (value_at t k ∷ []) []) (omega arith)
rows_snoc t i (suc n) m =
    ap (λ (l : List ℕ). pick (eqb (move_at t i) m) (value_at t i ∷ l) l) (rows_snoc t (i + 1) n m ∙ ap (λ (k : ℕ). rows_of t (i + 1) n m ++ pick (eqb (move_at t k) m) (value_at t k ∷ []) []) (omega arith))
    ∙ go (eqb (move_at t i) m)
  where
    go : (b : Bool) → pick b (value_at t i ∷ (rows_of t (i + 1) n m ++ pick (eqb (move_at t (i + suc n)) m) (value_at t (i + suc n) ∷ []) [])) (rows_of t (i + 1) n m ++ pick (eqb (move_at t (i + suc n)) m) (value_at t (i + suc n) ∷ []) [])
        ≡ pick b (value_at t i ∷ rows_of t (i + 1) n m) (rows_of t (i + 1) n m) ++ pick (eqb (move_at t (i + suc n)) m) (value_at t (i + suc n) ∷ []) []
    go true = refl
    go false = refl

-- rows that agree
pub rows_same : (t u : List ℕ) (i n m : ℕ) → ((k : ℕ) → k < (i + n) * 2 → get_or t k 0 ≡ get_or u k 0) → rows_of t i n m ≡ rows_of u i n m
unfolding rows_of
rows_same t u i zero m h = refl
rows_same t u i (suc n) m h =
    rw (h (i * 2) (omega arith), h (1 + i * 2) (omega arith), rows_same t u (i + 1) n m (λ k l. h k (omega arith)))

-- a row put behind the others
pub row-added : (t : List ℕ) (n m v x : ℕ) → length t ≡ 2049 → n < 1024 → rows_of (set (set (set t (n * 2) m) (1 + n * 2) v) 2048 (n + 1)) 0 (n + 1) x ≡ pick (eqb x m) (rows_of t 0 n m ++ (v ∷ [])) (rows_of t 0 n x)
row-added t n m v x e l =
    ap (λ (k : ℕ). rows_of u 0 k x) (omega arith) ∙ rows_snoc u 0 n x
    ∙ rw (rows_same u t 0 n x (λ k b. other k (omega arith)), at-move, at_value) (go (eqb m x) refl)
  where
    zero-add : (k : ℕ) → 0 + k ≡ k
    zero-add k = omega arith

    u : List ℕ
    u = set (set (set t (n * 2) m) (1 + n * 2) v) 2048 (n + 1)

    other : (k : ℕ) → k < n * 2 → get_or u k 0 ≡ get_or t k 0
    other k b =
        get_or-set_other (set (set t (n * 2) m) (1 + n * 2) v) 2048 k (n + 1) 0 (λ q. omega arith) ∙ get_or-set_other (set t (n * 2) m) (1 + n * 2) k v 0 (λ q. omega arith)
        ∙ get_or-set_other t (n * 2) k m 0 (λ q. omega arith)

    at-move : move_at u (0 + n) ≡ m
    at-move =
        ap (λ (k : ℕ). get_or u (k * 2) 0) (zero-add n) ∙ get_or-set_other (set (set t (n * 2) m) (1 + n * 2) v) 2048 (n * 2) (n + 1) 0 (λ q. omega arith)
        ∙ get_or-set_other (set t (n * 2) m) (1 + n * 2) (n * 2) v 0 (λ q. omega arith) ∙ get_or-set_same t (n * 2) m 0 (omega arith)

    at_value : value_at u (0 + n) ≡ v
    at_value =
        ap (λ (k : ℕ). get_or u (1 + k * 2) 0) (zero-add n) ∙ get_or-set_other (set (set t (n * 2) m) (1 + n * 2) v) 2048 (1 + n * 2) (n + 1) 0 (λ q. omega arith)
        ∙ get_or-set_same (set t (n * 2) m) (1 + n * 2) v 0 (simp length-set (omega arith))

    go : (b : Bool) → eqb m x ≡ b → rows_of t 0 n x ++ pick (eqb m x) (v ∷ []) [] ≡ pick (eqb x m) (rows_of t 0 n m ++ (v ∷ [])) (rows_of t 0 n x)
    go true q = let z : m ≡ x = eqb-true m x q in rw (q, eq-eqb x m (sym z), z)
    go false q = rw (q, ne_eqb x m (λ z. eqb-false m x q (sym z)), append-nil)
