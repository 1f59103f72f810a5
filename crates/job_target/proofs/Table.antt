-- Cells that are written, and what the other cells keep.
use Prim.Native.Nat.{ℕ, zero, suc, ◌+◌, ◌*◌, ◌<◌, ◌≤◌}
use mathlib.Core.Path.{◌≡◌, refl, ◌∙◌}
use mathlib.Core.List.{List, [], ◌∷◌, ◌++◌}
use native.Mathlib.Omega.{arith}
use lib.ListN.{get_or, set, length}
use lib.Seq.{get_or-set_same, get_or-set_other}
use Rattle.entity.specs.Logic.{cells}
use Rattle.reginfo.specs.Table.{bank_at, reg_at}
use Rattle.job_target.specs.Steps.{Put, Keeps}

pub written : (t : List ℕ) (at x : ℕ) → length t ≡ 107520 → at < 107520 → Put t (set t at x) at x
written t at x e h = record { here = get_or-set_same t at x 0 (omega arith); other = λ k d. get_or-set_other t at k x 0 d }

-- ---- what is kept
pub keeps_same : (t : List ℕ) (low n : ℕ) → Keeps t t low n
keeps_same t low n = record { before = λ k l. refl; after = λ k l. refl }

pub keeps-put : (t t' : List ℕ) (at x low n : ℕ) → Put t t' at x → low ≤ at → at < low + n → Keeps t t' low n
keeps-put t t' at x low n p a b = record { before = λ k l. p.other k (λ e. omega arith); after = λ k l. p.other k (λ e. omega arith) }

pub keeps_then : (t u v : List ℕ) (low n : ℕ) → Keeps t u low n → Keeps u v low n → Keeps t v low n
keeps_then t u v low n f g = record { before = λ k l. g.before k l ∙ f.before k l; after = λ k l. g.after k l ∙ f.after k l }

pub keeps-more : (t t' : List ℕ) (low n low' n' : ℕ) → low' ≤ low → low + n ≤ low' + n' → Keeps t t' low n → Keeps t t' low' n'
keeps-more t t' low n low' n' a b f = record { before = λ k l. f.before k (omega arith); after = λ k l. f.after k (omega arith) }

-- cells that are kept, and one cell more
pub cells_same : (t u : List ℕ) (at n : ℕ) → ((k : ℕ) → at ≤ k → k < at + n → get_or u k 0 ≡ get_or t k 0) → cells u at n ≡ cells t at n
unfolding cells
cells_same t u at zero h = refl
cells_same t u at (suc n) h = rw (h at (omega arith) (omega arith), cells_same t u (at + 1) n (λ k a b. h k (omega arith) (omega arith)))

pub cells-more : (t u : List ℕ) (at n x : ℕ) → Put t u (at + n) x → cells u at (n + 1) ≡ cells t at n ++ (x ∷ [])
unfolding cells
cells-more t u at n x p = let e : n + 1 ≡ suc n = omega arith in rw e (snoc at n ∙ rw (cells_same t u at n (λ k a b. p.other k (λ e. omega arith)), p.here))
  where
    snoc : (at n : ℕ) → cells u at (suc n) ≡ cells u at n ++ (get_or u (at + n) 0 ∷ [])
    snoc at zero = let e : at + 0 ≡ at = omega arith in rw e
    snoc at (suc n) = let e : at + 1 + n ≡ at + suc n = omega arith in rw (snoc (at + 1) n, e)

-- ---- a bank's cells
pub bank-put : (t u v w : List ℕ) (b x y z : ℕ) → Put t u (8704 + b * 4) x → Put u v (8705 + b * 4) y → Put v w (8706 + b * 4) z
    → (bank_at w b ≡ record { size = x; top = y; stack = z }) × Keeps t w (8704 + b * 4) 4
unfolding bank_at
bank-put t u v w b x y z p q r =
    let one = keeps-put t u (8704 + b * 4) x (8704 + b * 4) 4 p (omega arith) (omega arith) in
    let two = keeps-put u v (8705 + b * 4) y (8704 + b * 4) 4 q (omega arith) (omega arith) in
    let three = keeps-put v w (8706 + b * 4) z (8704 + b * 4) 4 r (omega arith) (omega arith) in
    let size : get_or w (8704 + b * 4) 0 ≡ x = r.other (8704 + b * 4) (λ e. omega arith) ∙ q.other (8704 + b * 4) (λ e. omega arith) ∙ p.here in
    let top : get_or w (8705 + b * 4) 0 ≡ y = r.other (8705 + b * 4) (λ e. omega arith) ∙ q.here in
    (rw (size, top, r.here), keeps_then t v w (8704 + b * 4) 4 (keeps_then t u v (8704 + b * 4) 4 one two) three)

pub bank-kept : (t u : List ℕ) (b c : ℕ) → Keeps t u (8704 + b * 4) 4 → c < b → bank_at u c ≡ bank_at t c
unfolding bank_at
bank-kept t u b c f h = rw (f.before (8704 + c * 4) (omega arith), f.before (8705 + c * 4) (omega arith), f.before (8706 + c * 4) (omega arith))

-- ---- a register's cells
pub reg-put : (t u v w : List ℕ) (r x y z : ℕ) → Put t u (r * 16) x → Put u v (1 + r * 16) y → Put v w (2 + r * 16) z
    → (get_or w (r * 16) 0 ≡ x) × (get_or w (1 + r * 16) 0 ≡ y) × (get_or w (2 + r * 16) 0 ≡ z) × Keeps t w (r * 16) 3
reg-put t u v w r x y z p q s =
    let one = keeps-put t u (r * 16) x (r * 16) 3 p (omega arith) (omega arith) in
    let two = keeps-put u v (1 + r * 16) y (r * 16) 3 q (omega arith) (omega arith) in
    let three = keeps-put v w (2 + r * 16) z (r * 16) 3 s (omega arith) (omega arith) in (
      s.other (r * 16) (λ e. omega arith) ∙ q.other (r * 16) (λ e. omega arith) ∙ p.here,
      s.other (1 + r * 16) (λ e. omega arith) ∙ q.here,
      s.here,
      keeps_then t v w (r * 16) 3 (keeps_then t u v (r * 16) 3 one two) three,
    )

pub reg-kept : (t u : List ℕ) (r q : ℕ) → Keeps t u (r * 16) 16 → get_or t (2 + q * 16) 0 ≤ 8 → q < r → reg_at u q ≡ reg_at t q
unfolding reg_at
reg-kept t u r q f few h =
    rw (f.before (q * 16) (omega arith), f.before (1 + q * 16) (omega arith), f.before (2 + q * 16) (omega arith), cells_same t u (8 + q * 16) (get_or t (2 + q * 16) 0) (λ k a b. f.before k (omega arith)))
