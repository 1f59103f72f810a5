-- Patches as numbers: one move more, and all of a patch.
use Prim.Native.Nat.{ℕ, zero, suc, ◌+◌, ◌-◌, ◌*◌, ◌%◌, ◌<◌, ◌≤◌}
use native.Mathlib.Omega.{arith}
use native.Mathlib.Nat.{mod-lt}
use mathlib.Core.Path.{◌≡◌, refl, sym, ap, ◌∙◌}
use mathlib.Core.List.{List, [], ◌∷◌, ◌++◌, append-nil}
use borrow.Author.Tests.{lt-ltb, le-ltb}
use lib.ListN.{length, set, take, length-set}
use lib.Seq.{length-take-le, append_snoc}
use Rattle.entity.specs.Place.{reg, slot, place_at}
use Rattle.entity.proofs.Laws.{place-there}
use Rattle.reginfo.specs.RegInfo.{RegInfo, num_regs}
use Rattle.reginfo.specs.Table.{reg_info_of}
use Rattle.reginfo.proofs.Accepted.{regs-fit}
use Rattle.function.specs.Function.{num_values}
use Rattle.function.specs.Known.{Checked}
use Rattle.function.specs.Table.{function_of}
use Rattle.function.proofs.Laws.{few-slots, few-values}
use Rattle.rules.specs.Patch.{Entry, move}
use Rattle.parallel_moves.specs.Given.{entry_of, entries_of}
use Rattle.draws.specs.Draws.{next}
use Rattle.trying.specs.Drawing.{Drawn, place_numbered, num_places, draw_moves, draw_patch}
use Rattle.trying.specs.Steps.{entries_in, MoveDrawn, PatchDrawn}

-- the counts of an accepted function
pub record Counts (t f : List ℕ) : Type 0 where
  pub some-regs : 1 ≤ num_regs (reg_info_of t)
  pub few-regs : num_regs (reg_info_of t) ≤ 512
  pub low-slots : (function_of f).slots ≤ 4096
  pub low_values : num_values (function_of f) ≤ 4096

pub counts_of : (t f : List ℕ) → Checked t f → Counts t f
counts_of t f k =
    let r = regs-fit (reg_info_of t) k.target in
    record { some-regs = r.0; few-regs = r.1; low-slots = few-slots (reg_info_of t) (function_of f) k.function; low_values = few-values (reg_info_of t) (function_of f) k.function }

pub register-drawn : (t : RegInfo) (i : ℕ) → i < num_regs t → place_at (i * 2 + 1) ≡ place_numbered t i
unfolding place_numbered
register-drawn t i h = rw (lt-ltb i (num_regs t) h) (place-there (reg i))

pub slot-drawn : (t : RegInfo) (i : ℕ) → num_regs t ≤ i → place_at ((i - num_regs t) * 2) ≡ place_numbered t i
unfolding place_numbered
slot-drawn t i h = rw (le-ltb i (num_regs t) h) (place-there (slot (i - num_regs t)))

-- a table keeps its length
pub two-set : (l : List ℕ) (i a j b : ℕ) → length (set (set l i a) j b) ≡ length l
two-set l i a j b = length-set (set l i a) j b ∙ length-set l i a

pub three-set : (l : List ℕ) (i a j b k c : ℕ) → length (set (set (set l i a) j b) k c) ≡ length l
three-set l i a j b k c = length-set (set (set l i a) j b) k c ∙ two-set l i a j b

four-set : (l : List ℕ) (i a j b k c m d : ℕ) → length (set (set (set (set l i a) j b) k c) m d) ≡ length l
four-set l i a j b k c m d = length-set (set (set (set l i a) j b) k c) m d ∙ three-set l i a j b k c

-- four numbers written behind the first n
four : (l : List ℕ) (n a b c d : ℕ) → n + 4 ≤ length l
    → take (suc (suc (suc (suc n)))) (set (set (set (set l n a) (suc n) b) (suc (suc n)) c) (suc (suc (suc n))) d) ≡ take n l ++ (a ∷ b ∷ c ∷ d ∷ [])
four [] n a b c d h = absurd (omega arith)
four (w ∷ []) zero a b c d h = absurd (omega arith)
four (w ∷ x ∷ []) zero a b c d h = absurd (omega arith)
four (w ∷ x ∷ y ∷ []) zero a b c d h = absurd (omega arith)
four (w ∷ x ∷ y ∷ z ∷ l) zero a b c d h = refl
four (w ∷ l) (suc n) a b c d h = ap (λ (m : List ℕ). w ∷ m) (four l n a b c d (omega arith))

-- an entry behind whole ones
one_more : (l : List ℕ) (n a b c : ℕ) → length l ≡ n * 4 → entries_of (l ++ (0 ∷ a ∷ b ∷ c ∷ [])) ≡ entries_of l ++ (move (place_at a) (place_at b) c ∷ [])
unfolding entries_of entry_of
one_more [] n a b c h = refl
one_more (w ∷ []) n a b c h = absurd (omega arith)
one_more (w ∷ x ∷ []) n a b c h = absurd (omega arith)
one_more (w ∷ x ∷ y ∷ []) n a b c h = absurd (omega arith)
one_more (w ∷ x ∷ y ∷ z ∷ l) zero a b c h = absurd (omega arith)
one_more (w ∷ x ∷ y ∷ z ∷ l) (suc n) a b c h = ap (λ (m : List Entry). entry_of w x y z ∷ m) (one_more l n a b c (omega arith))

pub entry-written : (l : List ℕ) (i a b c : ℕ) → i * 4 + 4 ≤ length l
    → entries_in (set (set (set (set l (i * 4) 0) (i * 4 + 1) a) (i * 4 + 2) b) (i * 4 + 3) c) (i + 1) ≡ entries_in l i ++ (move (place_at a) (place_at b) c ∷ [])
entry-written l i a b c h =
    let e1 : i * 4 + 1 ≡ suc (i * 4) = omega arith in
    let e2 : i * 4 + 2 ≡ suc (suc (i * 4)) = omega arith in
    let e3 : i * 4 + 3 ≡ suc (suc (suc (i * 4))) = omega arith in
    let e4 : (i + 1) * 4 ≡ suc (suc (suc (suc (i * 4)))) = omega arith in
    rw (e4, e1, e2, e3) (ap entries_of (four l (i * 4) 0 a b c h) ∙ one_more (take (i * 4) l) i a b c (length-take-le (i * 4) l (omega arith)))

-- a draw comes to one of at most 4,608 places
pub low-place : (t f : List ℕ) → Checked t f → (x r s : ℕ) → r ≡ num_regs (reg_info_of t) → s ≡ (function_of f).slots → x % (r + s) < 4608
low-place t f k x r s e g =
    let n = counts_of t f k in
    let h : x % (r + s) < r + s = mod-lt x (omega (arith, n.some-regs)) in
    omega (arith, n.few-regs, n.low-slots)

-- the four numbers of a drawn move
pub move-written : (t f l : List ℕ) (s i : ℕ) → length l ≡ 64 → i < 16 → (a b c x y z : ℕ) → a ≡ next s → b ≡ next a → c ≡ next b
    → place_at x ≡ place_numbered (reg_info_of t) (a % num_places (reg_info_of t) (function_of f))
    → place_at y ≡ place_numbered (reg_info_of t) (b % num_places (reg_info_of t) (function_of f))
    → z ≡ c % num_values (function_of f)
    → MoveDrawn t f s l i (set (set (set (set l (i * 4) 0) (i * 4 + 1) x) (i * 4 + 2) y) (i * 4 + 3) z) c
move-written t f l s i n h a b c x y z ea eb ec ex ey ez =
    record {
      seed-is = ec ∙ ap next (eb ∙ ap next ea);
      long = four-set l (i * 4) 0 (i * 4 + 1) x (i * 4 + 2) y (i * 4 + 3) z;
      are = entry-written l i x y z (omega arith) ∙ ap (λ (e : Entry). entries_in l i ++ (e ∷ [])) (rw (ex, ey, ez, ec, eb, ea));
    }

-- i moves are drawn and so many are left, of a patch that draws d in all
pub record Going (t f numbers : List ℕ) (s i left : ℕ) (d : Drawn) : Type 0 where
  pub entries : entries_in numbers i ++ (draw_moves (reg_info_of t) (function_of f) left s).entries ≡ d.entries
  pub seed : (draw_moves (reg_info_of t) (function_of f) left s).seed ≡ d.seed
  pub few : i + left ≤ 16
  pub long : length numbers ≡ 64

pub going_start : (t f numbers : List ℕ) (s left : ℕ) → left ≤ 16 → length numbers ≡ 64 → Going t f numbers s 0 left (draw_moves (reg_info_of t) (function_of f) left s)
unfolding entries_of
going_start t f numbers s left h n = record { entries = refl; seed = refl; few = omega arith; long = n }

pub going_step : (t f numbers : List ℕ) (s i left : ℕ) (d : Drawn) → Going t f numbers s i left d → 0 < left → (numbers' : List ℕ) (r : ℕ) → MoveDrawn t f s numbers i numbers' r
    → Going t f numbers' r (i + 1) (left - 1) d
unfolding draw_moves
going_step t f numbers s i zero d g h numbers' r m = absurd (omega arith)
going_step t f numbers s i (suc n) d g h numbers' r m =
    let e : suc n - 1 ≡ n = omega arith in
    record {
      entries =
          rw (e, m.seed-is, m.are)
          (append_snoc (entries_in numbers i) _ (draw_moves (reg_info_of t) (function_of f) n (next (next (next s)))).entries ∙ g.entries);
      seed = rw (e, m.seed-is) g.seed;
      few = omega (arith, g.few);
      long = m.long ∙ g.long;
    }

pub going_end : (t f numbers numbers₀ : List ℕ) (seed s i left first : ℕ) → first ≡ next seed
    → Going t f numbers s i left (draw_moves (reg_info_of t) (function_of f) (1 + first % 16) first) → left ≤ 0 → length numbers₀ ≡ 64
    → PatchDrawn t f seed numbers₀ numbers (record { count = i; seed = s })
unfolding draw_moves draw_patch
going_end t f numbers numbers₀ seed s i left first e g h n =
    let z : left ≡ 0 = omega arith in
    record {
      seed-is = rw (z, e) at g.seed;
      long = g.long ∙ sym n;
      few = omega (arith, g.few);
      are = sym (append-nil (entries_in numbers i)) ∙ (rw (z, e) at g.entries);
    }
