-- What words cost: bounds, and one word more.
use Prim.Native.Nat.{ℕ, zero, suc, ◌+◌, ◌*◌, ◌^◌, ◌<◌, ◌≤◌}
use native.Mathlib.Nat.{lt_of_le_of_lt}
use native.Mathlib.Omega.{arith}
use native.Mathlib.Numerals.{add-one}
use mathlib.Core.Path.{◌≡◌, refl}
use mathlib.Core.Bool.{Bool, true, false}
use mathlib.Core.List.{List, [], ◌∷◌, map}
use lib.Dec.{eqb, leb, lit≤}
use lib.ListN.{length, get_or, drop, length-map}
use lib.Seq.{drop-cons}
use borrow.Author.Tests.{leb-true}
use Rattle.entity.specs.Logic.{pick}
use Rattle.entity.specs.Place.{code_of, reg, slot}
use Rattle.entity.proofs.Laws.{and-true}
use Rattle.rules.specs.Edit.{Edit, Move, Rematerialize, EmergencySpill, EmergencyReload}
use Rattle.edit.specs.Word.{kind_in, packed, word_of}
use Rattle.price.specs.declared.Prices.{Prices}
use Rattle.price.specs.Price.{in_range, price_of, price_in, total_of}
use Rattle.price.specs.Totals.{added, WordsCost}
use Rattle.price.proofs.Totals.{out}

picked : (b : Bool) (x y n : ℕ) → x ≤ n → y ≤ n → pick b x y ≤ n
picked true x y n h g = h
picked false x y n h g = g

pub record Below (p : Prices) : Type 0 where
  pub moves : p.moves ≤ 65535
  pub remats : p.remats ≤ 65535
  pub spills : p.spills ≤ 65535
  pub reloads : p.reloads ≤ 65535

pub in-range : (p : Prices) → in_range p ≡ true → Below p
unfolding in_range
in-range p h =
    let a = and-true (leb p.moves 65535) _ h in
    let b = and-true (leb p.remats 65535) _ a.1 in
    let c = and-true (leb p.spills 65535) _ b.1 in
    record { moves = leb-true _ _ a.0; remats = leb-true _ _ b.0; spills = leb-true _ _ c.0; reloads = leb-true _ _ c.1 }

pub price-small : (p : Prices) (w : ℕ) → in_range p ≡ true → price_in p w ≤ 65535
unfolding price_in
price-small p w h =
    let b = in-range p h in
    picked (eqb (kind_in w) 1) p.moves _ 65535 b.moves
    (picked (eqb (kind_in w) 2) p.remats _ 65535 b.remats
    (picked (eqb (kind_in w) 3) p.spills _ 65535 b.spills
    (picked (eqb (kind_in w) 4) p.reloads 0 65535 b.reloads (omega arith))))

-- the sum so far and what is to come
pub one_more : (p : Prices) (l : List ℕ) (i : ℕ) → i < length l → total_of p (drop i l) ≡ price_in p (get_or l i 0) + total_of p (drop (i + 1) l)
unfolding total_of
one_more p l i h = rw (add-one, drop-cons l i 0)

pub none_left : (p : Prices) (l : List ℕ) (i : ℕ) → length l ≤ i → total_of p (drop i l) ≡ 0
unfolding total_of
none_left p [] i h = go i
  where
    go : (i : ℕ) → total_of p (drop i []) ≡ 0
    go zero = refl
    go (suc i) = refl
none_left p (x ∷ l) zero h = absurd (omega arith)
none_left p (x ∷ l) (suc i) h = none_left p l i (omega arith)

-- so many words cost at most so much
pub total-most : (p : Prices) → in_range p ≡ true → (l : List ℕ) → total_of p l ≤ 65535 * length l
unfolding total_of
total-most p h [] = omega arith
total-most p h (w ∷ l) = omega (arith, price-small p w h, total-most p h l)

-- 1,024 × 65,535 = 67,107,840
pub total-few : (p : Prices) → in_range p ≡ true → (l : List ℕ) → length l ≤ 1024 → total_of p l < 2 ^ 26
total-few p h l n = lt_of_le_of_lt (let m : total_of p l ≤ 67107840 = omega (arith, total-most p h l) in m) (lit≤ tt)

-- an edit's word has its kind
kind : (k to from v : ℕ) → k < 8 → kind_in (packed k to from v) ≡ k
kind k to from v h = omega arith

word-price : (p : Prices) (e : Edit) → price_in p (word_of e) ≡ price_of p e
unfolding price_in
word-price p (Move to from v) = rw (kind 1 (code_of to) (code_of from) v (omega arith))
word-price p (Rematerialize to v) = rw (kind 2 (code_of to) 0 v (omega arith))
word-price p (EmergencySpill s r) = rw (kind 3 (code_of (slot s)) (code_of (reg r)) 0 (omega arith))
word-price p (EmergencyReload r s) = rw (kind 4 (code_of (reg r)) (code_of (slot s)) 0 (omega arith))

pub words-cost : WordsCost
unfolding total_of added
words-cost p [] = refl
words-cost p (e ∷ es) = rw (word-price p e, words-cost p es) (let g = out (price_of p) (0 + price_of p e) es in omega (arith, g))

-- so of edits
pub edits-few : (p : Prices) → in_range p ≡ true → (es : List Edit) → length es ≤ 1024 → added (price_of p) 0 es < 2 ^ 26
edits-few p h es n = let l : length (map word_of es) ≤ 1024 = rw (length-map es word_of) n in rw (words-cost p es) at (total-few p h (map word_of es) l)
