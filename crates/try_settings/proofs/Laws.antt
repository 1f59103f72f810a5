-- Text of fixed width.
use Prim.Native.Nat.{ℕ, zero, suc, ◌+◌, ◌-◌, ◌*◌, ◌^◌, ◌<◌, ◌≤◌}
use native.Mathlib.Omega.{arith}
use native.Mathlib.Nat.{lt_of_lt_of_le}
use mathlib.Core.Path.{◌≡◌, refl, sym, ap, subst, ◌∙◌}
use mathlib.Core.List.{List, [], ◌∷◌, ◌++◌, append-nil, append_assoc}
use lib.Dec.{lit≤}
use lib.ListN.{length, get_or, take, drop, replicate, length-replicate}
use lib.Seq.{length-take-le, take_at}
use Rattle.print.specs.Text.{decimal, refused_word}
use Rattle.print.specs.Put.{Room, Put}
use Rattle.print.proofs.Decimal.{short}
use Rattle.print.proofs.Lengths.{number_short}
use Rattle.print.proofs.Putting.{nothing_put, same_length, then-put}
use Rattle.try_settings.specs.Text.{blanks, label_text, cell_text, row_text, refused_label, refusal_text, refusals_text}

pub blanks-long : (k : ℕ) → k ≤ 12 → length (blanks k) ≡ k
blanks-long k h = length-take-le k (replicate 12 32) (omega (arith, length-replicate {A = ℕ} 12 32))

pub number-long : (x : ℕ) → x < 2 ^ 64 → length (decimal x) ≤ 20
number-long x h = short x 19 (lt_of_lt_of_le h (lit≤ tt))

-- what was put first can be taken
pub text-taken : {out out' : List ℕ} {r : ℕ} {text : List ℕ} → Put out out' 0 text r → take r out' ≡ text
text-taken {out} {out'} {r} {text} p =
    let e : 0 + length text ≡ length text = omega arith in
    rw (p.stands, p.next, e) (take_at text (drop (length text) out) (length text) refl)

pub label-put : (out m out' label : List ℕ) (n at k r : ℕ) → length label ≤ 12 → k ≡ 12 - length label → Put out m n label at → Put m out' at (blanks k) r → Put out out' n (label_text label) r × (r ≤ n + 12)
label-put out m out' label n at k r h e p q =
    (subst (λ (i : ℕ). Put out out' n (label ++ blanks i) r) e (then-put p q), omega (arith, p.next, q.next, blanks-long k (omega arith)))

pub cell-put : (out m out' digits : List ℕ) (n x k left at r : ℕ) → k ≡ length (decimal x) → k ≤ 20 → left ≡ 12 - k → take k digits ≡ decimal x → Put out m n (blanks left) at → Put m out' at (take k digits) r
    → Put out out' n (cell_text x) r × (r ≤ n + 20)
cell-put out m out' digits n x k left at r e h l t p q =
    let z : left ≡ 12 - length (decimal x) = omega arith in
    let d : Put m out' at (decimal x) r = subst (λ (w : List ℕ). Put m out' at w r) t q in
    (subst (λ (i : ℕ). Put out out' n (blanks i ++ decimal x) r) z (then-put p d), omega (arith, p.next, d.next, blanks-long left (omega arith)))

pub number-few : (j : ℕ) → j < 256 → length (decimal j) ≤ 3
number-few j h = short j 2 (lt_of_lt_of_le h (lit≤ tt))

pub refused-long : (j : ℕ) → j < 256 → length (refused_label j) ≤ 12
refused-long j h = omega (arith, number-few j h)

module _ (one two : List ℕ) where
  -- one number more
  refusals-more : (i j : ℕ) → refusals_text one two i (suc j) ≡ refusals_text one two i j ++ refusal_text (i + j) (get_or one (7 + (i + j)) 0) (get_or two (7 + (i + j)) 0)
  unfolding refusals_text
  refusals-more i zero = let e : i ≡ i + 0 = omega arith in append-nil _ ∙ ap (λ (k : ℕ). refusal_text k (get_or one (7 + k) 0) (get_or two (7 + k) 0)) e
  refusals-more i (suc j) =
      let e : i + 1 + j ≡ i + suc j = omega arith in
      ap (λ (l : List ℕ). refusal_text i (get_or one (7 + i) 0) (get_or two (7 + i) 0) ++ l) (refusals-more (i + 1) j ∙ ap (λ (k : ℕ). refusals_text one two (i + 1) j ++ refusal_text k (get_or one (7 + k) 0) (get_or two (7 + k) 0)) e)
      ∙ sym (append_assoc (refusal_text i (get_or one (7 + i) 0) (get_or two (7 + i) 0)) (refusals_text one two (i + 1) j) (refusal_text (i + suc j) (get_or one (7 + (i + suc j)) 0) (get_or two (7 + (i + suc j)) 0)))

  -- the rows of the numbers below j are put
  pub record Refusing (out₀ : List ℕ) (n : ℕ) (out : List ℕ) (at j : ℕ) : Type 0 where
    pub put : Put out₀ out n (refusals_text one two 0 j) at
    pub low : at ≤ n + 53 * j

  pub refusing-start : (out : List ℕ) (n : ℕ) → n ≤ length out → Refusing out n out n 0
  unfolding refusals_text
  refusing-start out n h = record { put = nothing_put (record { fits = omega arith }); low = omega arith }

  pub refusing-step : (out₀ out out' : List ℕ) (n at j r : ℕ) → Refusing out₀ n out at j → Put out out' at (refusal_text j (get_or one (7 + j) 0) (get_or two (7 + j) 0)) r × (r ≤ at + 53)
      → Refusing out₀ n out' r (j + 1)
  refusing-step out₀ out out' n at j r g p =
      let e : suc j ≡ j + 1 = omega arith in
      let z : 0 + j ≡ j = omega arith in
      let m : refusals_text one two 0 (suc j) ≡ refusals_text one two 0 j ++ refusal_text j (get_or one (7 + j) 0) (get_or two (7 + j) 0) = refusals-more 0 j ∙ ap (λ (k : ℕ). refusals_text one two 0 j ++ refusal_text k (get_or one (7 + k) 0) (get_or two (7 + k) 0)) z in
      record {
        put = subst (λ (k : ℕ). Put out₀ out' n (refusals_text one two 0 k) r) e (subst (λ (l : List ℕ). Put out₀ out' n l r) (sym m) (then-put g.put p.0));
        low = omega (arith, g.low, p.1);
      }

  pub refusing-end : (out₀ out : List ℕ) (n at j : ℕ) → Refusing out₀ n out at j → j ≡ 256 → Put out₀ out n (refusals_text one two 0 256) at
  refusing-end out₀ out n at j g e = subst (λ (k : ℕ). Put out₀ out n (refusals_text one two 0 k) at) e g.put
