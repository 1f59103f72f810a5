-- A cache's stacks copied, and words put in front of a list.
use Prim.Native.Nat.{ℕ, zero, suc, ◌+◌, ◌*◌, ◌<◌, ◌≤◌}
use mathlib.Core.Path.{◌≡◌, refl, ap, ◌∙◌, fun_ext}
use mathlib.Core.Bool.{Bool, true, false}
use mathlib.Core.List.{List, [], ◌∷◌, ◌++◌}
use mathlib.Core.Logic.{◌⊎◌, inl, inr}
use native.Mathlib.Omega.{arith}
use lib.Dec.{eqb, ltb}
use lib.ListN.{length, get_or, set, take, drop, length-set}
use lib.Seq.{get_or-set_same, get_or-set_other}
use borrow.Author.Tests.{eqb-true, eqb-false, ltb-true}
use Rattle.entity.specs.Logic.{pick}
use Rattle.slots.specs.Stacks.{top_first, depth_of, cache_of, stamp_of, CacheFits}
use Rattle.slots.proofs.Laws.{top-same}
use Rattle.grouping.specs.Copied.{StackCopied, StacksCopied, Written}

-- ---- one stack: the first i of its slots are copied
pub record Copying (from to₀ to : List ℕ) (z i : ℕ) : Type 0 where
  pub long : length to ≡ 65600
  pub cells : (j : ℕ) → j < i → get_or to (64 + z * 2048 + j) 0 ≡ get_or from (64 + z * 2048 + j) 0
  pub others : (x : ℕ) → (x < 64 + z * 2048) ⊎ (64 + z * 2048 + i ≤ x) → get_or to x 0 ≡ get_or to₀ x 0

pub copying-start : (from to : List ℕ) (z : ℕ) → length to ≡ 65600 → Copying from to to z 0
copying-start from to z n = record { long = n; cells = λ j h. absurd (omega arith); others = λ x h. refl }

pub copying-more : (from to₀ to : List ℕ) (z i x : ℕ) → z < 32 → i < 2048 → x ≡ get_or from (64 + z * 2048 + i) 0 → Copying from to₀ to z i → Copying from to₀ (set to (64 + z * 2048 + i) x) z (i + 1)
copying-more from to₀ to z i x zl il e r =
    record {
      long = simp length-set r.long;
      cells = λ j h. cells j h (eqb j i) refl;
      others = others;
    }
  where
    at : ℕ
    at = 64 + z * 2048 + i

    cells : (j : ℕ) → j < i + 1 → (c : Bool) → eqb j i ≡ c → get_or (set to (64 + z * 2048 + i) x) (64 + z * 2048 + j) 0 ≡ get_or from (64 + z * 2048 + j) 0
    cells j h true q = rw (eqb-true j i q) (get_or-set_same to (64 + z * 2048 + i) x 0 (omega (arith, r.long)) ∙ e)
    cells j h false q =
        let n : j ≡ i → ⊥ = eqb-false j i q in
        get_or-set_other to (64 + z * 2048 + i) (64 + z * 2048 + j) x 0 (λ y. n (omega arith)) ∙ r.cells j (omega arith)

    others : (y : ℕ) → (y < 64 + z * 2048) ⊎ (64 + z * 2048 + (i + 1) ≤ y) → get_or (set to (64 + z * 2048 + i) x) y 0 ≡ get_or to₀ y 0
    others y (inl h) = get_or-set_other to (64 + z * 2048 + i) y x 0 (λ q. omega arith) ∙ r.others y (inl h)
    others y (inr h) = get_or-set_other to (64 + z * 2048 + i) y x 0 (λ q. omega arith) ∙ r.others y (inr (omega arith))

pub copied : (from to₀ to : List ℕ) (z i x : ℕ) → z < 32 → i ≡ depth_of from z → i ≤ 2048 → x ≡ i → Copying from to₀ to z i → StackCopied from to₀ (set to z x) z
copied from to₀ to z i x zl e few xe r =
    record {
      depth = get_or-set_same to z x 0 (omega (arith, r.long)) ∙ xe ∙ e;
      cells = λ j h. get_or-set_other to z (64 + z * 2048 + j) x 0 (λ q. omega arith) ∙ r.cells j (omega arith);
      others = λ y h. get_or-set_other to z y x 0 h.0 ∙ r.others y (far y h.1);
    }
  where
    far : (y : ℕ) → (y < 64 + z * 2048) ⊎ (64 + z * 2048 + 2048 ≤ y) → (y < 64 + z * 2048) ⊎ (64 + z * 2048 + i ≤ y)
    far y (inl h) = inl h
    far y (inr h) = inr (omega arith)

-- ---- all stacks: those before z are copied
pub record Copies (from to₀ to : List ℕ) (z : ℕ) : Type 0 where
  pub depths : (y : ℕ) → y < z → depth_of to y ≡ depth_of from y
  pub cells : (y j : ℕ) → y < z → j < depth_of from y → get_or to (64 + y * 2048 + j) 0 ≡ get_or from (64 + y * 2048 + j) 0
  pub rest : (x : ℕ) → 32 ≤ x → x < 64 → get_or to x 0 ≡ get_or to₀ x 0

pub copies-start : (from to : List ℕ) → Copies from to to 0
copies-start from to = record { depths = λ y h. absurd (omega arith); cells = λ y j h. absurd (omega arith); rest = λ x a b. refl }

module _ (from to₀ : List ℕ) (fits : CacheFits from) where
  pub copies-more : (to to' : List ℕ) (z : ℕ) → z < 32 → StackCopied from to to' z → Copies from to₀ to z → Copies from to₀ to' (z + 1)
  copies-more to to' z zl s r =
      record {
        depths = λ y h. depth y h (eqb y z) refl;
        cells = λ y j h k. cell y j h k (eqb y z) refl;
        rest = λ x a b. s.others x ((λ q. omega arith), inl (omega arith)) ∙ r.rest x a b;
      }
    where
      depth : (y : ℕ) → y < z + 1 → (c : Bool) → eqb y z ≡ c → depth_of to' y ≡ depth_of from y
      depth y h true q = rw (eqb-true y z q) s.depth
      depth y h false q = let n : y ≡ z → ⊥ = eqb-false y z q in s.others y (n, inl (omega arith)) ∙ r.depths y (omega arith)

      cell : (y j : ℕ) → y < z + 1 → j < depth_of from y → (c : Bool) → eqb y z ≡ c → get_or to' (64 + y * 2048 + j) 0 ≡ get_or from (64 + y * 2048 + j) 0
      cell y j h k true q = let e : y ≡ z = eqb-true y z q in rw e (s.cells j (rw e at k))
      cell y j h k false q =
          let n : y ≡ z → ⊥ = eqb-false y z q in
          let d = fits.deep y (omega arith) in
          s.others (64 + y * 2048 + j) ((λ w. omega arith), inl (omega arith)) ∙ r.cells y j (omega arith) k

  pub copies-end : (to : List ℕ) → Copies from to₀ to 32 → StacksCopied from to₀ to
  unfolding cache_of stamp_of
  copies-end to r =
      record {
        stacks = fun_ext (λ z. go z (ltb z 32) refl);
        fits = record { deep = λ z h. rw (r.depths z h) (fits.deep z h) };
        stamp = rw (r.rest 33 (omega arith) (omega arith), r.rest 34 (omega arith) (omega arith), r.rest 35 (omega arith) (omega arith), r.rest 36 (omega arith) (omega arith));
      }
    where
      go : (z : ℕ) (b : Bool) → ltb z 32 ≡ b → pick b (top_first to (64 + z * 2048) (depth_of to z)) [] ≡ pick b (top_first from (64 + z * 2048) (depth_of from z)) []
      go z true e = let h = ltb-true z 32 e in ap (top_first to (64 + z * 2048)) (r.depths z h) ∙ top-same to from (64 + z * 2048) (depth_of from z) (λ j k. r.cells z j h k)
      go z false e = refl

-- ---- words
over-set : (a b : List ℕ) (i : ℕ) → i < length a → i < length b → set (take i a ++ drop i b) i (get_or a i 0) ≡ take (suc i) a ++ drop (suc i) b
over-set [] b i h k = absurd (omega arith)
over-set (x ∷ a) [] i h k = absurd (omega arith)
over-set (x ∷ a) (y ∷ b) zero h k = refl
over-set (x ∷ a) (y ∷ b) (suc i) h k = ap (λ (l : List ℕ). x ∷ l) (over-set a b i (omega arith) (omega arith))

pub written-more : (words list₀ list : List ℕ) (i x : ℕ) → i < length words → i < length list₀ → x ≡ get_or words i 0 → Written words i list₀ list → Written words (i + 1) list₀ (set list i x)
written-more words list₀ list i x a b e r =
    let n : i + 1 ≡ suc i = omega arith in
    rw (r, e, n) (over-set words list₀ i a b)
