-- The text of a job has room in 131,072 bytes.
use Prim.Native.Nat.{ℕ, zero, suc, ◌+◌, ◌*◌, ◌^◌, ◌<◌, ◌≤◌}
use native.Mathlib.Nat.{lt_of_lt_of_le}
use mathlib.Core.Path.{◌≡◌, refl, sym, ap, ◌∙◌}
use mathlib.Core.Bool.{Bool, true, false}
use mathlib.Core.List.{List, [], ◌∷◌, ◌++◌}
use native.Mathlib.Omega.{arith}
use lib.Dec.{ltb, leb, lit≤}
use lib.ListN.{length, get_or, length-append}
use borrow.Author.Tests.{ltb-true}
use Rattle.entity.specs.Logic.{pick}
use Rattle.price.specs.declared.Prices.{Prices}
use Rattle.price.specs.Price.{in_range, total_of}
use Rattle.price.proofs.Laws.{total-few}
use Rattle.price.proofs.Floats.{below}
use Rattle.print.specs.Text.{decimal, newline, spaced, edits_word, refused_line}
use Rattle.print.proofs.Decimal.{short}
use Rattle.print.proofs.Lengths.{number_short, refused-short}
use Rattle.answer_text.specs.Lines.{refusal_text}
use Rattle.price_text.specs.Lines.{total_word, product_word, total_text, runs_text, line_end, stopped, edge_text, edges_text}
use Rattle.price_text.proofs.Laws.{in-its-range}
use Rattle.price_job.proofs.Done.{AllFew}

total-short : (k count total : ℕ) → k < 4294967296 → count < 4294967296 → total < 4294967296 → length (total_text k count total) ≤ 50
total-short k count total a b c =
    let rest₂ : List ℕ = spaced total_word (32 ∷ decimal total) in
    let rest₁ : List ℕ = spaced edits_word (spaced (decimal count) rest₂) in
    rw (length-append (decimal k) rest₁, length-append (decimal count) rest₂)
    (omega (arith, number_short k a, number_short count b, number_short total c))

runs-short : (runs product : ℕ) → runs < 4294967296 → product < 2 ^ 53 → length (runs_text runs product) ≤ 45
runs-short runs product a b =
    let rest : List ℕ = spaced product_word (spaced (decimal product) newline) in
    rw (length-append (decimal runs) rest, length-append (decimal product) newline)
    (omega (arith, number_short runs a, short product 16 (lt_of_lt_of_le b (lit≤ tt))))

refusal-short : (k : ℕ) → k < 256 → length (refusal_text k) ≤ 19
refusal-short zero h = omega arith
refusal-short (suc k) h = refused-short (suc k) (omega arith)

module _ (p : Prices) (ok : in_range p ≡ true) (runs : List ℕ) where
  end_short : (i total : ℕ) → total < 2 ^ 26 → stopped runs i ≡ false → length (line_end runs i total) ≤ 45
  end_short i total a b = go (ltb i (length runs)) refl
    where
      go : (g : Bool) → ltb i (length runs) ≡ g → length (pick g (runs_text (get_or runs i 0) (get_or runs i 0 * total)) newline) ≤ 45
      go true e = let r = in-its-range runs i (ltb-true i (length runs) e) b in runs-short (get_or runs i 0) (get_or runs i 0 * total) (omega (arith, r)) (below r a)
      go false e = omega arith

  line-short : (i : ℕ) (l : List ℕ) → i ≤ 1024 → length l ≤ 1024 → stopped runs i ≡ false → length (edge_text p runs i l) ≤ 95
  line-short i l a b s =
      let t = total-few p ok l b in
      omega (arith, length-append (total_text (i + 1) (length l) (total_of p l)) (line_end runs i (total_of p l)), total-short (i + 1) (length l) (total_of p l) (omega arith) (omega arith) (omega (arith, t)), end_short i (total_of p l) t s)

  pub text-short : (i : ℕ) (ls : List (List ℕ)) (k : ℕ) → i + length ls ≤ 1024 → AllFew ls → k < 256 → length (edges_text p runs i ls k) ≤ 95 * length ls + 19
  unfolding edges_text
  text-short i [] k a b c = omega (arith, refusal-short k c)
  text-short i (l ∷ ls) k a b c = go (stopped runs i) refl (text-short (i + 1) ls k (omega arith) b.1 c)
    where
      go : (g : Bool) → stopped runs i ≡ g → length (edges_text p runs (i + 1) ls k) ≤ 95 * length ls + 19
          → length (pick g (refused_line 19) (edge_text p runs i l ++ edges_text p runs (i + 1) ls k)) ≤ 95 * suc (length ls) + 19
      go true e on = omega (arith, refused-short 19 (omega arith))
      go false e on =
          omega (arith, length-append (edge_text p runs i l) (edges_text p runs (i + 1) ls k), line-short i l (omega arith) b.0 e, on)
