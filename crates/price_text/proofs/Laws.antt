-- Run counts, and the edges written one after the other.
use Prim.Native.Nat.{ℕ, ◌+◌, ◌^◌, ◌<◌, ◌≤◌}
use mathlib.Core.Path.{◌≡◌, refl, sym, ◌∙◌}
use mathlib.Core.Bool.{true, false}
use mathlib.Core.List.{List, [], ◌++◌, append_assoc}
use mathlib.Core.Option.{none, some}
use native.Mathlib.Omega.{arith}
use lib.ListN.{length, take, drop, get_or}
use borrow.Author.Tests.{lt-ltb, leb-false}
use Rattle.price.specs.declared.Prices.{Prices}
use Rattle.print.specs.Text.{refused_line}
use Rattle.print.specs.Put.{Room, Put}
use Rattle.print.proofs.Putting.{nothing_put, front-room, next-room, then-put}
use Rattle.answer_text.specs.Lines.{refusal_text}
use Rattle.edges.specs.Patches.{headed, patches_of}
use Rattle.edges.proofs.Laws.{none-begins, one_more, head-fits}
use Rattle.price_text.specs.Lines.{stopped, edge_text, edges_text}

pub in-its-range : (runs : List ℕ) (i : ℕ) → i < length runs → stopped runs i ≡ false → get_or runs i 0 < 2 ^ 26
in-its-range runs i h e = leb-false (2 ^ 26) (get_or runs i 0) (rw (lt-ltb i (length runs) h) at e)

module _ (out₀ : List ℕ) (p : Prices) (runs words : List ℕ) (refusal : ℕ) where
  -- what is still to be written, from the edge i on, whose head stands at an offset
  abbrev rest : ℕ → ℕ → List ℕ
  rest i at = edges_text p runs i (patches_of (drop at words)) refusal

  -- the lines before it stand in the bytes
  pub record Listed (out : List ℕ) (n i at : ℕ) : Type 0 where
    pub done : List ℕ
    pub put : Put out₀ out 0 done n
    pub whole : rest 0 0 ≡ done ++ rest i at
    pub counted : i ≤ at
    pub within : at ≤ length words

  pub none-listed : Room out₀ 0 (rest 0 0) → Listed out₀ 0 0 0
  none-listed h = record { done = []; put = nothing_put (record { fits = omega (arith, h.fits) }); whole = refl; counted = omega arith; within = omega arith }

  module _ (fits : Room out₀ 0 (rest 0 0)) (out : List ℕ) (n i at : ℕ) (l : Listed out n i at) where
    -- there is room for the rest, and with it the whole text stands
    rest-room : Room out n (rest i at)
    rest-room = next-room l.put (rw l.whole at fits)

    pub ending-room : (x : List ℕ) → rest i at ≡ x → Room out n x
    ending-room x e = rw e at rest-room

    pub ending : (x out' : List ℕ) (r : ℕ) → rest i at ≡ x → Put out out' n x r → Put out₀ out' 0 (rest 0 0) r
    ending x out' r e q = rw (l.whole, e) (then-put l.put q)

    -- no patch is left
    pub none_left : headed (drop at words) ≡ none → rest i at ≡ refusal_text refusal
    unfolding edges_text
    none_left h = rw (none-begins (drop at words) h)

    module _ (c : ℕ) (h : headed (drop at words) ≡ some c) where
      abbrev line : List ℕ
      line = edge_text p runs i (take c (drop (at + 1) words))

      pub stopped-here : stopped runs i ≡ true → rest i at ≡ refused_line 19
      unfolding edges_text
      stopped-here s = rw (one_more words at c h, s)

      goes_on : stopped runs i ≡ false → rest i at ≡ line ++ rest (i + 1) (at + (1 + c))
      unfolding edges_text
      goes_on s = rw (one_more words at c h, s)

      pub line-room : stopped runs i ≡ false → Room out n line
      line-room s = front-room (rest (i + 1) (at + (1 + c))) (rw (goes_on s) at rest-room)

      pub one-listed : (out' : List ℕ) (m : ℕ) → stopped runs i ≡ false → Put out out' n line m → Listed out' m (i + 1) (at + (1 + c))
      one-listed out' m s q =
          record {
            done = l.done ++ line;
            put = then-put l.put q;
            whole = l.whole ∙ rw (goes_on s) (sym (append_assoc l.done line (rest (i + 1) (at + (1 + c)))));
            counted = omega (arith, l.counted);
            within = omega (arith, (head-fits words at c h).1);
          }
