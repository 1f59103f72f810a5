-- A recorded text held against the one that was told.
use Prim.Native.Nat.{ℕ}
use mathlib.Core.Path.{◌≡◌, refl, ◌∙◌}
use mathlib.Core.Bool.{Bool, true, false}
use mathlib.Core.List.{List}
use native.Mathlib.Omega.{arith}
use borrow.Author.Tests.{leb-true, leb-false}
use lib.Dec.{leb}
use lib.ListN.{length, take}
use Rattle.answer.proofs.SomeLine.{some-printed}
use Rattle.answer_text.specs.Lines.{Printed}
use Rattle.records.specs.Bytes.{same_list}
use Rattle.records.specs.Told.{text_of}
use Rattle.records.proofs.Showing.{shown}
use Rattle.replay.specs.Replayed.{is_replayed}

module _ (kept : ℕ) (s text out out' : List ℕ) (n : ℕ) (t : Printed out out' (text_of kept s) n) (long : length out ≡ 65536) where
  -- no text is empty, so 0 says that there was no room
  pub not-told : n ≡ 0 → false ≡ is_replayed kept s text
  not-told z = go (leb (length (text_of kept s)) 65536) refl
    where
      go : (b : Bool) → leb (length (text_of kept s)) 65536 ≡ b → false ≡ is_replayed kept s text
      go false q = rw q refl
      go true q =
          let few = leb-true (length (text_of kept s)) 65536 q in
          absurd (omega (arith, z, some-printed kept s, (t.fits (omega (arith, few, long))).0))

  pub compared : (n ≡ 0 → ⊥) → (r : Bool) → r ≡ same_list text (take n out') → r ≡ is_replayed kept s text
  compared there r h = go (leb (length (text_of kept s)) 65536) refl
    where
      go : (b : Bool) → leb (length (text_of kept s)) 65536 ≡ b → r ≡ is_replayed kept s text
      go false q =
          let many = leb-false (length (text_of kept s)) 65536 q in
          absurd (there (t.short (omega (arith, many, long))).0)
      go true q = rw q (h ∙ rw (shown out out' (text_of kept s) n t there).1 refl)
