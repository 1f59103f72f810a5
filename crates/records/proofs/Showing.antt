-- A text that was printed: it stands at the front of the lent bytes.
use Prim.Native.Nat.{ℕ, ◌≤◌}
use mathlib.Core.Path.{◌≡◌, refl}
use mathlib.Core.Bool.{Bool, true, false}
use mathlib.Core.List.{List}
use native.Mathlib.Omega.{arith}
use borrow.Author.Tests.{ltb-true, ltb-false}
use lib.Dec.{ltb}
use lib.ListN.{length, take, drop}
use lib.Seq.{take_at}
use Rattle.answer_text.specs.Lines.{Printed}

pub shown : (out out' text : List ℕ) (n : ℕ) → Printed out out' text n → (n ≡ 0 → ⊥) → (n ≤ length out) × (take n out' ≡ text)
shown out out' text n p there = go (ltb (length out) (length text)) refl
  where
    go : (b : Bool) → ltb (length out) (length text) ≡ b → (n ≤ length out) × (take n out' ≡ text)
    go true h = absurd (there (p.short (ltb-true _ _ h)).0)
    go false h =
        let few : length text ≤ length out = ltb-false _ _ h in
        let f = p.fits few in
        (omega (arith, few, f.0), rw (f.1, f.0) (take_at text (drop (length text) out) (length text) refl))
