-- The loop that writes a job's text comes to an end, and what the writer has got follows piece on piece.
use Prim.Native.Nat.{ℕ, ◌+◌, ◌-◌, ◌*◌, ◌<◌, ◌≤◌}
use mathlib.Core.Path.{◌≡◌, refl, sym, ap, subst, ◌∙◌}
use mathlib.Core.Bool.{Bool, true, false, not}
use mathlib.Core.List.{List, ◌++◌}
use native.Mathlib.Omega.{arith}
use lib.ListN.{length, take, drop, length-drop}
use lib.Seq.{length-take-le, take-length, take-take, drop-drop, take-add}
use Rattle.std.specs.Prelude.{Option}
use Rattle.std.specs.Io.KnownBytes.{Appends}
use Rattle.std.proofs.KnownBytes.{Appends-trans}
use Rattle.streams.specs.Moving.{WroteSome}

pub less : (a b n m : ℕ) → a < b → n ≤ 86016 → a * 86017 + n < b * 86017 + m
less a b n m h q = omega arith

pub not_yet : (b : Bool) → not b ≡ true → b ≡ false
not_yet true h = sym h
not_yet false h = refl

pub by-now : (b : Bool) → not b ≡ false → b ≡ true
by-now true h = refl
by-now false h = sym h

-- of a text from the byte a on, w bytes were written when this began with its first byte
abbrev pub part : (a w : ℕ) → List ℕ → List ℕ
part a w l = take (w - a) (drop a l)

-- k bytes more
pub part-more : (a w k : ℕ) (l : List ℕ) → a ≤ w → part a w l ++ take k (drop w l) ≡ part a (w + k) l
part-more a w k l h =
    let at : a + (w - a) ≡ w = omega arith in
    let more : w - a + k ≡ w + k - a = omega arith in
    ap (λ (r : List ℕ). part a w l ++ take k r) (ap (λ (n : ℕ). drop n l) (sym at) ∙ sym (drop-drop (w - a) a l))
    ∙ sym (take-add (w - a) k (drop a l)) ∙ ap (λ (n : ℕ). take n (drop a l)) more

-- all of them
pub part-all : (a w : ℕ) (l : List ℕ) → w ≡ length l → part a w l ≡ drop a l
part-all a w l h =
    let all : w - a ≡ length (drop a l) = rw (h, length-drop a l) refl in
    ap (λ (n : ℕ). take n (drop a l)) all ∙ take-length (drop a l)

-- a piece was written
pub then-piece : (x y z : Option (List ℕ)) (a w k : ℕ) (l out : List ℕ) → a ≤ w → take k out ≡ take k (drop w l)
    → Appends x y (part a w l) → Appends y z (take k out) → Appends x z (part a (w + k) l)
then-piece x y z a w k l out h e before piece =
    subst (Appends x z) (ap (λ (r : List ℕ). part a w l ++ r) e ∙ part-more a w k l h) (Appends-trans x y z _ _ before piece)

-- a beginning of one was
pub then-some : (x y z : Option (List ℕ)) (a w k : ℕ) (l out : List ℕ) → a ≤ w → w + k ≤ length l → k ≤ length out → take k out ≡ take k (drop w l)
    → Appends x y (part a w l) → WroteSome y z (take k out) → WroteSome x z (drop a l)
then-some x y z a w k l out h fits room e before some =
    let n = some.0 in
    let few : n ≤ k = omega (arith, some.1, length-take-le k out room) in
    let front : take n (take k out) ≡ take n (drop w l) = ap (take n) e ∙ take-take n k (drop w l) few in (
      w + n - a,
      omega (arith, length-drop a l),
      subst (Appends x z) (ap (λ (r : List ℕ). part a w l ++ r) front ∙ part-more a w n l h) (Appends-trans x y z _ _ before some.2),
    )
