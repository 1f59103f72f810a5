-- What the askings left to take, beside the answers of the rules: pair by pair.
use Prim.Native.Nat.{ℕ, zero, suc}
use mathlib.Core.List.{List, [], ◌∷◌, ◌++◌}
use mathlib.Core.Option.{Option, none, some}
use lib.ListN.{get_or}
use Rattle.rules.specs.Take.{Preview}
use Rattle.request_claims.specs.Calls.{Kept}

-- both are none, or both are there and fit
abbrev pub One : (Kept → Preview → Type 0) → Option Kept → Option Preview → Type 0
One P none none = Unit {0}
One P none (some a) = ⊥
One P (some k) none = ⊥
One P (some k) (some a) = P k a

abbrev pub Paired : (Kept → Preview → Type 0) → List (Option Kept) → List (Option Preview) → Type 0
Paired P [] [] = Unit {0}
Paired P [] (a ∷ bs) = ⊥
Paired P (k ∷ ks) [] = ⊥
Paired P (k ∷ ks) (a ∷ bs) = One P k a × Paired P ks bs

module _ (P Q : Kept → Preview → Type 0) (on : (k : Kept) (a : Preview) → P k a → Q k a) where
  one_map : (k : Option Kept) (a : Option Preview) → One P k a → One Q k a
  one_map none none h = tt
  one_map none (some a) h = h
  one_map (some k) none h = h
  one_map (some k) (some a) h = on k a h

  pub paired-map : (ks : List (Option Kept)) (bs : List (Option Preview)) → Paired P ks bs → Paired Q ks bs
  paired-map [] [] h = tt
  paired-map [] (a ∷ bs) h = h
  paired-map (k ∷ ks) [] h = h
  paired-map (k ∷ ks) (a ∷ bs) h = (one_map k a h.0, paired-map ks bs h.1)

module _ (P : Kept → Preview → Type 0) where
  pub paired-more : (ks : List (Option Kept)) (bs : List (Option Preview)) (k : Option Kept) (a : Option Preview) → Paired P ks bs → One P k a → Paired P (ks ++ (k ∷ [])) (bs ++ (a ∷ []))
  paired-more [] [] k a h o = (o, tt)
  paired-more [] (b ∷ bs) k a h o = absurd h
  paired-more (j ∷ ks) [] k a h o = absurd h
  paired-more (j ∷ ks) (b ∷ bs) k a h o = (h.0, paired-more ks bs k a h.1 o)

  pub paired_at : (ks : List (Option Kept)) (bs : List (Option Preview)) (n : ℕ) → Paired P ks bs → One P (get_or ks n none) (get_or bs n none)
  paired_at [] [] zero h = tt
  paired_at [] [] (suc n) h = tt
  paired_at [] (a ∷ bs) n h = absurd h
  paired_at (k ∷ ks) [] n h = absurd h
  paired_at (k ∷ ks) (a ∷ bs) zero h = h.0
  paired_at (k ∷ ks) (a ∷ bs) (suc n) h = paired_at ks bs n h.1
