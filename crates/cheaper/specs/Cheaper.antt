-- 02 f: "Give it a step that takes two lent edit lists and the target's four prices, adds up both, and hands back the cheaper, as the caller's own
-- part and at its own length, the first where both cost the same."
use Rattle.std.specs.Prelude.{ℕ, ◌≡◌, Bool, List, [], ltb, length}
use Rattle.std.specs.Borrow.{Bor}
use Rattle.entity.specs.Logic.{pick, or, no}
use Rattle.price.specs.declared.Prices.{Prices}
use Rattle.price.specs.Price.{in_range, total_of}
use Rattle.cheaper.specs.declared.Choice.{Choice}
use Rattle.cheaper.specs.declared.Choice.TheVariants.{First, Second, Refused}

-- "A price outside its range, or a list of over 65,536 entries, gives 19"
unfoldable pub refused19 : Prices → List ℕ → List ℕ → Bool
refused19 p a b = or (no (in_range p)) (or (ltb 65536 (length a)) (ltb 65536 (length b)))

-- "the first where both cost the same"
unfoldable pub choice_of : Prices → List ℕ → List ℕ → Choice
choice_of p a b = pick (refused19 p a b) Refused (pick (ltb (total_of p b) (total_of p a)) Second First)

-- "hands back the cheaper, as the caller's own part and at its own length": the reference itself, so the same place and length;
-- "19 with an empty part of the first list": no word, from where the first begins. The number is 0 else.
abbrev pub Handed : Choice → (a b r : Bor (List ℕ)) → ℕ → Type 0
Handed First a b r n = (r ≡ a) × (n ≡ 0)
Handed Second a b r n = (r ≡ b) × (n ≡ 0)
Handed Refused a b r n = (r.ref_ptr ≡ a.ref_ptr) × (r.now ≡ []) × (n ≡ 19)
