-- 02 n: "Report in exact counts the accepted patches, their edits by kind, evictions and total price, and all refusals by number [..]. Each count
-- equals the tally over the patches drawn".
use Rattle.std.specs.Prelude.{ℕ, ◌+◌, ◌<◌, ◌≡◌, Bool, true, false, List, [], ◌∷◌, ◌++◌, eqb, length, get_or}
use Rattle.rules.specs.Edit.{Edit, Move, Rematerialize, EmergencySpill, EmergencyReload, filter}
use Rattle.rules.specs.Patch.{Answer, refused, resolved}
use Rattle.price.specs.declared.Prices.{Prices}
use Rattle.price.specs.Price.{price_of}
use Rattle.price.specs.Totals.{from_first}

abbrev pub is_accepted : Answer → Bool
is_accepted (refused n) = false
is_accepted (resolved es c m) = true

abbrev pub is_refused : ℕ → Answer → Bool
is_refused j (refused n) = eqb n j
is_refused j (resolved es c m) = false

abbrev pub accepted_in : List Answer → ℕ
accepted_in l = length (filter is_accepted l)

abbrev pub refusals_in : ℕ → List Answer → ℕ
refusals_in j l = length (filter (is_refused j) l)

-- the edits of the accepted patches
unfoldable pub edits_in : List Answer → List Edit
edits_in [] = []
edits_in (refused n ∷ l) = edits_in l
edits_in (resolved es c m ∷ l) = es ++ edits_in l

-- "by kind": 1 is M, 2 R, 3 S, 4 L
abbrev pub kind_of : Edit → ℕ
kind_of (Move to from v) = 1
kind_of (Rematerialize to v) = 2
kind_of (EmergencySpill s r) = 3
kind_of (EmergencyReload r s) = 4

abbrev pub of_kind : ℕ → List Edit → ℕ
of_kind k es = length (filter (λ e. eqb (kind_of e) k) es)

-- the table: accepted patches, M, R, S, L, evictions, price, and from cell 7 on the refusals by number. A register is evicted where its
-- reload is made: 01, "evict [..] and emit its reload".
pub record Reported (table : List ℕ) (p : Prices) (l : List Answer) : Type 0 where
  pub accepted : get_or table 0 0 ≡ accepted_in l
  pub moves : get_or table 1 0 ≡ of_kind 1 (edits_in l)
  pub remats : get_or table 2 0 ≡ of_kind 2 (edits_in l)
  pub spills : get_or table 3 0 ≡ of_kind 3 (edits_in l)
  pub reloads : get_or table 4 0 ≡ of_kind 4 (edits_in l)
  pub evictions : get_or table 5 0 ≡ of_kind 4 (edits_in l)
  pub price : get_or table 6 0 ≡ from_first (price_of p) (edits_in l)
  pub refusals : (j : ℕ) → j < 256 → get_or table (7 + j) 0 ≡ refusals_in j l
