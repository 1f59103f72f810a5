-- The labels of entries are numbers of entries.
use Prim.Native.Nat.{ℕ, ◌+◌, ◌<◌}
use mathlib.Core.Path.{◌≡◌, sym, ap, ◌∙◌}
use mathlib.Core.List.{List}
use native.Mathlib.Omega.{arith}
use lib.ListN.{get_or}
use Rattle.entity.specs.Logic.{cells}
use Rattle.entity.proofs.Laws.{get_d-cells}
use Rattle.reginfo.specs.RegInfo.{RegInfo}
use Rattle.rules.specs.Patch.{Entry}
use Rattle.group_rules.specs.Groups.{near}
use Rattle.group_rules.specs.Refusals.{no_entry}
use Rattle.group_rules.proofs.Labelled.{labelled}
use Rattle.group_rules.proofs.Parts.{near-comm}
use Rattle.parallel_moves.specs.Given.{entries_of}
use Rattle.groups.specs.Given.{count_of, KnownEntries, labels_in}
use Rattle.groups.proofs.Entries.{how-many}

pub label_at : (t : RegInfo) (numbers table : List ℕ) → cells table 0 (count_of numbers) ≡ labels_in t numbers → (i : ℕ) → i < count_of numbers → get_or table i 0 ≡ get_or (labels_in t numbers) i 0
label_at t numbers table e i h =
    let z : 0 + i ≡ i = omega arith in
    sym (get_d-cells table 0 (count_of numbers) i h ∙ ap (λ (x : ℕ). get_or table x 0) z) ∙ ap (λ (l : List ℕ). get_or l i 0) e

pub labels-low : (t : RegInfo) (numbers table : List ℕ) → KnownEntries t numbers → cells table 0 (count_of numbers) ≡ labels_in t numbers → (i : ℕ) → i < count_of numbers → get_or table i 0 < 128
labels-low t numbers table ok e i h =
    let first = (labelled Entry (near t) (near-comm t) no_entry (entries_of numbers)).first i (omega (arith, how-many t numbers ok)) in
    let at = label_at t numbers table e i h in
    omega (arith, first, at, ok.few)
