-- The tables of the trials, cell by cell, and edits held against those that 01 gives.
use Rattle.std.specs.Prelude.{ℕ, zero, suc, ◌+◌, Bool, false, List, [], ◌∷◌, ◌++◌, eqb, get_or, set, drop, replicate}
use Rattle.std.proofs.Math.Option.{Option, none, some}
use Rattle.entity.specs.Logic.{or, no}
use Rattle.edit.specs.Buffer.{count_of, words_of}

-- a table with each of the cells at its number
abbrev pub with_cells : List (ℕ × ℕ) → List ℕ → List ℕ
with_cells [] t = t
with_cells (c ∷ l) t = with_cells l (set t c.0 c.1)

-- three registers of one unit, one bank, and two classes of all three, of which the first includes slots
abbrev pub three_registers : List (ℕ × ℕ)
three_registers =
    (2, 1) ∷ (18, 1) ∷ (24, 1) ∷ (34, 1) ∷ (40, 2) ∷ (8193, 1) ∷ (8194, 3) ∷ (8195, 3)
    ∷ (8202, 3) ∷ (8203, 3) ∷ (8704, 3) ∷ (8706, 1) ∷ (8736, 3) ∷ (8737, 1) ∷ (8738, 3) ∷ (8739, 2)
    ∷ (9217, 1) ∷ (9218, 2) ∷ (9729, 1) ∷ (9730, 2) ∷ (41985, 1) ∷ (41986, 2) ∷ (42497, 1) ∷ (42498, 2) ∷ []

-- two values that are not rebuilt; N and L are 2, and one eviction is kept
abbrev pub moved_values : List (ℕ × ℕ)
moved_values = (16384, 2) ∷ (16385, 2) ∷ (16386, 2) ∷ (16387, 1) ∷ []

-- two values, of which class 1 rebuilds the first; N is 1
abbrev pub remat_value : List (ℕ × ℕ)
remat_value = (1, 2) ∷ (2, 1) ∷ (16384, 2) ∷ (16385, 1) ∷ []

-- the function's table after all trials, of which a target that is refused has none
abbrev pub after_trials : Option ℕ → List ℕ → List ℕ
after_trials none f = with_cells remat_value (with_cells moved_values f)
after_trials (some n) f = f

-- the words of the edits made, and zeros behind them
abbrev pub handed_out : List ℕ → List ℕ
handed_out e = words_of e ++ drop (count_of e) (replicate 1024 0)

-- one of n words from `at` on is another
unfoldable pub differ_from : ℕ → ℕ → List ℕ → List ℕ → Bool
differ_from zero at l m = false
differ_from (suc n) at l m = or (no (eqb (get_or l at 0) (get_or m at 0))) (differ_from n (at + 1) l m)
