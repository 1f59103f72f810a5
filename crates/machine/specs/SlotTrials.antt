-- 02 j: how many slots the calls of a function make.
use Rattle.std.specs.Prelude.{ℕ, ◌+◌, ◌-◌, ◌*◌, ◌/◌, ◌%◌, ◌≡◌, List, [], ◌∷◌, ◌++◌, map}
use Rattle.entity.specs.Logic.{indices}
use Rattle.entity.specs.Place.{reg}
use Rattle.reginfo.specs.RegInfo.{Reg, RegInfo}
use Rattle.reginfo.specs.Refused as target
use Rattle.function.specs.Function.{Function}
use Rattle.function.specs.Refused as function
use Rattle.rules.specs.Scratch.{Cache, empty_cache}
use Rattle.rules.specs.Patch.{Entry, move, Answer, refused, resolved, resolve, cache_after}
use Rattle.rules.specs.Trials.{single, patch, fixed, over}
use Rattle.rules.specs.ChangeTrials.{keeping, reg_of, slots_of, sole_of, of_bank_one}
use Rattle.machine.specs.Enough.{num_sizes, num_bank_sizes, enough_slots}

-- the number that a call was refused with, 0 if none, and the slots made so far
pub record Outcome : Type 0 where
  pub number : ℕ
  pub made : ℕ

abbrev pub outcome : Cache → Answer → Outcome
outcome c (refused n) = record { number = n; made = c.made }
outcome c (resolved es c' n) = record { number = 0; made = c'.made }

-- of patches without free units, from a fresh cache
abbrev pub outcomes_from : RegInfo → Function → List (List Entry) → Cache → List Outcome
outcomes_from t f [] c = []
outcomes_from t f (es ∷ l) c = outcome c (resolve t f (patch [] es) 1024 c) ∷ outcomes_from t f l (cache_after c (resolve t f (patch [] es) 1024 c))

abbrev pub outcomes : RegInfo → Function → List (List Entry) → List Outcome
outcomes t f l = outcomes_from t f l empty_cache

abbrev pub makes : ℕ → Outcome
makes n = record { number = 0; made = n }

abbrev pub out : ℕ → Outcome
out n = record { number = 17; made = n }

-- six registers of one unit and the pairs of them, slots of sizes y and z; nothing is in the order of a top-level class
unfoldable pub pairs : ℕ → ℕ → RegInfo
pairs y z =
    record {
      units = 6;
      banks = record { size = y; top = 0; stack = 1 } ∷ record { size = z; top = 2; stack = 3 } ∷ [];
      regs = single 0 ∷ single 1 ∷ single 2 ∷ single 3 ∷ single 4 ∷ single 5 ∷ of_bank_one 0 1 ∷ of_bank_one 2 3 ∷ of_bank_one 4 5 ∷ [];
      classes =
          record { bank = 0; slots = 1; members = indices 0 6; order = [] }
          ∷ record { bank = 0; slots = 0; members = indices 0 6; order = indices 0 6 }
          ∷ record { bank = 1; slots = 1; members = indices 6 3; order = [] }
          ∷ record { bank = 1; slots = 0; members = indices 6 3; order = indices 6 3 }
          ∷ [];
    }

-- values 0 and 1 of bank 0, 2 and 3 of bank 1; L
abbrev pub of_both : ℕ → Function
of_both l = over (fixed 0 ∷ fixed 0 ∷ fixed 1 ∷ fixed 1 ∷ []) 0 l

abbrev pub of_first : ℕ → Function
of_first l = over (fixed 0 ∷ fixed 0 ∷ []) 0 l

-- two registers exchanged
abbrev pub exchange : ℕ → ℕ → ℕ → ℕ → List Entry
exchange r q v w = move (reg r) (reg q) v ∷ move (reg q) (reg r) w ∷ []

-- r0 and r1, r6 and r7, r0 and r1 again
abbrev pub exchanges : List (List Entry)
exchanges = exchange 0 1 0 1 ∷ exchange 6 7 2 3 ∷ exchange 0 1 0 1 ∷ []

-- a fan: D and m registers S have w units each. S0 goes to D, and each later S to a T, which has the first unit of the S before it and w - 1 of
-- its own. From D's first unit a value of its own goes to each unit behind the first of each S, the leaves. All leaves are diverted before D is
-- written. Two banks of leaves, with slots of sizes 3 and 4.
module _ (w m : ℕ) where
  abbrev pub num_leaves : ℕ
  num_leaves = m * (w - 1)

  -- D's first unit and the leaves
  abbrev pub leaves : ℕ → List Reg
  leaves b = reg_of b (0 ∷ []) ∷ map (λ k. reg_of b ((w + 1 + k / (w - 1) * w + k % (w - 1)) ∷ [])) (indices 0 num_leaves)

  unfoldable pub fan : RegInfo
  fan =
      record {
        units = w * (m + 1) + (w - 1) * (m - 1);
        banks = record { size = 3; top = 0; stack = 1 } ∷ record { size = 3; top = 2; stack = 3 } ∷ record { size = 4; top = 4; stack = 5 } ∷ [];
        regs =
            map (λ j. reg_of 0 (indices (j * w) w)) (indices 0 (m + 1))
            ++ (map (λ j. reg_of 0 ((w + j * w) ∷ indices (w * (m + 1) + j * (w - 1)) (w - 1))) (indices 0 (m - 1)) ++ (leaves 1 ++ leaves 2));
        classes = slots_of 0 ∷ sole_of 0 0 ∷ slots_of 1 ∷ sole_of 1 (2 * m) ∷ slots_of 2 ∷ sole_of 2 (2 * m + 1 + num_leaves) ∷ [];
      }

  -- a value for each S and for each leaf of both banks
  abbrev pub of_fan : ℕ → Function
  of_fan l = over (map (λ k. fixed 0) (indices 0 m) ++ (map (λ k. fixed 1) (indices 0 num_leaves) ++ map (λ k. fixed 2) (indices 0 num_leaves))) 0 l

  -- the leaves from register r, the values from v
  abbrev pub fanned : ℕ → ℕ → List Entry
  fanned r v =
      move (reg 1) (reg 0) 0
      ∷ (map (λ j. move (reg (2 + j)) (reg (m + 1 + j)) (1 + j)) (indices 0 (m - 1)) ++ map (λ k. move (reg r) (reg (r + 1 + k)) (v + k)) (indices 0 num_leaves))

  -- a patch for each bank of leaves
  abbrev pub fans : List (List Entry)
  fans = fanned (2 * m) m ∷ fanned (2 * m + 1 + num_leaves) (m + num_leaves) ∷ []

pub record SlotTrials : Type 0 where
  pub targets : target.Accepted (pairs 2 3) × target.Accepted (pairs 2 2)
  pub functions : function.Accepted (pairs 2 3) (of_both 2) × function.Accepted (pairs 2 3) (keeping 2 (of_both 2))
  -- a slot of each size, and then the first again
  pub two-sizes : outcomes (pairs 2 3) (of_both 2) exchanges ≡ makes 1 ∷ makes 2 ∷ makes 2 ∷ []
  -- the slot made is of the other size
  pub one-slot : outcomes (pairs 2 3) (of_both 1) exchanges ≡ makes 1 ∷ out 1 ∷ makes 1 ∷ []
  pub one_size : outcomes (pairs 2 2) (of_both 1) exchanges ≡ makes 1 ∷ makes 1 ∷ makes 1 ∷ []
  -- "different slot sizes among its banks"
  pub counted : (num_sizes (pairs 2 3) (of_both 2) ≡ 2) × (num_sizes (pairs 2 2) (of_both 2) ≡ 1) × (num_sizes (pairs 2 3) (of_first 2) ≡ 1) × (num_bank_sizes (pairs 2 3) ≡ 2)
  -- "129 times", "With two, 130"
  pub planned : (enough_slots (pairs 2 3) (of_both 2) ≡ 258) × (enough_slots (pairs 2 3) (keeping 2 (of_both 2)) ≡ 260) × (enough_slots (pairs 2 2) (of_both 2) ≡ 129)

-- of each size a slot for every leaf; with 8 and 16 it is 112 of each, by 128 entries
pub record FanTrials : Type 0 where
  pub target : target.Accepted (fan 4 4)
  pub function : function.Accepted (fan 4 4) (of_fan 4 4 24)
  pub both-banks : outcomes (fan 4 4) (of_fan 4 4 24) (fans 4 4) ≡ makes 12 ∷ makes 24 ∷ []
  pub two-kept : outcomes (fan 4 4) (keeping 2 (of_fan 4 4 24)) (fans 4 4) ≡ makes 12 ∷ makes 24 ∷ []
  -- enough for one size alone
  pub not-for-both : outcomes (fan 4 4) (of_fan 4 4 23) (fans 4 4) ≡ makes 12 ∷ out 12 ∷ []
  pub one_fewer : outcomes (fan 4 4) (of_fan 4 4 11) (fans 4 4) ≡ out 0 ∷ out 0 ∷ []
  pub counted : num_sizes (fan 4 4) (of_fan 4 4 24) ≡ 2
