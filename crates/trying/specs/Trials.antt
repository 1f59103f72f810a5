-- Two functions tried, by computation. What is counted is what the same drawing and counting in plain Rust came to.
use Rattle.std.specs.Prelude.{ℕ, ◌≡◌, List, [], ◌∷◌, ◌++◌, map, length, take, replicate}
use Rattle.entity.specs.Place.{reg, slot}
use Rattle.reginfo.specs.RegInfo.{RegInfo}
use Rattle.reginfo.specs.Refused as target
use Rattle.function.specs.Function.{Function}
use Rattle.function.specs.Refused as function
use Rattle.rules.specs.Edit.{Move}
use Rattle.rules.specs.Patch.{move, refused}
use Rattle.rules.specs.Trials.{single, three, plain, paired, fixed, over}
use Rattle.price.specs.declared.Prices.{Prices}
use Rattle.price.specs.Price.{price_of}
use Rattle.price.specs.Totals.{from_first}
use Rattle.draws.specs.Draws.{after}
use Rattle.trying.specs.Drawing.{Drawn, place_numbered, drawn_entry, draw_patch}
use Rattle.trying.specs.Tried.{Tries, tried}
use Rattle.trying.specs.Report.{accepted_in, refusals_in, edits_in, of_kind}

-- swap-full's target and function, N = 0 and L = 1, from seed 0
abbrev pub first : Drawn
first = draw_patch three (plain 0 1) 0

abbrev pub swap_full : ℕ → Tries
swap_full kept = tried three (plain 0 1) kept 1 0

-- three banks of three registers each: two of single units, one of pairs, each of which shares a unit with the next
unfoldable pub three_banks : RegInfo
three_banks =
    record {
      units = 10;
      banks = record { size = 3; top = 0; stack = 1 } ∷ record { size = 3; top = 2; stack = 3 } ∷ record { size = 4; top = 4; stack = 5 } ∷ [];
      regs =
          record { memory = 0; bank = 0; units = 0 ∷ [] }
          ∷ record { memory = 0; bank = 0; units = 1 ∷ [] }
          ∷ record { memory = 0; bank = 0; units = 2 ∷ [] }
          ∷ record { memory = 0; bank = 1; units = 3 ∷ [] }
          ∷ record { memory = 0; bank = 1; units = 4 ∷ [] }
          ∷ record { memory = 0; bank = 1; units = 5 ∷ [] }
          ∷ record { memory = 0; bank = 2; units = 6 ∷ 7 ∷ [] }
          ∷ record { memory = 0; bank = 2; units = 7 ∷ 8 ∷ [] }
          ∷ record { memory = 0; bank = 2; units = 8 ∷ 9 ∷ [] }
          ∷ [];
      classes =
          record { bank = 0; slots = 1; members = 0 ∷ 1 ∷ 2 ∷ []; order = 0 ∷ 1 ∷ 2 ∷ [] }
          ∷ record { bank = 0; slots = 0; members = 0 ∷ 1 ∷ 2 ∷ []; order = 0 ∷ 1 ∷ 2 ∷ [] }
          ∷ record { bank = 1; slots = 1; members = 3 ∷ 4 ∷ 5 ∷ []; order = 3 ∷ 4 ∷ 5 ∷ [] }
          ∷ record { bank = 1; slots = 0; members = 3 ∷ 4 ∷ 5 ∷ []; order = 3 ∷ 4 ∷ 5 ∷ [] }
          ∷ record { bank = 2; slots = 1; members = 6 ∷ 7 ∷ 8 ∷ []; order = 6 ∷ 7 ∷ 8 ∷ [] }
          ∷ record { bank = 2; slots = 0; members = 6 ∷ 7 ∷ 8 ∷ []; order = 6 ∷ 7 ∷ 8 ∷ [] }
          ∷ record { bank = 2; slots = 0; members = 6 ∷ 7 ∷ []; order = 6 ∷ 7 ∷ [] }
          ∷ [];
    }

-- five values, the last two of which can be rebuilt; N = 29, L = 2
abbrev pub five_values : Function
five_values =
    record {
      values =
          record { bank = 0; cost = 0; class = 0 }
          ∷ record { bank = 1; cost = 0; class = 0 }
          ∷ record { bank = 2; cost = 0; class = 0 }
          ∷ record { bank = 2; cost = 2; class = 6 }
          ∷ record { bank = 0; cost = 1; class = 0 }
          ∷ [];
      slots = 29;
      limit = 2;
      kept = 1;
    }

-- one register and no slot, so that every move that is drawn is a self-move (10)
abbrev pub lone : RegInfo
lone = paired 1 (single 0 ∷ [])

abbrev pub of_lone : Function
of_lone = over (fixed 0 ∷ []) 0 0

abbrev pub prices : Prices
prices = record { moves = 4; remats = 6; spills = 16; reloads = 12 }

-- accepted, M, R, S, L, price, and how many are refused with 9, 10, 12, 14, 17 and 21
abbrev pub row : Tries → List ℕ
row r =
    accepted_in r.answers
    ∷ of_kind 1 (edits_in r.answers)
    ∷ of_kind 2 (edits_in r.answers)
    ∷ of_kind 3 (edits_in r.answers)
    ∷ of_kind 4 (edits_in r.answers)
    ∷ from_first (price_of prices) (edits_in r.answers)
    ∷ map (λ j. refusals_in j r.answers) (9 ∷ 10 ∷ 12 ∷ 14 ∷ 17 ∷ 21 ∷ [])

pub record Trials : Type 0 where
  pub accepted : target.Accepted three_banks × function.Accepted three_banks five_values
  -- ten entries, the first from r2 to r2: 31 draws, and then 10
  pub ten : length first.entries ≡ 10
  pub self-move : take 1 first.entries ≡ move (reg 2) (reg 2) 0 ∷ []
  pub whole : first.seed ≡ after 0 31
  -- the 32nd draw gives one entry, which is accepted: 35 draws
  pub first-draws : take 3 (swap_full 1).draws ≡ 2654435769 ∷ 1013904242 ∷ 3668340011 ∷ []
  pub drawn : length (swap_full 1).draws ≡ 35
  pub move-drawn : edits_in (swap_full 1).answers ≡ Move (reg 0) (reg 1) 1 ∷ []
  pub counts-one : row (swap_full 1) ≡ 1 ∷ 1 ∷ 0 ∷ 0 ∷ 0 ∷ 4 ∷ 0 ∷ 1 ∷ 0 ∷ 0 ∷ 0 ∷ 0 ∷ []
  pub counts-two : row (swap_full 2) ≡ 1 ∷ 1 ∷ 0 ∷ 0 ∷ 0 ∷ 4 ∷ 0 ∷ 1 ∷ 0 ∷ 0 ∷ 0 ∷ 0 ∷ []
  -- the settings differ
  pub one_kept : row (tried three_banks five_values 1 12 7) ≡ 12 ∷ 86 ∷ 16 ∷ 22 ∷ 22 ∷ 1056 ∷ 43 ∷ 0 ∷ 0 ∷ 0 ∷ 0 ∷ 0 ∷ []
  pub two-kept : row (tried three_banks five_values 2 12 7) ≡ 8 ∷ 57 ∷ 6 ∷ 11 ∷ 11 ∷ 572 ∷ 55 ∷ 0 ∷ 0 ∷ 0 ∷ 7 ∷ 0 ∷ []
  -- "Without values all counts are 0."
  pub no-values : (tried three_banks (record { values = []; slots = 29; limit = 2; kept = 1 }) 1 5 7).answers ≡ []
  -- "modulo the count of places (registers first, then the N slots)": nine registers and 29 slots
  pub registers-first : map (place_numbered three_banks) (0 ∷ 8 ∷ 9 ∷ 37 ∷ []) ≡ reg 0 ∷ reg 8 ∷ slot 0 ∷ slot 28 ∷ []
  -- "the source, destination and value, modulo the count of places [..] or of values": three registers, two slots, two values
  pub modulo : drawn_entry three (plain 2 1) 3 9 5 ≡ move (slot 0) (slot 1) 1
  -- "from the seed it left": the second patch is drawn from where the first, refused one ended
  pub drawn-over : (swap_full 1).draws ≡ first.draws ++ (draw_patch three (plain 0 1) first.seed).draws
  -- "at most 8 times, then left out": nine drawings of each of two patches, and none is accepted
  pub left_out : (tried lone of_lone 1 2 7).answers ≡ replicate 18 (refused 10)
  pub then-the-next : (tried lone of_lone 1 2 7).seed ≡ (tried lone of_lone 1 1 (tried lone of_lone 1 1 7).seed).seed
