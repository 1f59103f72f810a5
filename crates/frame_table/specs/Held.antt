-- The table of a frame beside 02 l's rules.
use Rattle.std.specs.Prelude.{ℕ, ◌<◌, ◌≤◌, ◌≡◌, List, [], map}
use Rattle.std.proofs.Math.Option.{Option, none}
use Rattle.reginfo.specs.Refused.{first_of}
use Rattle.rules.specs.Take.{Counted}
use Rattle.frame_rules.specs.Frame.{Inlined, Asked, Frame, no_target, no_function, opened, reach, with_cache}
use Rattle.frame_rules.specs.Promise.{Kept}
use Rattle.frame_table.specs.Table.{number_of, limit_of, counter_of, slots_of, share_of, made_of, reach_of}
use Rattle.frame_table.specs.Opening.{share_conditions, Filled}
use Rattle.frame_table.specs.Steps.{SlotsSet, WentOn}

-- the table holds the numbers of a frame
pub record Holds (frame : List ℕ) (s : Frame) : Type 0 where
  pub number : number_of frame ≡ s.number
  pub limit : limit_of frame ≡ s.limit
  pub counter : counter_of frame ≡ s.counter
  pub share : (j : ℕ) → j < s.number → share_of frame j ≡ (s.formulas j).share
  pub made : (j : ℕ) → j < s.number → made_of frame j ≡ (s.formulas j).made

-- once opened, those of a new frame
abbrev pub OpenedHolds : Type 0
OpenedHolds = (limit : ℕ) (l : List Inlined) (frame : List ℕ) → Filled limit (map (λ (x : Inlined). x.share) l) frame → Holds frame (opened limit l)

-- where the promise is kept, `reach_of` is how far the counter may go
abbrev pub ReachIs : Type 0
ReachIs = (frame : List ℕ) (s : Frame) → Holds frame s → Kept s → (i : ℕ) → i < s.number → reach_of frame i ≡ reach s i

-- after a call that led the counter to where it is
abbrev pub WentHolds : Type 0
WentHolds =
    (frame : List ℕ) (s : Frame) → Holds frame s → s.number ≤ 16 → (i : ℕ) → i < s.number → (c : Counted) (a : List (Option Asked)) (frame' : List ℕ)
    → WentOn frame i c.cache.made frame' → Holds frame' (with_cache s i c a)

-- the numbers of a table as a frame
abbrev pub frame_of : List ℕ → Frame
frame_of frame =
    record {
      limit = limit_of frame;
      number = number_of frame;
      counter = counter_of frame;
      formulas = λ j. record { target = no_target; function = no_function; share = share_of frame j; stacks = λ z. []; made = made_of frame j; count = 0; asked = [] };
    }

-- the table of an opened frame, as the calls leave it: at most 16 formulas, a limit of at most 2,048, an N of at most 4,096, and every promise kept
pub record FrameOk (frame : List ℕ) : Type 0 where
  pub number : number_of frame ≤ 16
  pub limit : limit_of frame ≤ 2048
  pub slots : slots_of frame ≤ 4096
  pub kept : Kept (frame_of frame)

-- opened so; with the first one's N; and no call of a formula up to how far it may go breaks a promise
abbrev pub FilledOk : Type 0
FilledOk = (limit : ℕ) (shares frame : List ℕ) → first_of (share_conditions limit shares) ≡ none → Filled limit shares frame → FrameOk frame

abbrev pub SlotsOk : Type 0
SlotsOk = (frame : List ℕ) (n : ℕ) (frame' : List ℕ) → FrameOk frame → n ≤ 4096 → SlotsSet frame n frame' → FrameOk frame'

abbrev pub WentOk : Type 0
WentOk =
    (frame : List ℕ) (i n : ℕ) (frame' : List ℕ) → FrameOk frame → i < number_of frame → counter_of frame ≤ n → n ≤ reach_of frame i → WentOn frame i n frame'
    → FrameOk frame'
