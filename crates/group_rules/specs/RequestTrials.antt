-- 02 k among the calls of 02 g and 02 l: what they are told, on the target with four registers.
use Rattle.std.specs.Prelude.{ℕ, ◌≡◌, List, [], ◌∷◌}
use Rattle.entity.specs.Place.{reg, slot}
use Rattle.function.specs.Function.{Function}
use Rattle.rules.specs.Edit.{Edit, Move}
use Rattle.rules.specs.Patch.{Entry}
use Rattle.rules.specs.Take as take
use Rattle.rules.specs.Take.{Served, fresh}
use Rattle.rules.specs.Trials.{patch, swap}
use Rattle.rules.specs.TakeTrials as told
use Rattle.rules.specs.TakeTrials.{told_by, ask}
use Rattle.frame_rules.specs.Frame as frame
use Rattle.frame_rules.specs.Frame.{Inlined, Frame, opened}
use Rattle.group_rules.specs.GroupTrials.{four, vals, mixed, slots-first}
use Rattle.group_rules.specs.Requests as requests
use Rattle.group_rules.specs.Requests.{Request, single, grouping, answered, reached}
use Rattle.group_rules.specs.Frame.{FrameCall, after_call, told}

module _ (f : Function) where
  abbrev pub told_from : List Request → Served → List told.Told
  told_from [] s = []
  told_from (x ∷ l) s = told_by (answered four f x s) ∷ told_from l (requests.after four f x s)

abbrev pub group : List Entry → Request
group es = grouping (patch [] es) 32

abbrev pub by_slot : List Edit
by_slot = Move (slot 0) (reg 1) 1 ∷ Move (reg 1) (reg 0) 0 ∷ Move (reg 0) (slot 0) 1 ∷ []

-- two registers exchanged, and two others, by slot s
abbrev pub two_by : ℕ → List Edit
two_by s =
    Move (slot s) (reg 1) 2 ∷ Move (reg 1) (reg 0) 0 ∷ Move (reg 0) (slot s) 2 ∷ Move (slot s) (reg 3) 3 ∷ Move (reg 3) (reg 2) 1 ∷ Move (reg 2) (slot s) 3 ∷ []

-- no groups between an asking and its take
abbrev pub none_between : List Request
none_between = single (ask swap) ∷ group [] ∷ single (take.taking 0) ∷ []

abbrev pub refused-between : List Request
refused-between = single (ask swap) ∷ group slots-first ∷ single (take.taking 0) ∷ []

-- ---- in a frame
abbrev pub sharing : ℕ → Inlined
sharing share = record { target = four; function = vals 0 0; share = share }

abbrev pub two : ℕ → ℕ → ℕ → Frame
two limit a b = opened limit (sharing a ∷ sharing b ∷ [])

abbrev pub groups : ℕ → List Entry → FrameCall
groups i es = record { formula = i; request = group es }

abbrev pub asks : ℕ → List Entry → FrameCall
asks i es = record { formula = i; request = single (ask es) }

abbrev pub takes : ℕ → ℕ → FrameCall
takes i n = record { formula = i; request = single (take.taking n) }

abbrev pub told_in : List FrameCall → Frame → List frame.Told
told_in [] s = []
told_in (x ∷ l) s = told s x ∷ told_in l (after_call s x)

pub record RequestTrials : Type 0 where
  -- a call by groups without entries is one patch: the take after it is 20
  pub none_told : told_from (vals 0 1) none_between fresh ≡ told.edits by_slot 1 4 ∷ told.edits [] 0 0 ∷ told.number 20 ∷ []
  -- and so is one with two groups
  pub counted : (reached four (vals 0 1) (group mixed ∷ [])).now.count ≡ 1
  -- a refused one is none (two slots are wanted, L = 1)
  pub refused-told : told_from (vals 2 1) refused-between fresh ≡ told.edits (Move (slot 2) (reg 1) 1 ∷ Move (reg 1) (reg 0) 0 ∷ Move (reg 0) (slot 2) 1 ∷ []) 1 4 ∷ told.number 17 ∷ told.edits (Move (slot 2) (reg 1) 1 ∷ Move (reg 1) (reg 0) 0 ∷ Move (reg 0) (slot 2) 1 ∷ []) 1 4 ∷ []
  -- one share for all groups: one slot does for both
  pub one-share : told_in (groups 1 mixed ∷ groups 0 mixed ∷ groups 1 mixed ∷ []) (two 1 1 0) ≡ frame.number 17 ∷ frame.edits (two_by 0) 1 4 ∷ frame.number 17 ∷ []
  -- a slot that another's call by groups made since the asking
  pub slot-between : told_in (asks 0 swap ∷ groups 1 mixed ∷ takes 0 0 ∷ []) (two 2 0 0) ≡ frame.edits by_slot 1 4 ∷ frame.edits (two_by 0) 1 4 ∷ frame.number 20 ∷ []
