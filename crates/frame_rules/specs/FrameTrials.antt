-- 02 l: what calls in a frame are told, on the target of swap-full.
use Rattle.std.specs.Prelude.{ℕ, suc, ◌*◌, ◌≡◌, List, [], ◌∷◌, replicate}
use Rattle.std.proofs.Math.Option.{none, some}
use Rattle.entity.specs.Place.{reg, slot}
use Rattle.reginfo.specs.RegInfo.{RegInfo}
use Rattle.rules.specs.Edit.{Move, EmergencySpill, EmergencyReload}
use Rattle.rules.specs.Patch.{Entry, move}
use Rattle.rules.specs.Take.{taking}
use Rattle.rules.specs.Trials.{three, halves, single, pair, paired, plain, over, swap}
use Rattle.rules.specs.ChangeTrials.{argument, keeping}
use Rattle.rules.specs.TakeTrials.{exchanged, ask, put}
use Rattle.machine.specs.Enough.{num_sizes}
use Rattle.frame_rules.specs.Frame.{Inlined, open_refusal, Frame, opened, FrameCall, after_call, after_calls, Told, nothing, number, edits, told}
use Rattle.frame_rules.specs.Renamed.{ren_told, Renaming, Same, AllTold}

abbrev pub sharing : ℕ → ℕ → Inlined
sharing n share = record { target = three; function = plain n 0; share = share }

-- a value of bank 0 that a class of bank 1 rebuilds; N
abbrev pub foreign : ℕ → Inlined
foreign n = record { target = halves; function = over (record { bank = 0; cost = 1; class = 2 } ∷ []) n 0; share = 0 }

-- a target refused by 4
abbrev pub unequal : RegInfo
unequal = paired 4 (pair 0 1 ∷ argument 2 ∷ single 3 ∷ [])

-- with another setting, which is refused by 22; N
abbrev pub set_to3 : RegInfo → ℕ → Inlined
set_to3 t n = record { target = t; function = keeping 3 (plain n 0); share = 0 }

-- two formulas with N ordinary slots, the limit and the shares
abbrev pub two : ℕ → ℕ → ℕ → ℕ → Frame
two n limit a b = opened limit (sharing n a ∷ sharing n b ∷ [])

abbrev pub told_from : List FrameCall → Frame → List Told
told_from [] s = []
told_from (x ∷ l) s = told s x ∷ told_from l (after_call s x)

-- formula i resolves, asks for, takes
abbrev pub puts : ℕ → List Entry → FrameCall
puts i es = record { formula = i; request = put es }

abbrev pub asks : ℕ → List Entry → FrameCall
asks i es = record { formula = i; request = ask es }

abbrev pub takes : ℕ → ℕ → FrameCall
takes i n = record { formula = i; request = taking n }

abbrev pub chain : List Entry
chain = move (reg 0) (reg 1) 0 ∷ move (reg 1) (reg 2) 1 ∷ []

-- swap's edits by slot s, its formula having made m
abbrev pub by_slot : ℕ → ℕ → Told
by_slot s m = edits (Move (slot s) (reg 1) 1 ∷ Move (reg 1) (reg 0) 0 ∷ Move (reg 0) (slot s) 1 ∷ []) m 3

abbrev pub chained : Told
chained = edits (Move (reg 2) (reg 1) 1 ∷ Move (reg 1) (reg 0) 0 ∷ []) 0 0

-- two slots exchanged, by s and x
abbrev pub by_slots : ℕ → ℕ → Told
by_slots s x =
    edits
    (EmergencySpill x 2 ∷ Move (reg 2) (slot 1) 1 ∷ Move (slot s) (reg 2) 1 ∷ Move (reg 2) (slot 0) 0 ∷ Move (slot 1) (reg 2) 0 ∷ Move (reg 2) (slot s) 1 ∷ Move (slot 0) (reg 2) 1 ∷ EmergencyReload 2 x ∷ [])
    2 3

abbrev pub before-promised : List FrameCall
before-promised = puts 0 exchanged ∷ puts 0 swap ∷ puts 1 swap ∷ []

pub record FrameTrials : Type 0 where
  -- the one slot is promised to the first
  pub promised : told_from (puts 1 swap ∷ puts 0 swap ∷ puts 1 swap ∷ []) (two 0 1 1 0) ≡ number 17 ∷ by_slot 0 1 ∷ number 17 ∷ []
  -- one counter, and each its own slot
  pub one-counter : told_from (puts 0 swap ∷ puts 1 swap ∷ puts 0 swap ∷ []) (two 0 2 0 0) ≡ by_slot 0 1 ∷ by_slot 1 1 ∷ by_slot 0 1 ∷ []
  -- 17 leaves counter and counts
  pub refused-first : told_from before-promised (two 2 2 1 1) ≡ number 17 ∷ by_slot 2 1 ∷ by_slot 3 1 ∷ []
  pub unchanged : (after_calls (puts 0 exchanged ∷ []) (two 2 2 1 1)).counter ≡ 0
  -- above its share, while what the other lacks is left; a formula is told its own count
  pub above-share : told_from (puts 0 exchanged ∷ puts 1 exchanged ∷ puts 1 swap ∷ []) (two 2 3 1 1) ≡ by_slots 2 3 ∷ number 17 ∷ by_slot 4 1 ∷ []
  -- a slot made by the other since the asking: 20
  pub slot-between : told_from (asks 0 swap ∷ puts 1 swap ∷ takes 0 0 ∷ asks 0 swap ∷ takes 0 1 ∷ []) (two 0 2 0 0) ≡ by_slot 0 1 ∷ by_slot 0 1 ∷ number 20 ∷ by_slot 1 1 ∷ by_slot 1 1 ∷ []
  -- where the answer makes none too
  pub none_made : told_from (asks 0 chain ∷ puts 1 swap ∷ takes 0 0 ∷ []) (two 0 2 0 0) ≡ chained ∷ by_slot 0 1 ∷ number 20 ∷ []
  -- not where the other resolved without making one
  pub none_between : told_from (puts 1 swap ∷ asks 0 swap ∷ puts 1 swap ∷ takes 0 0 ∷ []) (two 0 2 0 0) ≡ by_slot 0 1 ∷ by_slot 1 1 ∷ by_slot 0 1 ∷ by_slot 1 1 ∷ []
  -- one renaming for all calls there is not: alone, the asking and the resolving after it are told one slot
  pub renamed-since : told_from (asks 0 swap ∷ puts 1 swap ∷ puts 0 swap ∷ []) (two 0 2 0 0) ≡ by_slot 0 1 ∷ by_slot 0 1 ∷ by_slot 1 1 ∷ []
  pub alone : told_from (asks 0 swap ∷ puts 0 swap ∷ []) (two 0 2 0 0) ≡ by_slot 0 1 ∷ by_slot 0 1 ∷ []
  -- what a renaming is not: two slots with one number, an ordinary slot with another number
  pub not-one-to-one : Renaming 0 (λ y. 0) → ⊥
  pub not-ordinary : Renaming 1 suc → ⊥
  -- nor afresh: the formula was told slot 0 and resolves again, and is told slot 1, as where another had made a slot before
  pub told-another :
      told (after_calls (puts 1 swap ∷ puts 0 swap ∷ []) (two 0 2 0 0)) (puts 0 swap) ≡ ren_told suc (told (after_calls (puts 0 swap ∷ []) (two 0 2 0 0)) (puts 0 swap))
  pub not-afresh :
      Same 0 0 (after_calls (puts 1 swap ∷ puts 0 swap ∷ []) (two 0 2 0 0)) (after_calls (puts 0 swap ∷ []) (two 0 2 0 0)) (puts 0 swap) (λ y. y) suc → ⊥
  -- and one renaming is not any: the second slot of the frame is not told as the first
  pub not-any : AllTold 0 (puts 0 swap ∷ []) (after_calls (puts 1 swap ∷ []) (two 0 2 0 0)) (two 0 2 0 0) (λ y. y) → ⊥
  -- a refused asking leaves nothing to take
  pub nothing_left : told_from (asks 1 swap ∷ takes 1 0 ∷ []) (two 0 1 1 0) ≡ number 17 ∷ nothing ∷ []
  -- what is refused of a frame: shares above the limit before the first setting; the setting; another N; no formula; 2,049 slots before 23
  pub shares-above : open_refusal 2 (record { target = three; function = keeping 3 (plain 0 0); share = 2 } ∷ sharing 0 1 ∷ []) ≡ some 23
  pub setting : open_refusal 3 (record { target = three; function = keeping 3 (plain 0 0); share = 2 } ∷ sharing 0 1 ∷ []) ≡ some 22
  pub another-n : open_refusal 3 (sharing 0 2 ∷ sharing 1 1 ∷ []) ≡ some 2
  -- that N is read before the values, of which one has a class of another bank: alone it is 9
  pub n-before-values : (open_refusal 0 (foreign 0 ∷ foreign 1 ∷ []) ≡ some 9) × (open_refusal 0 (record { target = halves; function = over [] 0 0; share = 0 } ∷ foreign 1 ∷ []) ≡ some 2)
  -- the setting before the target
  pub setting-before-target :
      (open_refusal 0 (record { target = unequal; function = plain 0 0; share = 0 } ∷ []) ≡ some 4) × (open_refusal 0 (set_to3 unequal 0 ∷ []) ≡ some 22)
  -- and before N
  pub setting-before-n : open_refusal 0 (sharing 0 0 ∷ set_to3 three 1 ∷ []) ≡ some 22
  -- the target before that N
  pub target-before-n : open_refusal 0 (sharing 0 0 ∷ record { target = unequal; function = plain 1 0; share = 0 } ∷ []) ≡ some 4
  -- one formula after the other: the first one's target before the second one's setting, and the first one's values too
  pub first-before-second : open_refusal 0 (record { target = unequal; function = plain 0 0; share = 0 } ∷ set_to3 three 0 ∷ []) ≡ some 4
  pub values-before-second : open_refusal 0 (foreign 0 ∷ set_to3 three 0 ∷ []) ≡ some 9
  pub no-formula : open_refusal 3 [] ≡ some 2
  -- 17 formulas, before 23
  pub too_many : (open_refusal 3 (replicate 17 (sharing 0 1)) ≡ some 2) × (open_refusal 3 (replicate 16 (sharing 0 1)) ≡ some 23)
  pub limit-over : open_refusal 2049 (sharing 0 2050 ∷ []) ≡ some 2
  -- shares that meet no 17: 129 for the one size
  pub enough : (129 * num_sizes three (plain 0 0) ≡ 129) × (open_refusal 258 (sharing 0 129 ∷ sharing 0 129 ∷ []) ≡ none)
  pub opens : open_refusal 3 (sharing 0 2 ∷ sharing 0 1 ∷ []) ≡ none
