-- 02 k: patches resolved by groups, on the target of swap-full with one register more.
use Rattle.std.specs.Prelude.{ℕ, ◌≡◌, List, [], ◌∷◌}
use Rattle.entity.specs.Place.{reg, slot}
use Rattle.reginfo.specs.RegInfo.{RegInfo}
use Rattle.reginfo.specs.Refused as target
use Rattle.function.specs.Function.{Function}
use Rattle.rules.specs.Edit.{Move, Rematerialize, EmergencySpill, EmergencyReload}
use Rattle.rules.specs.Scratch.{empty_cache}
use Rattle.rules.specs.Patch.{Entry, move, Answer, refused, resolved, cache_after}
use Rattle.rules.specs.Trials.{three, single, fixed, over, patch, rematerializable, Gives}
use Rattle.group_rules.specs.Groups.{labels_of, parts, resolve_by_groups}

unfoldable pub four : RegInfo
four =
    record {
      units = 4;
      banks = record { size = 3; top = 0; stack = 1 } ∷ [];
      regs = single 0 ∷ single 1 ∷ single 2 ∷ single 3 ∷ [];
      classes =
          record { bank = 0; slots = 1; members = 0 ∷ 1 ∷ 2 ∷ 3 ∷ []; order = 0 ∷ 1 ∷ 2 ∷ 3 ∷ [] }
          ∷ record { bank = 0; slots = 0; members = 0 ∷ 1 ∷ 2 ∷ 3 ∷ []; order = 0 ∷ 1 ∷ 2 ∷ 3 ∷ [] }
          ∷ [];
    }

-- four values, none rebuildable; N and L
abbrev pub vals : ℕ → ℕ → Function
vals n l = over (fixed 0 ∷ fixed 0 ∷ fixed 0 ∷ fixed 0 ∷ []) n l

-- the answer on four registers; the greatest position met
abbrev pub on_four : ℕ → ℕ → List ℕ → List Entry → ℕ → Answer
on_four n l free es room = resolve_by_groups four (vals n l) (patch free es) room empty_cache

abbrev pub on_three : Function → List ℕ → List Entry → ℕ → Answer
on_three f free es room = resolve_by_groups three f (patch free es) room empty_cache

abbrev pub position_of : Answer → ℕ
position_of (refused n) = 0
position_of (resolved es c n) = n

-- r0 and r1 exchanged, r2 to r3
abbrev pub sparing : List Entry
sparing = move (reg 0) (reg 1) 0 ∷ move (reg 1) (reg 0) 1 ∷ move (reg 2) (reg 3) 2 ∷ []

abbrev pub sparing-after : List Entry
sparing-after = move (reg 2) (reg 3) 0 ∷ move (reg 0) (reg 1) 1 ∷ move (reg 1) (reg 0) 2 ∷ []

abbrev pub mixed : List Entry
mixed = move (reg 0) (reg 1) 0 ∷ move (reg 2) (reg 3) 1 ∷ move (reg 1) (reg 0) 2 ∷ move (reg 3) (reg 2) 3 ∷ []

abbrev pub linking : List Entry
linking = move (reg 0) (reg 1) 0 ∷ move (reg 2) (reg 3) 1 ∷ move (reg 1) (reg 2) 2 ∷ []

-- slots exchanged, then r0 and r1; and the other way round
abbrev pub slots-first : List Entry
slots-first = move (slot 0) (slot 1) 0 ∷ move (slot 1) (slot 0) 1 ∷ move (reg 0) (reg 1) 2 ∷ move (reg 1) (reg 0) 3 ∷ []

abbrev pub slots-last : List Entry
slots-last = move (reg 0) (reg 1) 0 ∷ move (reg 1) (reg 0) 1 ∷ move (slot 0) (slot 1) 2 ∷ move (slot 1) (slot 0) 3 ∷ []

abbrev pub repeated : List Entry
repeated = move (reg 0) (reg 1) 0 ∷ move (reg 2) (reg 3) 1 ∷ move (reg 0) (reg 1) 0 ∷ []

pub record GroupTrials : Type 0 where
  pub accepted : target.Accepted four
  -- unit 2 is free, but a source of another group holds it: before that group has run, and after
  pub spared :
      Gives (on_four 0 1 (2 ∷ []) sparing 24) (Move (slot 0) (reg 1) 1 ∷ Move (reg 1) (reg 0) 0 ∷ Move (reg 0) (slot 0) 1 ∷ Move (reg 3) (reg 2) 2 ∷ []) 1
      (0 ∷ [])
  pub spared-after :
      Gives (on_four 0 1 (2 ∷ []) sparing-after 24) (Move (reg 3) (reg 2) 0 ∷ Move (slot 0) (reg 1) 2 ∷ Move (reg 1) (reg 0) 1 ∷ Move (reg 0) (slot 0) 2 ∷ []) 1
      (0 ∷ [])
  -- the groups' entries lie between each other's; the second takes the slot that the first put back
  pub between :
      Gives (on_four 0 1 [] mixed 32)
      (Move (slot 0) (reg 1) 2 ∷ Move (reg 1) (reg 0) 0 ∷ Move (reg 0) (slot 0) 2 ∷ Move (slot 0) (reg 3) 3 ∷ Move (reg 3) (reg 2) 1 ∷ Move (reg 2) (slot 0) 3 ∷ []) 1
      (0 ∷ [])
  pub between-labels : labels_of four (patch [] mixed) ≡ 0 ∷ 1 ∷ 0 ∷ 1 ∷ []
  -- a third entry links two: one group
  pub linked : Gives (on_four 0 1 [] linking 24) (Move (reg 3) (reg 2) 1 ∷ Move (reg 2) (reg 1) 2 ∷ Move (reg 1) (reg 0) 0 ∷ []) 0 []
  pub linked-labels : labels_of four (patch [] linking) ≡ 0 ∷ 0 ∷ 0 ∷ []
  -- the source of a move that becomes a rebuild links too
  pub rebuilt-source :
      Gives (on_three (rematerializable 1 1) [] (move (slot 0) (reg 1) 0 ∷ move (slot 0) (reg 2) 1 ∷ []) 9) (Move (reg 2) (slot 0) 1 ∷ Rematerialize (reg 1) 0 ∷ []) 0
      []
  -- a group's own sources stay free for it
  pub own-source :
      Gives (on_three (rematerializable 2 1) (2 ∷ []) (move (reg 2) (slot 0) 1 ∷ move (slot 0) (slot 1) 0 ∷ []) 13)
      (Move (slot 0) (reg 2) 1 ∷ Rematerialize (reg 2) 0 ∷ Move (slot 1) (reg 2) 0 ∷ []) 0 []
  -- a slot goes on to the next group
  pub slot-handed-on :
      Gives (on_four 2 2 [] slots-first 32)
      (EmergencySpill 3 3
      ∷ Move (reg 3) (slot 1) 1
      ∷ Move (slot 2) (reg 3) 1
      ∷ Move (reg 3) (slot 0) 0
      ∷ Move (slot 1) (reg 3) 0
      ∷ Move (reg 3) (slot 2) 1
      ∷ Move (slot 0) (reg 3) 1
      ∷ EmergencyReload 3 3
      ∷ Move (slot 3) (reg 1) 3
      ∷ Move (reg 1) (reg 0) 2
      ∷ Move (reg 0) (slot 3) 3
      ∷ []) 2 (3 ∷ 2 ∷ [])
  -- 17 in the second of two groups refuses both, and the cache stays
  pub later-17 : on_four 2 1 [] slots-last 32 ≡ refused 17
  pub later-17-stays : cache_after empty_cache (on_four 2 1 [] slots-last 32) ≡ empty_cache
  -- a move that is dropped is in the group of the one kept; the bound is the whole patch's
  pub dropped : Gives (on_four 0 1 [] repeated 16) (Move (reg 1) (reg 0) 0 ∷ Move (reg 3) (reg 2) 1 ∷ []) 0 []
  pub dropped-16 : on_four 0 1 [] repeated 15 ≡ refused 16
  -- a number of the whole patch comes before a group's 17
  pub whole-first : on_four 0 0 [] sparing 23 ≡ refused 16
  -- the greatest position of all groups, whichever met it
  pub position_first : position_of (on_four 0 1 [] sparing 24) ≡ 4
  pub position-last : position_of (on_four 0 1 [] sparing-after 24) ≡ 4
  -- no entries: no group and no edits, a resolved patch all the same
  pub no-entries : Gives (on_four 0 1 (2 ∷ []) [] 0) [] 0 []
  pub no-groups : parts four (patch (2 ∷ []) []) ≡ []
