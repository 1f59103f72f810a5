-- 01, The job: what is printed of swap-full.
use Rattle.std.specs.Prelude.{ℕ, ◌≡◌, List, [], ◌∷◌, ◌++◌}
use Rattle.entity.specs.Place.{reg, slot}
use Rattle.rules.specs.Edit.{Move, Rematerialize, EmergencySpill, EmergencyReload}
use Rattle.print.specs.Text.{decimal, edit_line, patch_text, refused_line}

-- patch 1 edits 3 made 1, M s0 r1 1, M r1 r0 0, M r0 s0 1
abbrev pub swap_full : List ℕ
swap_full =
    (112 ∷ 97 ∷ 116 ∷ 99 ∷ 104 ∷ 32 ∷ 49 ∷ 32 ∷ 101 ∷ 100 ∷ 105 ∷ 116 ∷ 115 ∷ 32 ∷ 51 ∷ 32 ∷ 109 ∷ 97 ∷ 100 ∷ 101 ∷ 32 ∷ 49 ∷ 10 ∷ [])
    ++ ((77 ∷ 32 ∷ 115 ∷ 48 ∷ 32 ∷ 114 ∷ 49 ∷ 32 ∷ 49 ∷ 10 ∷ [])
    ++ ((77 ∷ 32 ∷ 114 ∷ 49 ∷ 32 ∷ 114 ∷ 48 ∷ 32 ∷ 48 ∷ 10 ∷ [])
    ++ (77 ∷ 32 ∷ 114 ∷ 48 ∷ 32 ∷ 115 ∷ 48 ∷ 32 ∷ 49 ∷ 10 ∷ [])))

pub record Trials : Type 0 where
  pub swap-full : patch_text 1 (Move (slot 0) (reg 1) 1 ∷ Move (reg 1) (reg 0) 0 ∷ Move (reg 0) (slot 0) 1 ∷ []) 1 ≡ swap_full
  -- R r12 4095, S s2 r10, L r511 s2
  pub rebuild : edit_line (Rematerialize (reg 12) 4095) ≡ 82 ∷ 32 ∷ 114 ∷ 49 ∷ 50 ∷ 32 ∷ 52 ∷ 48 ∷ 57 ∷ 53 ∷ 10 ∷ []
  pub save : edit_line (EmergencySpill 2 10) ≡ 83 ∷ 32 ∷ 115 ∷ 50 ∷ 32 ∷ 114 ∷ 49 ∷ 48 ∷ 10 ∷ []
  pub reload : edit_line (EmergencyReload 511 2) ≡ 76 ∷ 32 ∷ 114 ∷ 53 ∷ 49 ∷ 49 ∷ 32 ∷ 115 ∷ 50 ∷ 10 ∷ []
  -- refused 17
  pub refusal : refused_line 17 ≡ 114 ∷ 101 ∷ 102 ∷ 117 ∷ 115 ∷ 101 ∷ 100 ∷ 32 ∷ 49 ∷ 55 ∷ 10 ∷ []
  -- 4294967295
  pub largest : decimal 4294967295 ≡ 52 ∷ 50 ∷ 57 ∷ 52 ∷ 57 ∷ 54 ∷ 55 ∷ 50 ∷ 57 ∷ 53 ∷ []
