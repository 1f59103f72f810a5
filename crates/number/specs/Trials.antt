-- Bytes read as a number: the ends of each length, and each refusal.
use Rattle.std.specs.Prelude.{◌≡◌, [], ◌∷◌}
use Rattle.number.specs.Read.{got, refused}
use Rattle.number.specs.Number.{number, encoded}

pub record Trials : Type 0 where
  pub zero-is-read : number (0 ∷ 7 ∷ []) ≡ got 0 (7 ∷ [])
  pub last-of-one : number (127 ∷ []) ≡ got 127 []
  pub first-of-two : number (128 ∷ 1 ∷ 9 ∷ []) ≡ got 128 (9 ∷ [])
  pub low-group-first : number (133 ∷ 2 ∷ []) ≡ got 261 []
  pub last-of-all : number (255 ∷ 255 ∷ 255 ∷ 255 ∷ 15 ∷ 3 ∷ []) ≡ got 4294967295 (3 ∷ [])
  pub written : encoded 4294967295 ≡ 255 ∷ 255 ∷ 255 ∷ 255 ∷ 15 ∷ []
  pub no_byte : number [] ≡ refused 1
  pub cut_off : number (128 ∷ 255 ∷ []) ≡ refused 1
  pub not-shortest : number (128 ∷ 0 ∷ []) ≡ refused 1
  pub not-shortest-later : number (129 ∷ 128 ∷ 0 ∷ []) ≡ refused 1
  pub two-to-the-32 : number (128 ∷ 128 ∷ 128 ∷ 128 ∷ 16 ∷ []) ≡ refused 1
  pub over-five : number (128 ∷ 128 ∷ 128 ∷ 128 ∷ 128 ∷ 1 ∷ []) ≡ refused 1
