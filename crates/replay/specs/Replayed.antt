-- What it says of a record that it was replayed.
use Rattle.std.specs.Prelude.{ℕ, Bool, List, leb, length}
use Rattle.entity.specs.Logic.{and}
use Rattle.records.specs.Bytes.{same_list}
use Rattle.records.specs.Told.{text_of}

-- the recorded text is that of the answer of the job with its setting, which has room
abbrev pub is_replayed : (kept : ℕ) → List ℕ → List ℕ → Bool
is_replayed kept s text = and (leb (length (text_of kept s)) 65536) (same_list text (text_of kept s))
