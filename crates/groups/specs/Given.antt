-- Entries as numbers, four to an entry, that have passed their tests.
use Rattle.std.specs.Prelude.{ℕ, ◌+◌, ◌*◌, ◌/◌, ◌<◌, ◌≤◌, ◌≡◌, List, length, get_or}
use Rattle.entity.specs.Place.{place_at}
use Rattle.reginfo.specs.RegInfo.{RegInfo}
use Rattle.rules.specs.Patch.{Entry}
use Rattle.entries.specs.Known.{Writable}
use Rattle.group_rules.specs.Groups.{near, labels}
use Rattle.parallel_moves.specs.Given.{entry_of, entries_of}

-- how many entries there are
abbrev pub count_of : List ℕ → ℕ
count_of numbers = length numbers / 4

-- entry k
unfoldable pub entry_at : List ℕ → ℕ → Entry
entry_at numbers k = entry_of (get_or numbers (k * 4) 0) (get_or numbers (k * 4 + 1) 0) (get_or numbers (k * 4 + 2) 0) (get_or numbers (k * 4 + 3) 0)

-- the code of a place whose units can be looked up
pub record KnownCode (t : RegInfo) (c : ℕ) : Type 0 where
  pub fits : c < 65536
  pub place : Writable t (place_at c)

-- a move or an `add_remat`, each of its places known
pub record KnownEntry (t : RegInfo) (numbers : List ℕ) (k : ℕ) : Type 0 where
  pub kind : get_or numbers (k * 4) 0 ≤ 1
  pub first : KnownCode t (get_or numbers (k * 4 + 1) 0)
  pub second : get_or numbers (k * 4) 0 ≡ 0 → KnownCode t (get_or numbers (k * 4 + 2) 0)

pub record KnownEntries (t : RegInfo) (numbers : List ℕ) : Type 0 where
  pub whole : length numbers ≡ count_of numbers * 4
  pub few : count_of numbers ≤ 128
  pub each : (k : ℕ) → k < count_of numbers → KnownEntry t numbers k

-- of each entry the number of the first that it belongs together with
abbrev pub labels_in : RegInfo → List ℕ → List ℕ
labels_in t numbers = labels (near t) (entries_of numbers)
