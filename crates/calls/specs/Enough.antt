-- 02 j of the calls on a function that was opened, whatever setting and bytes it took: what crate parallel_moves says of a list, each call with its
-- patch.
use Rattle.std.specs.Prelude.{ℕ, ◌+◌, ◌*◌, ◌≤◌, List, [], map}
use Rattle.reginfo.specs.Table.{reg_info_of}
use Rattle.function.specs.Table.{function_of}
use Rattle.machine.specs.Enough.{num_sizes}
use Rattle.parallel_moves.specs.Enough.{NeverOut, SizesClaim}
use Rattle.calls.specs.declared.Opened.TheVariants.{Yes}
use Rattle.calls.specs.Opening.{opened, OpenedAs}
use Rattle.calls.specs.Claim.{Made, patched, Called}

-- so many a size and so many more as evictions are kept: no call answers 17
abbrev pub EnoughWith : ℕ → Type 0
EnoughWith n =
    (kept : ℕ) (bytes t f cache cache' : List ℕ) → OpenedAs (opened kept bytes) Yes t f cache cache' → (n + kept) * num_sizes (reg_info_of t) (function_of f) ≤ (function_of f).limit
    → (calls : List Made) → Called t f calls cache' → NeverOut (map patched calls)

-- "129 times the number of different slot sizes among its banks [..]. With two, 130 stands for 129."
abbrev pub Enough : Type 0
Enough = EnoughWith 128

-- one fewer of each size is enough too
abbrev pub FewerEnough : Type 0
FewerEnough = EnoughWith 127

-- "between patches every slot made lies in the stack of its size once"
abbrev pub EachOfItsSize : Type 0
EachOfItsSize =
    (kept : ℕ) (bytes t f cache cache' : List ℕ) → OpenedAs (opened kept bytes) Yes t f cache cache' → (calls : List Made) → Called t f calls cache'
    → SizesClaim t f (map patched calls) [] cache'
