-- 02 e with 02 k: what a patch costs that is resolved by groups.
use Rattle.std.specs.Prelude.{ℕ, ◌^◌, ◌<◌, ◌≤◌, ◌≡◌, true, List, length}
use Rattle.reginfo.specs.RegInfo.{RegInfo}
use Rattle.reginfo.specs.Refused as target
use Rattle.function.specs.Function.{Function}
use Rattle.function.specs.Refused as function
use Rattle.rules.specs.Edit.{Edit}
use Rattle.rules.specs.Scratch.{Cache}
use Rattle.rules.specs.Patch.{Patch, resolved}
use Rattle.price.specs.declared.Prices.{Prices}
use Rattle.price.specs.Price.{in_range, price_of}
use Rattle.price.specs.Totals.{from_first}
use Rattle.group_rules.specs.Groups.{resolve_by_groups}

-- as of one resolved at once (`Few` of job/specs/Priced): the joined list has at most 1,024 edits, and its total is below 2^26, so that its product
-- with a run count is exact
abbrev pub FewByGroups : Type 0
FewByGroups =
    (p : Prices) → in_range p ≡ true → (t : RegInfo) (f : Function) → target.Accepted t → function.Accepted t f
    → (q : Patch) (room : ℕ) (c c' : Cache) (es : List Edit) (n : ℕ) → resolve_by_groups t f q room c ≡ resolved es c' n
    → (length es ≤ 1024) × (from_first (price_of p) es < 2 ^ 26)
