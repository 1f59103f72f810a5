-- What a call by groups is answered with: its free units first, then its patch by the rules.
use Rattle.std.specs.Prelude.{ℕ, List}
use Rattle.reginfo.specs.RegInfo.{RegInfo}
use Rattle.function.specs.Function.{Function}
use Rattle.rules.specs.Scratch.{Cache}
use Rattle.rules.specs.Patch.{Answer, unless_refused}
use Rattle.group_rules.specs.Groups.{resolve_by_groups}
use Rattle.calls.specs.Call.{free_refusal, patch_of}

unfoldable pub call_by_groups : RegInfo → Function → List ℕ → List ℕ → ℕ → Cache → Answer
call_by_groups t f free numbers room c = unless_refused (free_refusal t.units free) (resolve_by_groups t f (patch_of free numbers) room c)
