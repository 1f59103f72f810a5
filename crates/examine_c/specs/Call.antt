-- 02 m: a list of words examined for a patch of an opened function, given as free units and numbers; and that what such a patch is answered gets a yes.
use Rattle.std.specs.Prelude.{ℕ, ◌≡◌, List, map, ltb}
use Rattle.entity.specs.Logic.{pick}
use Rattle.reginfo.specs.RegInfo.{RegInfo}
use Rattle.reginfo.specs.Refused as target
use Rattle.function.specs.Function.{Function}
use Rattle.function.specs.Refused as function
use Rattle.rules.specs.Patch.{Answer, refused, resolved}
use Rattle.edit.specs.Word.{word_of}
use Rattle.group_rules.specs.Requests.{Request, reached}
use Rattle.calls.specs.Call.{free_refusal, patch_of, call_of}
use Rattle.examine_rules.specs.Examine.{Verdict, Yes, Refused}
use Rattle.examine_rules.specs.Words.{unless_refused, examine_patch}

module _ (t : RegInfo) (f : Function) where
  -- free units first, as `call_of` of crate calls has them, then the patch and the list
  unfoldable pub examine_call : (free numbers : List ℕ) → (most : ℕ) → (ws : List ℕ) → Verdict
  examine_call free numbers most ws = unless_refused t f (free_refusal t.units free) (examine_patch t f (patch_of free numbers) most ws)

  -- "(in a shared frame, N plus its limit)"; a limit over 2,048 is 2, tested first
  unfoldable pub examine_call_in : (limit : ℕ) → (free numbers ws : List ℕ) → Verdict
  examine_call_in limit free numbers ws = pick (ltb 2048 limit) (Refused 2) (examine_call free numbers limit ws)

  -- "Every list of ours gets a yes.": the edits of an answer to a call do, as words
  abbrev pub Confirmed : (free numbers : List ℕ) → Answer → Type 0
  Confirmed free numbers (refused n) = Unit {0}
  Confirmed free numbers (resolved es c n) = examine_call free numbers f.limit (map word_of es) ≡ Yes

-- of every call of a function, after every list of requests, those by groups, asked for and taken among them
abbrev pub CallsConfirmed : Type 0
CallsConfirmed =
    (t : RegInfo) (f : Function) → target.Accepted t → function.Accepted t f
    → (l : List Request) (free numbers : List ℕ) (room : ℕ) → Confirmed t f free numbers (call_of t f free numbers room (reached t f l).now.cache)
