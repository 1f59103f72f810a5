-- 02 m: "Every list of ours gets a yes."
use Rattle.std.specs.Prelude.{ℕ, ◌+◌, ◌<◌, ◌≡◌, true, List, map, length, get_or}
use Rattle.std.proofs.Math.Option.{Option, none, some}
use Rattle.entity.specs.Logic.{has}
use Rattle.reginfo.specs.RegInfo.{RegInfo}
use Rattle.reginfo.specs.Refused as target
use Rattle.function.specs.Function.{Function}
use Rattle.function.specs.Refused as function
use Rattle.rules.specs.Edit.{Edit}
use Rattle.rules.specs.Scratch.{Cache}
use Rattle.rules.specs.Patch.{Patch, Answer, refused, resolved, resolve}
use Rattle.rules.specs.Take.{resolving, asking, taking, Served, Standing, taken_of}
use Rattle.frame_rules.specs.Frame.{Inlined, open_refusal, Frame, no_formula, opened, resolve_in, taken_in}
use Rattle.group_rules.specs.Groups.{resolve_by_groups}
use Rattle.group_rules.specs.Requests.{Request, single, grouping, reached}
use Rattle.group_rules.specs.Frame.{groups_in, FrameCall, after_calls, Named}
use Rattle.edit.specs.Word.{word_of}
use Rattle.examine_rules.specs.Examine.{Yes}
use Rattle.examine_rules.specs.Examined.{AllNamed}
use Rattle.examine_rules.specs.Words.{examine_patch}

-- each edit of an accepted call names a register of the target, a value of the function and a slot that there is then, whatever cache of slots
-- made it is given
abbrev pub EditsNamed : Type 0
EditsNamed =
    (t : RegInfo) (f : Function) → target.Accepted t → function.Accepted t f
    → (p : Patch) (room : ℕ) (c c' : Cache) (es : List Edit) (m : ℕ) → ((z s : ℕ) → has s (c.stacks z) ≡ true → s < f.slots + c.made)
    → resolve t f p room c ≡ resolved es c' m → AllNamed t f c'.made es

module _ (t : RegInfo) (f : Function) where
  -- an answer's edits, as words, get a yes, where slots below N + most may be named
  abbrev pub Passes : ℕ → Patch → Answer → Type 0
  Passes most p (refused n) = Unit {0}
  Passes most p (resolved es c n) = examine_patch t f p most (map word_of es) ≡ Yes

  abbrev pub AllPass : ℕ → Option Standing → Type 0
  AllPass most none = Unit {0}
  AllPass most (some y) = Passes most y.patch y.answer

  -- what a request is told, and of which patch: resolved, by groups, taken, and also where it is only asked for
  unfoldable pub handed : Request → Served → Option Standing
  handed (single (resolving p room)) s = some (record { patch = p; answer = resolve t f p room s.now.cache })
  handed (single (asking p room)) s = some (record { patch = p; answer = resolve t f p room s.now.cache })
  handed (single (taking n)) s = taken_of (get_or s.asked n none) s.now
  handed (grouping p room) s = some (record { patch = p; answer = resolve_by_groups t f p room s.now.cache })

-- of every request after every list of requests, with one kept eviction or two
abbrev pub Ours : Type 0
Ours = (t : RegInfo) (f : Function) → target.Accepted t → function.Accepted t f → (l : List Request) (x : Request) → AllPass t f f.limit (handed t f x (reached t f l))

-- the same in a shared frame
unfoldable pub handed_in : Frame → ℕ → Request → Option Standing
handed_in s i (single (resolving p room)) = some (record { patch = p; answer = resolve_in s i p room })
handed_in s i (single (asking p room)) = some (record { patch = p; answer = resolve_in s i p room })
handed_in s i (single (taking n)) = taken_in (get_or (s.formulas i).asked n none) s i
handed_in s i (grouping p room) = some (record { patch = p; answer = groups_in s i p room })

-- by the formula's own target and function, where a slot below N plus the frame's limit may be named: of every call after every list of calls
abbrev pub OursInFrame : Type 0
OursInFrame =
    (limit : ℕ) (l : List Inlined) → open_refusal limit l ≡ none → (calls : List FrameCall) → Named (length l) calls → (x : FrameCall) → x.formula < length l
    → AllPass (get_or l x.formula no_formula).target (get_or l x.formula no_formula).function limit (handed_in (after_calls calls (opened limit l)) x.formula x.request)
