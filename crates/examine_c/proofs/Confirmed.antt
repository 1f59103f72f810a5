-- What an opened function's call is answered gets a yes: by the theorem about every list of ours.
use Prim.Native.Nat.{ℕ}
use mathlib.Core.Path.{◌≡◌, refl}
use mathlib.Core.List.{List}
use mathlib.Core.Option.{Option, none, some}
use Rattle.reginfo.specs.RegInfo.{RegInfo}
use Rattle.function.specs.Function.{Function}
use Rattle.rules.specs.Scratch.{Cache}
use Rattle.rules.specs.Patch.{Answer, refused, resolved, resolve}
use Rattle.rules.specs.Take.{resolving}
use Rattle.group_rules.specs.Requests.{Request, single, reached}
use Rattle.calls.specs.Call.{free_refusal, patch_of, call_of}
use Rattle.examine_rules.specs.Ours.{Passes, handed}
use Rattle.examine_rules.proofs.Ours.{ours}
use Rattle.examine_c.specs.Call.{examine_call, Confirmed, CallsConfirmed}

module _ (t : RegInfo) (f : Function) (us numbers : List ℕ) where
  given : (q : Option ℕ) → free_refusal t.units us ≡ q → (room : ℕ) (c : Cache) → Passes t f f.limit (patch_of us numbers) (resolve t f (patch_of us numbers) room c) → Confirmed t f us numbers (call_of t f us numbers room c)
  unfolding call_of examine_call
  given (some n) e room c h = rw e tt
  given none e room c h = rw e (go (resolve t f (patch_of us numbers) room c) h)
    where
      go : (r : Answer) → Passes t f f.limit (patch_of us numbers) r → Confirmed t f us numbers r
      go (refused n) h = tt
      go (resolved es c n) h = rw e h

pub calls-confirmed : CallsConfirmed
unfolding handed
calls-confirmed t f ta fa l us numbers room =
    given t f us numbers (free_refusal t.units us) refl room (reached t f l).now.cache (ours t f ta fa l (single (resolving (patch_of us numbers) room)))
