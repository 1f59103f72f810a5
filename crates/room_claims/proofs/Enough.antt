-- 02 j of every whole job at every room: 17 is the number of its calls alone, and with L enough no call gets it.
use Prim.Native.Nat.{ℕ, zero, suc, ◌+◌, ◌-◌, ◌*◌, ◌≤◌}
use mathlib.Core.Path.{◌≡◌, ap, subst, sym, ◌∙◌}
use mathlib.Core.List.{List, [], ◌∷◌}
use mathlib.Core.Option.{some}
use native.Mathlib.Omega.{arith}
use lib.ListN.{length}
use Rattle.reginfo.specs.RegInfo.{RegInfo}
use Rattle.reginfo.specs.Refused as target
use Rattle.function.specs.Function.{Function}
use Rattle.function.specs.Refused as function
use Rattle.rules.specs.Scratch.{Cache, empty_cache}
use Rattle.rules.specs.Patch.{Patch, Answer, cache_after}
use Rattle.rules.specs.Patch as rules
use Rattle.machine.specs.Enough.{num_sizes}
use Rattle.job_rules.specs.Job.{Resolver, Done}
use Rattle.job_rules.proofs.Enough.{Other, of-patch, opens}
use Rattle.answer.specs.Room.{headless, call_in, job_in_by}
use Rattle.room_claims.specs.Jobs.{EndsIn, all_done, bytes_left, not-read, not-resolved, OneByOneIn, EveryJobInBy, EnoughInBy}

-- calls that keep what is asked of a cache, whatever the room: none gets 17
pub record Spares (by : Resolver) (t : RegInfo) (f : Function) (Good : Cache → Type 0) : Type 0 where
  pub first : Good empty_cache
  pub one : (p : Patch) (room : ℕ) (c : Cache) → Good c → (by t f p room c ≡ rules.refused 17 → ⊥) × Good (cache_after c (by t f p room c))

module _ (by : Resolver) (t : RegInfo) (f : Function) (Good : Cache → Type 0) (spares : Spares by t f Good) where
  call-spares : (p : Patch) (left : ℕ) (c : Cache) → Good c → (call_in by t f p left c ≡ rules.refused 17 → ⊥) × Good (cache_after c (call_in by t f p left c))
  call-spares p zero c good = go (by t f p 0 c) (spares.one p 0 c good).0
    where
      go : (a : Answer) → (a ≡ rules.refused 17 → ⊥) → (headless a ≡ rules.refused 17 → ⊥) × Good (cache_after c (headless a))
      go (rules.refused k) h = (h, good)
      go (rules.resolved es c' n) h = (λ e. let z : ◌≡◌ {A = ℕ} 16 17 = cc in omega arith, good)
  call-spares p (suc left) c good = spares.one p left c good

  ended : (n left : ℕ) (c : Cache) (l : List ℕ) → Good c → EndsIn by t f n left c l (some 17) → ⊥
  ended n left c l good (all_done z e k) = let z : ◌≡◌ {A = ℕ} 0 1 = cc in omega arith
  ended n left c l good (bytes_left z e k) = let q : ◌≡◌ {A = ℕ} 17 8 = cc in omega arith
  ended n left c l good (not-read m z e k) = let q : m ≡ 17 = cc in subst Other e (of-patch t f l) q
  ended n left c l good (not-resolved m p r z e i k) = let q : m ≡ 17 = cc in (call-spares p left c good).0 (i ∙ ap rules.refused q)

  pub never : (ds : List Done) (n left : ℕ) (c : Cache) (l : List ℕ) → Good c → OneByOneIn by t f ds (some 17) n left c l → ⊥
  never [] n left c l good h = ended n left c l good h
  never (d ∷ ds) n left c l good h =
      let x = h.1 in
      never ds (n - 1) (left - (1 + length d.edits)) x.after x.rest (rw x.calls at (call-spares x.p left c good).1) h.2

-- whatever answers the calls and whatever number of each size is enough for them
pub enough-by : (by : Resolver) → EveryJobInBy by → (n : ℕ) (Good : RegInfo → Function → Cache → Type 0)
    → ((t : RegInfo) (f : Function) → target.Accepted t → function.Accepted t f → (n + f.kept) * num_sizes t f ≤ f.limit → Spares by t f (Good t f)) → EnoughInBy by n
enough-by by every n Good spares room kept l h r e g q =
    let o = opens kept l h r e in
    let s = spares h.target h.function o.target-taken o.function-taken (subst (λ (k : ℕ). (n + k) * num_sizes h.target h.function ≤ h.function.limit) (sym o.setting) g) in
    never by h.target h.function (Good h.target h.function) s (job_in_by by room kept l).done h.patches room empty_cache r s.first (rw (e, q) at (every room kept l))
