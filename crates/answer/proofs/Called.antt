-- A patch at an offset: why it was turned away, or what its call gave.
use Prim.Native.Nat.{ℕ, ◌≤◌}
use mathlib.Core.Path.{◌≡◌, refl, sym, ap}
use mathlib.Core.List.{List, ◌++◌, map}
use native.Mathlib.Omega.{arith}
use lib.ListN.{length, drop}
use Rattle.reginfo.specs.RegInfo.{RegInfo}
use Rattle.reginfo.specs.Refused as target
use Rattle.reginfo.specs.Table.{reg_info_of}
use Rattle.function.specs.Function.{Function}
use Rattle.function.specs.Known.{Checked}
use Rattle.function.specs.Refused as function
use Rattle.function.specs.Table.{function_of}
use Rattle.rules.specs.Edit.{Edit}
use Rattle.rules.specs.Scratch.{Cache}
use Rattle.rules.specs.Patch.{Patch, Answer, sorted, bound, resolve}
use Rattle.rules.specs.Patch as rules
use Rattle.rules.proofs.Accepted.{accepted}
use Rattle.machine.proofs.Bound.{bound-ok}
use Rattle.edit.specs.Word.{word_of, AllInRange}
use Rattle.slots.specs.Stacks.{cache_of}
use Rattle.number.specs.Read.{Read, got, refused}
use Rattle.parallel_moves.specs.Given.{CacheOk}
use Rattle.job_patch.specs.Patches.{patch}
use Rattle.job.specs.declared.Step.TheVariants.{Edits, Refused}
use Rattle.job_rules.specs.Job.{Resolver}
use Rattle.job.specs.Steps.{CallAt, StepAt}
use Rattle.job_rules.proofs.Room.{room-for-every}

-- a call by `by` gives no more edits than the bound
abbrev pub Bounded : Resolver → Type 0
Bounded by =
    (t : RegInfo) (f : Function) → target.Accepted t → function.Accepted t f → (p : Patch) (room : ℕ) (c c' : Cache) (es : List Edit) (n : ℕ) → by t f p room c ≡ rules.resolved es c' n
    → length es ≤ bound (sorted t f p)

pub resolve-bounded : Bounded resolve
resolve-bounded t f ta fa p room c c' es n e = bound-ok t f ta fa p room c c' es (accepted t f p room c c' es n e)

module _ (by : Resolver) (t f s list cache list' cache' : List ℕ) where
  abbrev T : RegInfo
  T = reg_info_of t

  abbrev F : Function
  F = function_of f

  abbrev call : Patch → Answer
  call p = by T F p (length list) (cache_of cache)

  -- it is not read, or its call is refused
  pub data Turned (k : ℕ) (x : Read Patch) : Type 0 where
    unread : x ≡ refused k → Turned k x
    uncalled : (p : Patch) (r : List ℕ) → x ≡ got p r → call p ≡ rules.refused k → Turned k x

  call-turned : (a : Answer) (next k : ℕ) → CallAt f a next (Refused k) list list' cache cache' → (a ≡ rules.refused k) × (list' ≡ list)
  call-turned (rules.refused j) next k h = let e : k ≡ j = cc in (ap rules.refused (sym e), h.1)
  call-turned (rules.resolved es c m) next k h = absurd (let z : ◌≡◌ {A = ℕ} 0 1 = cc in omega arith)

  pub turned : (x : Read Patch) (k : ℕ) → StepAt by t f s x (Refused k) list list' cache cache' → Turned k x × (list' ≡ list)
  turned (refused j) k h = let e : k ≡ j = cc in (unread (ap refused (sym e)), h.1)
  turned (got p r) k h = let w = call-turned (call p) h.0 k h.3 in (uncalled p r refl w.0, w.1)

  -- it is read and resolved
  pub record Called (count met next : ℕ) (x : Read Patch) : Type 0 where
    pub p : Patch
    pub rest : List ℕ
    pub es : List Edit
    pub after : Cache
    pub reads : x ≡ got p rest
    pub calls : call p ≡ rules.resolved es after met
    pub on : rest ≡ drop next s
    pub past : next ≤ length s
    pub counted : count ≡ length es
    pub listed : list' ≡ map word_of es ++ drop (length es) list
    pub ranged : AllInRange es
    pub cache-is : cache_of cache' ≡ after
    pub cached : CacheOk f cache'

  call-resolved : (p : Patch) (r : List ℕ) (y count met next : ℕ) (a : Answer) → call p ≡ a → r ≡ drop y s → y ≤ length s → CallAt f a y (Edits count met next) list list' cache cache' → Called count met next (got p r)
  call-resolved p r y count met next (rules.refused j) i e q h = absurd (let z : ◌≡◌ {A = ℕ} 0 1 = cc in omega arith)
  call-resolved p r y count met next (rules.resolved es c m) i e q h =
      let n : count ≡ length es = cc in
      let x : next ≡ y = cc in
      let z : met ≡ m = cc in
      record {
        p = p;
        rest = r;
        es = es;
        after = c;
        reads = refl;
        calls = rw z i;
        on = rw x e;
        past = rw x q;
        counted = n;
        listed = h.1;
        ranged = h.2;
        cache-is = h.3;
        cached = h.4;
      }

  pub called : (x : Read Patch) (count met next : ℕ) → StepAt by t f s x (Edits count met next) list list' cache cache' → Called count met next x
  called (refused j) count met next h = absurd (let z : ◌≡◌ {A = ℕ} 0 1 = cc in omega arith)
  called (got p r) count met next h = call-resolved p r h.0 count met next (call p) refl h.1 h.2 h.3

  -- it has 1,024 edits at most: no more than the bound, which is that of 128 entries at most
  pub few : Bounded by → (at count met next : ℕ) → Checked t f → Called count met next (patch T F (drop at s)) → count ≤ 1024
  few bounded at count met next k g =
      omega (arith, g.counted, bounded T F k.target k.function g.p (length list) (cache_of cache) g.after g.es met g.calls, room-for-every T F (drop at s) g.p g.rest g.reads)
