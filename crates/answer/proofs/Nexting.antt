-- A patch answered into a list of 1,024 words: what the answers of the whole job are from there on.
use Prim.Native.Nat.{ℕ, suc, ◌≤◌}
use mathlib.Core.Path.{◌≡◌, ap}
use mathlib.Core.List.{List, map}
use mathlib.Core.Option.{some}
use lib.ListN.{length, take, drop}
use Rattle.reginfo.specs.RegInfo.{RegInfo}
use Rattle.reginfo.specs.Table.{reg_info_of}
use Rattle.function.specs.Function.{Function}
use Rattle.function.specs.Table.{function_of}
use Rattle.rules.specs.Scratch.{Cache}
use Rattle.rules.specs.Patch.{resolve}
use Rattle.edit.specs.Word.{word_of, AllInRange}
use Rattle.slots.specs.Stacks.{cache_of}
use Rattle.parallel_moves.specs.Given.{CacheOk}
use Rattle.print.proofs.Printing.{front-words, front_fits}
use Rattle.job_patch.specs.Patches.{patch}
use Rattle.job.specs.declared.Step.TheVariants.{Edits, Refused}
use Rattle.job_rules.specs.Job.{Done, ends_with, before, patches_by, patches}
use Rattle.job.specs.Steps.{StepAt}
use Rattle.answer.specs.Whole.{rest}
use Rattle.answer.proofs.Called.{Turned, unread, uncalled, turned, Called, called}

module _ (t f s : List ℕ) (at : ℕ) (list : List ℕ) (len : length list ≡ 1024) (cache list' cache' : List ℕ) where
  abbrev T : RegInfo
  T = reg_info_of t

  abbrev F : Function
  F = function_of f

  ends : (k left : ℕ) → Turned resolve t f s list cache list' cache' k (patch T F (drop at s)) → rest t f s at cache (suc left) ≡ ends_with (some k)
  unfolding patches_by
  ends k left (unread e) = rw e
  ends k left (uncalled p r e h) = rw (e, rw len at h)

  pub next-refused : (k : ℕ) → StepAt resolve t f s (patch T F (drop at s)) (Refused k) list list' cache cache' → (left : ℕ) → rest t f s at cache (suc left) ≡ ends_with (some k)
  next-refused k h left = ends k left (turned resolve t f s list cache list' cache' (patch T F (drop at s)) k h).0

  pub record Resolved (count met next : ℕ) : Type 0 where
    pub done : Done
    pub goes_on : (left : ℕ) → rest t f s at cache (suc left) ≡ before done (patches T F left (cache_of cache') (drop next s))
    pub counted : count ≡ length done.edits
    pub listed : take count list' ≡ map word_of done.edits
    pub within : count ≤ length list'
    pub ranged : AllInRange done.edits
    pub made : (cache_of cache').made ≡ done.made
    pub cached : CacheOk f cache'
    pub past : next ≤ length s

  module _ (count met next : ℕ) (g : Called resolve t f s list cache list' cache' count met next (patch T F (drop at s))) where
    goes_on : (left : ℕ) → rest t f s at cache (suc left) ≡ before (record { edits = g.es; made = g.after.made; position = met }) (patches T F left (cache_of cache') (drop next s))
    unfolding patches_by
    goes_on left = rw (g.reads, rw len at g.calls, g.cache-is, g.on)

    is-resolved : Resolved count met next
    is-resolved =
        record {
          done = record { edits = g.es; made = g.after.made; position = met };
          goes_on = goes_on;
          counted = g.counted;
          listed = rw g.counted (front-words list' _ g.es g.ranged g.listed).are;
          within = rw g.counted (front_fits list' _ g.es g.listed);
          ranged = g.ranged;
          made = ap (λ (d : Cache). d.made) g.cache-is;
          cached = g.cached;
          past = g.past;
        }

  pub resolved : (count met next : ℕ) → StepAt resolve t f s (patch T F (drop at s)) (Edits count met next) list list' cache cache' → Resolved count met next
  resolved count met next h = is-resolved count met next (called resolve t f s list cache list' cache' (patch T F (drop at s)) count met next h)
