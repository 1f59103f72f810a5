-- The opening of a job, and how its text stands then.
use Prim.Native.Nat.{ℕ, ◌<◌}
use mathlib.Core.Path.{◌≡◌, refl, sym, ap, ◌∙◌}
use mathlib.Core.List.{List, append-nil}
use mathlib.Core.Option.{some}
use native.Mathlib.Omega.{arith}
use lib.ListN.{take, drop}
use Rattle.reginfo.specs.Table.{reg_info_of}
use Rattle.function.specs.Known.{Checked}
use Rattle.function.specs.Table.{function_of}
use Rattle.rules.specs.Scratch.{Cache, empty_cache}
use Rattle.slots.specs.Steps.{Cleared}
use Rattle.number.specs.Read.{Read, got, refused}
use Rattle.number.specs.declared.Number.TheVariants as N
use Rattle.parallel_moves.proofs.Resolving.{fresh}
use Rattle.print.specs.Put.{Put}
use Rattle.answer_text.specs.Lines.{refusal_text}
use Rattle.job_rules.specs.Job.{Header, Answers, ends_with, after_read, opening, patches, job_by, job}
use Rattle.job.specs.Steps.{HeaderAt}
use Rattle.answer.specs.Words.{done_text, job_text}
use Rattle.answer.proofs.MostWords as header
use Rattle.job_text.specs.declared.Progress.{Progress}
use Rattle.job_text.specs.Standing.{starting, Ends, Stands}
use Rattle.job_text.proofs.Standing.{held-put, put-room}

abbrev read_as : Read Header → Answers
read_as x = after_read x (λ h r. patches h.target h.function h.patches empty_cache r)

opens : (kept : ℕ) (s : List ℕ) → job kept s ≡ read_as (opening kept s)
unfolding job_by
opens kept s = refl

module _ (kept : ℕ) (s t f : List ℕ) where
  header_refused : (k : ℕ) (x : Read Header) → HeaderAt s x (N.Refused k) t f → read_as x ≡ ends_with (some k)
  header_refused k (refused j) h = let e : k ≡ j = cc in ap (λ (n : ℕ). ends_with (some n)) (sym e)
  header_refused k (got x r) h = absurd (let z : ◌≡◌ {A = ℕ} 0 1 = cc in omega arith)

  header-known : (count at : ℕ) (x : Read Header) → HeaderAt s x (N.Is count at) t f → Checked t f
  header-known count at (refused j) h = absurd (let z : ◌≡◌ {A = ℕ} 0 1 = cc in omega arith)
  header-known count at (got x r) h = h.6

  header-setting : (count at : ℕ) (x : Read Header) → opening kept s ≡ x → HeaderAt s x (N.Is count at) t f → (function_of f).kept ≡ kept
  header-setting count at (refused j) e h = absurd (let z : ◌≡◌ {A = ℕ} 0 1 = cc in omega arith)
  header-setting count at (got x r) e h = rw h.5 (header.opens kept s x r e).setting

  header_read : (count at : ℕ) (x : Read Header) → HeaderAt s x (N.Is count at) t f → read_as x ≡ patches (reg_info_of t) (function_of f) count empty_cache (drop at s)
  header_read count at (refused j) h = absurd (let z : ◌≡◌ {A = ℕ} 0 1 = cc in omega arith)
  header_read count at (got x r) h =
      let n : count ≡ x.patches = cc in
      let a : at ≡ h.0 = cc in
      rw (n, a, h.2, h.4, h.5)

  -- a refused opening is all that is told
  pub turned-away : (cache out out' : List ℕ) (k : ℕ) (p r : Progress) → HeaderAt s (opening kept s) (N.Refused k) t f → p ≡ starting 0 0 → Ends p r → Put out out' p.held (refusal_text k) r.held → Stands kept t f s cache out' r
  unfolding done_text
  turned-away cache out out' k p r h b x w =
      let e : job kept s ≡ ends_with (some k) = opens kept s ∙ header_refused k (opening kept s) h in
      let z : r.written ≡ 0 = x.kept ∙ ap (λ (p : Progress). p.written) b in
      let y : p.held ≡ 0 = ap (λ (p : Progress). p.held) b in
      record {
        text = rw (z, x.over, append-nil (take r.held out'), held-put w, y, e);
        within = rw z (omega arith);
        room = put-room w;
        short = omega (arith, x.short);
        going = λ g. absurd (let z : ◌≡◌ {A = ℕ} 0 1 = cc in omega arith);
      }

  pub begun-stands : {before : List ℕ} (cache out : List ℕ) (count at : ℕ) → HeaderAt s (opening kept s) (N.Is count at) t f → Cleared before cache → count < 4294967296 → Stands kept t f s cache out (starting at count)
  begun-stands cache out count at h c few =
      let e : job kept s ≡ patches (reg_info_of t) (function_of f) count empty_cache (drop at s) = opens kept s ∙ header_read count at (opening kept s) h in
      record {
        text = ap job_text (e ∙ ap (λ (k : Cache). patches (reg_info_of t) (function_of f) count k (drop at s)) (sym c.empty));
        within = omega arith;
        room = omega arith;
        short = omega arith;
        going = λ _. record { checked = header-known count at (opening kept s) h; setting = header-setting count at (opening kept s) refl h; cached = fresh f cache c; few = omega arith; short = omega arith };
      }
