-- The opening of a job, and what the answers of the whole job are then.
use Prim.Native.Nat.{ℕ}
use mathlib.Core.Path.{◌≡◌, refl, sym, ap, subst, ◌∙◌}
use mathlib.Core.List.{List}
use mathlib.Core.Option.{some}
use native.Mathlib.Omega.{arith}
use lib.ListN.{length, drop}
use Rattle.reginfo.specs.Table.{reg_info_of}
use Rattle.function.specs.Known.{Checked}
use Rattle.function.specs.Table.{function_of}
use Rattle.rules.specs.Scratch.{Cache, empty_cache}
use Rattle.slots.specs.Stacks.{cache_of}
use Rattle.slots.specs.Steps.{Cleared}
use Rattle.number.specs.Read.{Read, got, refused}
use Rattle.number.specs.declared.Number.TheVariants as N
use Rattle.job_rules.specs.Job.{Resolver, Header, Answers, ends_with, after_read, opening}
use Rattle.job.specs.Steps.{HeaderAt}
use Rattle.answer.specs.Room.{patches_in, job_in_by}
use Rattle.answer.specs.Words.{words_of}
use Rattle.answer.specs.declared.Whole.{Whole}
use Rattle.answer.specs.declared.Whole.TheVariants.{Refused}
use Rattle.answer.specs.Whole.{Wholly}

none_told : (words : List ℕ) (k : ℕ) → Wholly words (ends_with (some k)) (Refused k 0) words
unfolding words_of
none_told words k = record { is = refl; fits = omega arith; stands = refl; packed = tt }

module _ (by : Resolver) where
  abbrev read_as : ℕ → Read Header → Answers
  read_as room x = after_read x (λ h r. patches_in by h.target h.function h.patches empty_cache room r)

  opens : (room kept : ℕ) (s : List ℕ) → job_in_by by room kept s ≡ read_as room (opening kept s)
  unfolding job_in_by
  opens room kept s = refl

  header_refused : (room : ℕ) (s t f : List ℕ) (k : ℕ) (x : Read Header) → HeaderAt s x (N.Refused k) t f → read_as room x ≡ ends_with (some k)
  header_refused room s t f k (refused j) h = let e : k ≡ j = cc in ap (λ (n : ℕ). ends_with (some n)) (sym e)
  header_refused room s t f k (got x r) h = absurd (let z : ◌≡◌ {A = ℕ} 0 1 = cc in omega arith)

  pub turned-away : (kept : ℕ) (s t f words : List ℕ) (k : ℕ) → HeaderAt s (opening kept s) (N.Refused k) t f → Wholly words (job_in_by by (length words) kept s) (Refused k 0) words
  turned-away kept s t f words k h = rw (opens (length words) kept s, header_refused (length words) s t f k (opening kept s) h) (none_told words k)

  module _ (kept : ℕ) (s t f : List ℕ) (count at : ℕ) where
    header-known : (x : Read Header) → HeaderAt s x (N.Is count at) t f → Checked t f
    header-known (refused j) h = absurd (let z : ◌≡◌ {A = ℕ} 0 1 = cc in omega arith)
    header-known (got x r) h = h.6

    header_read : (room : ℕ) (x : Read Header) → HeaderAt s x (N.Is count at) t f → read_as room x ≡ patches_in by (reg_info_of t) (function_of f) count empty_cache room (drop at s)
    header_read room (refused j) h = absurd (let z : ◌≡◌ {A = ℕ} 0 1 = cc in omega arith)
    header_read room (got x r) h =
        let n : count ≡ x.patches = cc in
        let a : at ≡ h.0 = cc in
        rw (n, a, h.2, h.4, h.5)

    pub known : HeaderAt s (opening kept s) (N.Is count at) t f → Checked t f
    known h = header-known (opening kept s) h

    pub all-answered : {before : List ℕ} (words cache words' : List ℕ) (r : Whole) → HeaderAt s (opening kept s) (N.Is count at) t f → Cleared before cache
        → Wholly words (patches_in by (reg_info_of t) (function_of f) count (cache_of cache) (length words) (drop at s)) r words' → Wholly words (job_in_by by (length words) kept s) r words'
    all-answered words cache words' r h c w =
        let e : patches_in by (reg_info_of t) (function_of f) count (cache_of cache) (length words) (drop at s) ≡ job_in_by by (length words) kept s =
        ap (λ (k : Cache). patches_in by (reg_info_of t) (function_of f) count k (length words) (drop at s)) c.empty ∙ sym (opens (length words) kept s ∙ header_read (length words) (opening kept s) h) in
        subst (λ (a : Answers). Wholly words a r words') e w
