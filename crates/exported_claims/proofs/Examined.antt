-- A yes to a list examined for a patch of a job.
use Prim.Native.Nat.{ℕ, ◌<◌, ◌≤◌}
use mathlib.Core.Path.{◌≡◌, refl}
use mathlib.Core.Bool.{Bool, true, false}
use mathlib.Core.List.{List}
use mathlib.Core.Option.{Option, none, some}
use native.Mathlib.Omega.{arith}
use lib.Dec.{ltb}
use borrow.Author.Tests.{ltb-true, ltb-false, lt-ltb, le-ltb}
use Rattle.entity.specs.Logic.{pick}
use Rattle.reginfo.specs.RegInfo.{RegInfo}
use Rattle.reginfo.specs.Refused as target
use Rattle.function.specs.Function.{Function}
use Rattle.function.specs.Refused as function
use Rattle.function.proofs.Laws.{low-limit}
use Rattle.rules.specs.Patch.{Patch}
use Rattle.number.specs.Read.{Read, got, refused}
use Rattle.job_rules.specs.Job.{Header, opening}
use Rattle.job_rules.proofs.Enough.{opens}
use Rattle.examine_rules.specs.Examine.{Yes, Refused, patch_refusal}
use Rattle.examine_rules.specs.Words.{examine_words, unless_refused, examine_patch}
use Rattle.examine_rules.proofs.Words.{words-examined}
use Rattle.job_examine.specs.Job.{patch_at, examine_read, examine_at, examine_opened, examine_job, examine_job_in}
use Rattle.exported_claims.specs.Examined.{DoesIt, JobExamined, JobExaminedIn}

not_yes : (k : ℕ) → Refused k ≡ Yes → ⊥
not_yes k e = let z : ◌≡◌ {A = ℕ} 0 1 = cc in omega arith

-- a patch that is refused gets no yes
taken : (t : RegInfo) (f : Function) (p : Patch) (most : ℕ) (ws : List ℕ) → examine_patch t f p most ws ≡ Yes → patch_refusal t f p ≡ none
unfolding examine_patch
taken t f p most ws e = go (patch_refusal t f p) e
  where
    go : (o : Option ℕ) → unless_refused t f o (examine_words t f p most ws) ≡ Yes → o ≡ none
    go none e = refl
    go (some k) e = absurd (not_yes k e)

module _ (most : Function → ℕ) (low : (t : RegInfo) (f : Function) → function.Accepted t f → most f ≤ 2048) (n : ℕ) (ws l : List ℕ) where
  -- a patch that was read
  of-patch : (h : Header) (r : List ℕ) → opening 1 l ≡ got h r → n < h.patches → (p : Patch) (q : List ℕ) → patch_at h.target h.function n r ≡ got p q
      → examine_patch h.target h.function p (most h.function) ws ≡ Yes → DoesIt most n ws l
  of-patch h r e there p q reads said =
      let o = opens 1 l h r e in
      let ok = taken h.target h.function p (most h.function) ws said in
      let w = (words-examined h.target h.function o.target-taken o.function-taken p ok (most h.function) (low h.target h.function o.function-taken) ws).yes-if.0 said in
      record {
        header = h;
        rest = r;
        patch = p;
        behind = q;
        edits = w.0;
        opens = e;
        there = there;
        reads = reads;
        accepted = ok;
        words = w.1;
        names = w.2;
        does = w.3;
      }

  of-yes : examine_opened most n ws (opening 1 l) ≡ Yes → DoesIt most n ws l
  unfolding examine_at
  of-yes said = go (opening 1 l) refl said
    where
      read : (h : Header) (r : List ℕ) → opening 1 l ≡ got h r → n < h.patches → (x : Read Patch) → patch_at h.target h.function n r ≡ x
          → examine_read h.target h.function (most h.function) ws x ≡ Yes → DoesIt most n ws l
      read h r e there (refused k) reads said = absurd (not_yes k said)
      read h r e there (got p q) reads said = of-patch h r e there p q reads said

      numbered : (h : Header) (r : List ℕ) → opening 1 l ≡ got h r → (b : Bool) → ltb n h.patches ≡ b
          → pick b (examine_read h.target h.function (most h.function) ws (patch_at h.target h.function n r)) (Refused 2) ≡ Yes → DoesIt most n ws l
      numbered h r e true there said = read h r e (ltb-true n h.patches there) (patch_at h.target h.function n r) refl said
      numbered h r e false there said = absurd (not_yes 2 said)

      go : (x : Read Header) → opening 1 l ≡ x → examine_opened most n ws x ≡ Yes → DoesIt most n ws l
      go (refused k) e said = absurd (not_yes k said)
      go (got h r) e said = numbered h r e (ltb n h.patches) refl said

  to-yes : DoesIt most n ws l → examine_opened most n ws (opening 1 l) ≡ Yes
  unfolding examine_at
  to-yes d =
      let o = opens 1 l d.header d.rest d.opens in
      let said =
      (words-examined d.header.target d.header.function o.target-taken o.function-taken d.patch d.accepted (most d.header.function)
      (low d.header.target d.header.function o.function-taken) ws).yes-if.1 (d.edits, d.words, d.names, d.does) in
      rw (d.opens, lt-ltb n d.header.patches d.there, d.reads) said

pub job-examined : JobExamined
unfolding examine_job
job-examined n ws l = (of-yes (λ f. f.limit) low-limits n ws l, to-yes (λ f. f.limit) low-limits n ws l)
  where
    low-limits : (t : RegInfo) (f : Function) → function.Accepted t f → f.limit ≤ 2048
    low-limits t f a = low-limit t f a

pub job-examined-in : JobExaminedIn
unfolding examine_job_in
job-examined-in limit n ws l = (λ e. from (ltb 2048 limit) refl e, λ d. to d)
  where
    from : (b : Bool) → ltb 2048 limit ≡ b → pick b (Refused 2) (examine_opened (λ f. limit) n ws (opening 1 l)) ≡ Yes → (limit ≤ 2048) × DoesIt (λ f. limit) n ws l
    from true h e = absurd (not_yes 2 e)
    from false h e = let few : limit ≤ 2048 = ltb-false 2048 limit h in (few, of-yes (λ f. limit) (λ t f a. few) n ws l e)

    to : (limit ≤ 2048) × DoesIt (λ f. limit) n ws l → pick (ltb 2048 limit) (Refused 2) (examine_opened (λ f. limit) n ws (opening 1 l)) ≡ Yes
    to d = rw (le-ltb 2048 limit d.0) (to-yes (λ f. limit) (λ t f a. d.0) n ws l d.1)
