-- From `most_words` words on 16 never comes from a job: two words for each of its bytes and one for each patch are enough.
use Prim.Native.Nat.{ℕ, zero, suc, ◌+◌, ◌-◌, ◌*◌, ◌≤◌}
use mathlib.Core.Path.{◌≡◌, refl, sym, ap, subst, ◌∙◌}
use mathlib.Core.Bool.{false}
use mathlib.Core.List.{List, [], ◌∷◌}
use native.Mathlib.Omega.{arith}
use borrow.Author.Tests.{ltb-false, leb-true, le-ltb}
use lib.Dec.{leb}
use lib.ListN.{length}
use Rattle.entity.specs.Logic.{and}
use Rattle.entity.proofs.Laws.{and-true}
use Rattle.reginfo.specs.RegInfo.{RegInfo}
use Rattle.reginfo.specs.Refused as target
use Rattle.reginfo.specs.Refused.{refused_if, first_of, target_refusal}
use Rattle.function.specs.Function.{Function}
use Rattle.function.specs.Refused as function
use Rattle.rules.specs.Scratch.{Cache, empty_cache}
use Rattle.rules.specs.Patch.{Patch, nothing_sorted, Answer, answer_of, unless_refused, sorted, bound, free_destination, last_overlaps, patch_conditions, run, resolve_sorted, resolve}
use Rattle.rules.specs.Patch as rules
use Rattle.rules.specs.Refusals.{entries_conditions}
use Rattle.parallel_moves.proofs.First.{resolve-first}
use Rattle.number.specs.Read.{Read, got, refused}
use Rattle.reading.specs.Reading.{between}
use Rattle.job_target.specs.Target.{target}
use Rattle.job_function.specs.Reads.{function}
use Rattle.job_function.proofs.Accepted.{then-got, tested-got, read-accepted}
use Rattle.job_patch.specs.Patches.{patch}
use Rattle.job_rules.specs.Job.{Resolver, Header, before, after_read, after_call, after_target, header, opening, patches_by, job_by}
use Rattle.job_rules.proofs.WasRead.{early-got, given-got}
use Rattle.job_rules.proofs.Room.{room-for-every}
use Rattle.answer.specs.Room.{words_taken, call_in, patches_in, job_in_by, MostWordsBy, MostWords}
use Rattle.answer.proofs.Called.{Bounded, resolve-bounded}
use Rattle.answer.proofs.Bytes.{Leaves, leaves-got, target-less, function-less, tested-less, patch-leaves}

module _ (t : RegInfo) (f : Function) where
  -- a list that is long enough is not asked for its length
  enough : (p : Patch) (room : ℕ) (c : Cache) → bound (sorted t f p) ≤ room
      → resolve t f p room c
      ≡ unless_refused (first_of (entries_conditions t f p.entries nothing_sorted))
      (unless_refused (first_of (refused_if 13 (free_destination t f p (sorted t f p)) ∷ refused_if 14 (last_overlaps t f (sorted t f p)) ∷ refused_if 16 false ∷ [])) (answer_of (run t f p (sorted t f p) c)))
  unfolding resolve_sorted patch_conditions
  enough p room c h = resolve-first t f p room c ∙ rw (le-ltb room (bound (sorted t f p)) h)

-- a call that was lent room for the bound is not asked for more
abbrev pub Roomy : Resolver → Type 0
Roomy by =
    (t : RegInfo) (f : Function) → target.Accepted t → (p : Patch) (room room' : ℕ) (c : Cache) → bound (sorted t f p) ≤ room → bound (sorted t f p) ≤ room' → by t f p room c ≡ by t f p room' c

resolve-roomy : Roomy resolve
resolve-roomy t f ta p room room' c h q = enough t f p room c h ∙ sym (enough t f p room' c q)

module _ (by : Resolver) (bounded : Bounded by) (roomy : Roomy by) where
  module _ (t : RegInfo) (f : Function) (at : target.Accepted t) (af : function.Accepted t f) where
    same-call : (p : Patch) (left : ℕ) (c : Cache) → 1 + bound (sorted t f p) ≤ left → bound (sorted t f p) ≤ 1024 → call_in by t f p left c ≡ by t f p 1024 c
    same-call p zero c h q = absurd (omega arith)
    same-call p (suc left) c h q = roomy t f at p left 1024 c (omega arith) q

    -- what follows a call is the same, where it is so from every cache on and so many words are left
    after-call : (n : ℕ) (c : Cache) (left : ℕ) (p : Patch) (r : List ℕ) → 2 * length r + n + (1 + bound (sorted t f p)) ≤ left
        → ((c' : Cache) (left' : ℕ) → 2 * length r + n ≤ left' → patches_in by t f n c' left' r ≡ patches_by by t f n c' r)
        → (a : Answer) → by t f p 1024 c ≡ a
        → after_call a (λ c'. patches_in by t f n c' (left - words_taken a) r) ≡ after_call a (λ c'. patches_by by t f n c' r)
    after-call n c left p r h on (rules.refused k) e = refl
    after-call n c left p r h on (rules.resolved es c' m) e =
        let few = bounded t f at af p 1024 c c' es m e in
        ap (before (record { edits = es; made = c'.made; position = m })) (on c' (left - (1 + length es)) (omega arith))

    same : (n : ℕ) (c : Cache) (left : ℕ) (l : List ℕ) → 2 * length l + n ≤ left → patches_in by t f n c left l ≡ patches_by by t f n c l
    unfolding patches_in patches_by
    same zero c left l h = refl
    same (suc n) c left l h = go (patch t f l) refl (patch-leaves t f l) (λ r c' left' q. same n c' left' r q)
      where
        go : (x : Read Patch) → patch t f l ≡ x → Leaves (λ p. bound (sorted t f p)) (2 * length l) x
            → ((r : List ℕ) (c' : Cache) (left' : ℕ) → 2 * length r + n ≤ left' → patches_in by t f n c' left' r ≡ patches_by by t f n c' r)
            → after_read x (λ p r. after_call (call_in by t f p left c) (λ c'. patches_in by t f n c' (left - words_taken (call_in by t f p left c)) r))
            ≡ after_read x (λ p r. after_call (by t f p 1024 c) (λ c'. patches_by by t f n c' r))
        go (refused k) e q on = refl
        go (got p r) e q on =
            rw (same-call p left c (omega arith) (room-for-every t f l p r e))
            (after-call n c left p r (omega arith) (on r) (by t f p 1024 c) refl)

-- of a job that was opened: an accepted target and function with its setting, 1 to 1,024 patches, and no more bytes left than there were
pub record Opens (kept : ℕ) (l : List ℕ) (h : Header) (r : List ℕ) : Type 0 where
  pub target-taken : target.Accepted h.target
  pub function-taken : function.Accepted h.target h.function
  pub setting : h.function.kept ≡ kept
  pub some : 1 ≤ h.patches
  pub few : h.patches ≤ 1024
  pub short : length l ≤ 65536
  pub fewer : 2 * length r ≤ 2 * length l

pub opens : (kept : ℕ) (l : List ℕ) (h : Header) (r : List ℕ) → opening kept l ≡ got h r → Opens kept l h r
unfolding opening header after_target
opens kept l h r e =
    let a = early-got kept l (header kept l) h r e in
    let b = then-got (target l) _ h r a.2 in
    let c = given-got (target_refusal b.0) (after_target b.0 kept b.1) h r b.3 in
    let d = then-got (function b.0 kept b.1) _ h r c.1 in
    let x = then-got (between 1 1024 d.1) _ h r d.3 in
    let is : record { target = b.0; function = d.0; patches = x.0 } ≡ h = cc in
    let on : x.1 ≡ r = cc in
    let p = leaves-got (λ _. 0) (2 * length l) (target l) b.0 b.1 (target-less l) b.2 in
    let q = leaves-got (λ _. 0) (2 * length b.1) (function b.0 kept b.1) d.0 d.1 (function-less b.0 kept b.1) d.2 in
    let u = tested-less (λ n. and (leb 1 n) (leb n 1024)) d.1 x.0 x.1 x.2 in
    let v = read-accepted b.0 kept a.0 b.1 d.0 d.1 d.2 in
    let k = and-true (leb 1 x.0) (leb x.0 1024) (tested-got (λ n. and (leb 1 n) (leb n 1024)) d.1 x.0 x.1 x.2) in
    let o : Opens kept l (record { target = b.0; function = d.0; patches = x.0 }) x.1 =
    record {
      target-taken = c.0;
      function-taken = v.0;
      setting = v.1;
      some = leb-true 1 x.0 k.0;
      few = leb-true x.0 1024 k.1;
      short = ltb-false 65536 (length l) a.1;
      fewer = omega arith;
    } in
    subst (λ (q : List ℕ). Opens kept l h q) on (subst (λ (y : Header). Opens kept l y x.1) is o)

pub most-words-by : (by : Resolver) → Bounded by → Roomy by → MostWordsBy by
unfolding job_in_by job_by
most-words-by by bounded roomy room h kept l = go (opening kept l) refl
  where
    go : (x : Read Header) → opening kept l ≡ x
        → after_read x (λ h r. patches_in by h.target h.function h.patches empty_cache room r)
        ≡ after_read x (λ h r. patches_by by h.target h.function h.patches empty_cache r)
    go (refused k) e = refl
    go (got x r) e =
        let o = opens kept l x r e in
        same by bounded roomy x.target x.function o.target-taken o.function-taken x.patches empty_cache room r (omega (arith, o.few, o.short, o.fewer))

pub most-words : MostWords
most-words = most-words-by resolve resolve-bounded resolve-roomy
